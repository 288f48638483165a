-- A proposal (02, Item 7: "minutes, strictly rising, first 0 and last 1439, each with an azimuth"), and refusals 29 and 30.
use Rattle.std.specs.Prelude.{Bool, ◌&&◌, not, List, ◌+◌, ◌-◌, ℕ, eqb, leb, nat_abs, pos, ℤ, get_or, length}
use Rattle.day.specs.Curve.{last_minute, minutes}
use Rattle.day.specs.Search.{first_where}
use Rattle.heading.specs.Heading.{is_reduced}
use Rattle.turning_points.specs.Arc.{are_opposite}
use Rattle.turning_points.specs.declared.arc.Leg.{Leg}

-- ---- points

-- the minute of point i, from 0
abbrev pub at : List ℕ → ℕ → ℕ
at list i = get_or list i 0

-- its azimuth, as the buffers of C hold it: a signed number
abbrev pub signed_at : List ℤ → ℕ → ℤ
signed_at list i = get_or list i (pos 0)

-- the same once it is known to be reduced
abbrev pub azimuth : List ℤ → ℕ → ℕ
azimuth list i = nat_abs (signed_at list i)

-- from point i to the next
abbrev pub leg_at : List ℕ → List ℤ → ℕ → Leg
leg_at list azimuths i = record { first = at list i; last = at list (i + 1); start = azimuth azimuths i; end = azimuth azimuths (i + 1) }

-- ---- 29: points not rising from 0 to 1439, fewer than 2 or more than 1,440, or an azimuth not reduced

-- the test holds at no number below n
unfoldable pub nowhere : (ℕ → Bool) → ℕ → Bool
nowhere test n = eqb (first_where test n) n

-- lists of the same length, of 2 to 1,440
unfoldable pub is_counted : ℕ → ℕ → Bool
is_counted points azimuths = eqb points azimuths && (leb 2 points && leb points minutes)

-- the minute of point i + 1 is not above that of point i
unfoldable pub falls : List ℕ → ℕ → Bool
falls list i = leb (at list (i + 1)) (at list i)

unfoldable pub never_falls : List ℕ → Bool
never_falls list = nowhere (falls list) (length list - 1)

-- strictly rising, first 0 and last 1439
unfoldable pub is_rising : List ℕ → Bool
is_rising list = eqb (at list 0) 0 && (eqb (at list (length list - 1)) last_minute && never_falls list)

unfoldable pub not_reduced : List ℤ → ℕ → Bool
not_reduced azimuths i = not (is_reduced (signed_at azimuths i))

unfoldable pub are_reduced : List ℤ → Bool
are_reduced azimuths = nowhere (not_reduced azimuths) (length azimuths)

unfoldable pub is_formed : List ℕ → List ℤ → Bool
is_formed list azimuths = is_counted (length list) (length azimuths) && (is_rising list && are_reduced azimuths)

-- ---- 30: neighbours exactly half a turn apart

unfoldable pub opposite_next : List ℤ → ℕ → Bool
opposite_next azimuths i = are_opposite (azimuth azimuths i) (azimuth azimuths (i + 1))

unfoldable pub are_turned : List ℤ → Bool
are_turned azimuths = nowhere (opposite_next azimuths) (length azimuths - 1)
