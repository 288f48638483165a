-- The planner (02, Item 7: "a planner whose proposal is never refused, at any tolerance, and would be refused if any one inner point were dropped").
use Rattle.std.specs.Prelude.{Bool, ◌&&◌, not, true, List, ◌≡◌, ◌+◌, ◌-◌, suc, zero, ℕ, eqb, ltb, ℤ, length}
use Rattle.arctangent.specs.Direction.{angle_or, mark}
use Rattle.day.specs.Curve.{azimuth_on, each_below, last_minute, minutes}
use Rattle.day.specs.Search.{first_where}
use Rattle.day.specs.declared.date.Date.{Date}
use Rattle.sky_vectors.specs.declared.geocentric.Body.{Body}
use Rattle.sky_vectors.specs.declared.station.Point.{Point}
use Rattle.turning_points.specs.Arc.{are_opposite, distance, value_on}
use Rattle.turning_points.specs.Points.{are_reduced, are_turned, azimuth, nowhere, signed_at}
use Rattle.turning_points.specs.declared.arc.Leg.{Leg}

-- ---- the day

-- entry m is the azimuth at minute m; where there is none, the mark, which is no reduced angle
unfoldable pub day_azimuths : Date → Body → Point → List ℤ
day_azimuths date body point = each_below (λ m. angle_or mark (azimuth_on date body point m)) minutes

-- "no plan" where this fails: a minute of the day has no azimuth, or two adjacent minutes are exactly opposite (`Claims`)
unfoldable pub is_possible : List ℤ → Bool
is_possible day = are_reduced day && are_turned day

-- ---- the plan of a day by its azimuths: from each point straight to the farthest minute that the tolerance allows

abbrev pub straight : List ℤ → ℕ → ℕ → Leg
straight day a b = record { first = a; last = b; start = azimuth day a; end = azimuth day b }

module _ (tolerance : ℕ) (day : List ℤ) where
  -- minute m, after a, is out of tolerance on the leg from a to b
  unfoldable pub is_off : ℕ → ℕ → ℕ → Bool
  is_off a b m = ltb a m && ltb tolerance (distance (value_on (straight day a b) m) (azimuth day m))

  -- no minute up to b is, and the leg has a short way
  unfoldable pub reaches : ℕ → ℕ → Bool
  reaches a b = not (are_opposite (azimuth day a) (azimuth day b)) && nowhere (is_off a b) (b + 1)

  -- the farthest minute that is reached from a: the first one from the end of the day
  unfoldable pub farthest : ℕ → ℕ
  farthest a = last_minute - first_where (λ k. reaches a (last_minute - k)) (last_minute - a)

  -- the minute of turning point i
  unfoldable pub turning : ℕ → ℕ
  turning zero = 0
  turning (suc i) = farthest (turning i)

  -- the points up to the first at the last minute
  unfoldable pub count : ℕ
  count = first_where (λ i. eqb (turning i) last_minute) minutes + 1

  unfoldable pub plan_minutes : List ℕ
  plan_minutes = each_below turning count

  -- each with the day's azimuth
  unfoldable pub plan_azimuths : List ℤ
  plan_azimuths = each_below (λ i. signed_at day (turning i)) count

-- ---- how it is worked

-- an entry for each minute
abbrev pub EachMinute : {A : Type 0} → List A → Type 0
EachMinute list = length list ≡ minutes

-- a day that has a plan
pub record Plannable (day : List ℤ) : Type 0 where
  pub whole : EachMinute day
  pub reduced : are_reduced day ≡ true
  pub turned : are_turned day ≡ true
