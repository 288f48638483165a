-- What the inner functions answer, on the way from the curve to its rise and set.
use Rattle.std.specs.Prelude.{Bool, cond, List, suc, zero, ℕ, ◌-ℤ◌, pos, ℤ, get_or}
use Rattle.std.specs.Int.Signed.{lt_z}
use Rattle.day.specs.Curve.{elevation_from, last_minute}
use Rattle.day.specs.declared.date.Date.{Date}
use Rattle.sum_rules.specs.Instant.{first_day}
use Rattle.sky_vectors.specs.declared.geocentric.Body.{Body}
use Rattle.sky_vectors.specs.declared.station.Runner.{Runner}
use Rattle.rise_set.specs.Crossing.{crosses, is_up}
use Rattle.rise_set.specs.declared.crossing.Event.{Event}

-- entry m of a curve
abbrev pub entry : List ℤ → ℕ → ℤ
entry curve m = get_or curve m (pos 0)

-- whether the body is up at the minute before m, by the entries and what it was before the first
abbrev pub up_until : Bool → List ℤ → ℕ → Bool
up_until before curve zero = before
up_until before curve (suc m) = is_up (entry curve m)

abbrev pub crosses_in : Event → Bool → List ℤ → ℕ → Bool
crosses_in event before curve m = crosses event (up_until before curve m) (is_up (entry curve m))

-- at 23:59 of the day before; before the first day as at its minute 0, so that nothing is crossed there
abbrev pub up_before_day : Body → Runner → Date → ℤ → ℤ → Bool
up_before_day body runner date d first = cond (lt_z first_day d) (is_up (elevation_from body runner date (d -ℤ pos 1) last_minute)) (is_up first)
