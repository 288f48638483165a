-- A day's azimuths (02, Item 6: "one four-byte azimuth per step from minute 0, floored to 10⁻⁷ degree before the strip is made, 4,294,967,295 where absent").
use Rattle.std.specs.Prelude.{None, Some, List, ◌≡◌, ◌*◌, ◌/◌, ℕ, nat_abs, ℤ}
use Rattle.arctangent.specs.Direction.{Direction}
use Rattle.day.specs.Curve.{azimuth_from, azimuth_on, each_below}
use Rattle.day.specs.declared.date.Date.{Date}
use Rattle.number_rules.specs.Angle as Angle
use Rattle.sky_vectors.specs.declared.geocentric.Body.{Body}
use Rattle.sky_vectors.specs.declared.station.Point.{Point}
use Rattle.sky_vectors.specs.declared.station.Runner.{Runner}
use Rattle.strip.specs.Checks.{absent, full_turn, steps}

-- units of an angle, 10⁻⁸ degree, to one of a strip's, 10⁻⁷
abbrev pub coarser : ℕ
coarser = 10

-- the full turn of a strip is 01's
abbrev pub SameTurn : Type 0
SameTurn = full_turn * coarser ≡ Angle.full_turn

-- a direction as a strip has it
abbrev pub strip_azimuth : Direction → ℕ
strip_azimuth (Some angle) = angle.units / coarser
strip_azimuth None = absent

-- one azimuth per step from minute 0
unfoldable pub worked : Date → Body → Point → ℤ → List ℕ
worked date body point step = each_below (λ i. strip_azimuth (azimuth_on date body point (i * nat_abs step))) (steps step)

-- ---- how it is worked

-- the same from where a runner stands, who is worked out once
abbrev pub strip_azimuth_from : Body → Runner → Date → ℤ → ℕ → ℕ → ℕ
strip_azimuth_from body runner date d step i = strip_azimuth (azimuth_from body runner date d (i * step))
