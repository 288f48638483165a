-- How a value is compared with a printed one.
use Rattle.std.specs.Prelude.{Bool, cond, pos, ℤ, Float}
use Rattle.std.specs.Float.Ieee as Ieee
use Rattle.number_rules.specs.Angle.{full_turn}
use Rattle.refraction.specs.Air.{between_doubles}
use Rattle.refraction.specs.Double.{◌+d◌, ◌/d◌, double}
use Rattle.numbers.specs.Whole.{between}
use Rattle.sum_rules.specs.Instant.{minus}

-- at most the tolerance away; a float that is not a number is near nothing
abbrev pub near : Float → Float → Float → Bool
near value expected tolerance = between_doubles (Ieee.sub Ieee.binary64 expected tolerance) value (expected +d tolerance)

-- a whole number as a double, or no number beyond a turn
unfoldable pub whole : ℤ → Float
whole x = cond (between (minus full_turn) x (pos full_turn)) (double x) (double (pos 0) /d double (pos 0))
