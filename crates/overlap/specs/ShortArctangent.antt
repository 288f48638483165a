-- The arctangent, or a whole turn less it where that is smaller (02, Item 4).
use Rattle.std.specs.Prelude.{cond, ◌-◌, ℕ, ltb, nat_abs, ℤ}
use Rattle.number_rules.specs.Angle.{full_turn}
use Rattle.sky_vectors.specs.Horizon.{slope}

-- an angle, or a whole turn less it where that is smaller
unfoldable pub short_way : ℕ → ℕ
short_way angle = cond (ltb (full_turn - angle) angle) (full_turn - angle) angle

-- two zeros count as the elevation's do
unfoldable pub short_arctangent : ℤ → ℤ → ℕ
short_arctangent y x = short_way (nat_abs (slope y x))
