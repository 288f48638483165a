-- Products of sines and cosines (01, "Units and rounding").
use Rattle.std.specs.Prelude.{◌*ℤ◌, ℤ}
use Rattle.arithmetic.specs.Floor.{⌊◌÷◌⌋}

-- a product of two sine-scaled numbers is floored by 10⁹ before it is added or subtracted
infixl 70 ◌·◌
unfoldable pub ◌·◌ : ℤ → ℤ → ℤ
a · b = ⌊ a *ℤ b ÷ 1_000_000_000 ⌋
