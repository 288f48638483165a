-- Division of a whole number by a whole number above zero, rounded down (01, "Units and rounding").
use Rattle.std.specs.Prelude.{◌%◌, ◌-◌, ◌/◌, suc, ℕ, negsuc, pos, ℤ}

-- every division is a floor, also below zero: the greatest whole number that is not above z / d
unfoldable pub ⌊◌÷◌⌋ : ℤ → ℕ → ℤ
⌊ pos n ÷ d ⌋ = pos (n / d)
⌊ negsuc n ÷ d ⌋ = negsuc (n / d)

-- what a floor leaves: z - d ⌊ z ÷ d ⌋, from 0 up to but not d
infixl 70 ◌modulo◌
unfoldable pub ◌modulo◌ : ℤ → ℕ → ℕ
pos n modulo d = n % d
negsuc n modulo d = d - suc (n % d)
