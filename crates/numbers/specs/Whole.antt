-- Whole numbers: orders, the sign, and the range of the wide product.
use Rattle.std.specs.Prelude.{Bool, ◌&&◌, ℕ, zero, suc, ◌^◌, ◌≤◌, ◌<◌, ℤ, pos, negsuc, nat_abs, ◌*ℤ◌}
use Rattle.std.specs.Int.Signed.{le_z}
use Rattle.arithmetic.specs.Floor.{⌊◌÷◌⌋}

-- by the sign of a number: above zero, zero, below zero
abbrev pub by_sign : {A : Type 0} → ℤ → A → A → A → A
by_sign (pos zero) above at below = at
by_sign (pos (suc n)) above at below = above
by_sign (negsuc n) above at below = below

-- lo to hi, both included
unfoldable pub between : ℤ → ℤ → ℤ → Bool
between lo x hi = le_z lo x && le_z x hi

-- 1, 0 or -1
abbrev pub sign : ℤ → ℤ
sign y = by_sign y (pos 1) (pos 0) (negsuc 0)

-- ⌊c n / d⌋ is worked in 64 bits where this holds: 01's products with an instant that pass 64 bits lie here, also in milliseconds
pub record MulDiv (c n : ℤ) (d : ℕ) : Type 0 where
  pub factor : nat_abs c ≤ 2 ^ 46
  pub time : nat_abs n ≤ 2 ^ 42
  pub above : 0 < d
  pub divisor : d ≤ 2 ^ 45
  pub quotient : nat_abs ⌊ c *ℤ n ÷ d ⌋ ≤ 2 ^ 61
