-- The square root (01, "Square root"): the greatest whole number whose square isn't above.
use Rattle.std.specs.Prelude.{cond, ◌↔◌, ◌≡◌, ◌*◌, ◌≤◌, suc, zero, ℕ, leb}

-- the greatest number, n or below, whose square is not above x
unfoldable pub greatest : ℕ → ℕ → ℕ
greatest x zero = 0
greatest x (suc n) = cond (leb (suc n * suc n) x) (suc n) (greatest x n)

unfoldable pub root : ℕ → ℕ
root x = greatest x x

-- r is the greatest whole number n for which f n is not above x
pub record Greatest (f : ℕ → ℕ) (x r : ℕ) : Type 0 where
  pub not_above : f r ≤ x
  pub none_greater : (n : ℕ) → f n ≤ x → n ≤ r

abbrev pub square : ℕ → ℕ
square n = n * n

-- the root is the greatest whole number whose square isn't above, and no other number is
abbrev pub RootIsGreatest : Type 0
RootIsGreatest = (x r : ℕ) → (r ≡ root x) ↔ Greatest square x r
