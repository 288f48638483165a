-- What tells the square root: its square is not above x, and the next square is.
use mathlib.Core.Bool.{Bool, cond, false, not, true}
use mathlib.Core.Path.{◌≡◌}
use Prim.Native.Nat.{◌*◌, ◌+◌, ◌<◌, ◌≤◌, suc, zero, ℕ}
use native.Mathlib.Decide.{dec_lt}
use native.Mathlib.Nat.{mul-le-mul}
use native.Mathlib.Omega.{arith}
use lib.Dec.{T, leb, leb→le, nleb→lt}
use Rattle.numbers.specs.Root.{Greatest, RootIsGreatest, greatest, root, square}

pub squares : {a b : ℕ} → a ≤ b → square a ≤ square b
squares h = mul-le-mul h h

pub under : (x r s : ℕ) → square r ≤ x → x < square (s + 1) → r ≤ s
under x r s h k = go (dec_lt s r)
  where
    go : Dec (s < r) → r ≤ s
    go (yes l) = let l' : s + 1 ≤ r = omega arith in absurd (omega (arith, squares l'))
    go (no f) = omega arith

-- a number between whose square and the next x lies
pub between : (x r : ℕ) → square r ≤ x → x < square (r + 1) → Greatest square x r
between x r low high = record { not_above = low; none_greater = λ n h. under x n r h high }

-- one more is too large
pub next_above : (f : ℕ → ℕ) (x r : ℕ) → Greatest f x r → x < f (r + 1)
next_above f x r g = go (dec_lt x (f (r + 1)))
  where
    go : Dec (x < f (r + 1)) → x < f (r + 1)
    go (yes l) = l
    go (no n) = absurd (omega (arith, g.none_greater (r + 1) (omega arith)))

by_test : (P : ℕ → Type 0) (b : Bool) (m n : ℕ) → (T b → P m) → (T (not b) → P n) → P (cond b m n)
by_test P true m n f g = f tt
by_test P false m n f g = g tt

greatest_is : (x n : ℕ) → x < square (n + 1) → Greatest square x (greatest x n)
unfolding greatest
greatest_is x zero h = between x zero (omega arith) h
greatest_is x (suc n) h =
    by_test (Greatest square x) (leb (suc n * suc n) x) (suc n) (greatest x n)
    (λ t. between x (suc n) (leb→le (suc n * suc n) x t) h)
    (λ t. greatest_is x n (let l = nleb→lt (suc n * suc n) x t in omega arith))

pub root_of : (x : ℕ) → Greatest square x (root x)
unfolding root
root_of x = greatest_is x x (omega arith)

-- no two numbers are the greatest
pub unique : (f : ℕ → ℕ) (x r s : ℕ) → Greatest f x r → Greatest f x s → r ≡ s
unique f x r s p q = omega (arith, p.none_greater s q.not_above, q.none_greater r p.not_above)

pub is_root : (x r : ℕ) → Greatest square x r → r ≡ root x
is_root x r g = unique square x r (root x) g (root_of x)

pub root_is_greatest : RootIsGreatest
root_is_greatest x r = ((λ e. rw e (root_of x)), is_root x r)

-- a root is at most one whose next square is above
pub root_most : (x b : ℕ) → x < (b + 1) * (b + 1) → root x ≤ b
root_most x b h = under x (root x) b (root_of x).not_above h
