-- How large a sum, a difference and a product of whole numbers can be, on either side of zero.
use mathlib.Core.List.{[], ◌∷◌}
use mathlib.Core.Path.{◌∙◌, ◌≡◌, ap, refl, subst, sym}
use Prim.Native.Nat.{◌*◌, ◌+◌, ◌≤◌, suc, zero, ℕ}
use native.Mathlib.Nat.{le_trans, mul-le-mul_left, mul-le-mul_right}
use native.Mathlib.Omega.{arith}
use lib.Dec.{leb→le}
use lib.IntN.{◌*ℤ◌, ◌+ℤ◌, ◌-ℤ◌, nat_abs, negsuc, neg_ℤ, pos, ℤ}
use lib.Signed.{◌≤ℤ◌}
use Rattle.arithmetic.proofs.Difference.{#◌, ◌⊞◌, abs_parts, at_parts, by_le, ⊟◌, ⟨◌⟩}
use Rattle.arithmetic.proofs.Integers.{solveℤ}
use Rattle.arithmetic.proofs.Solver.{◌:+◌, ◌:-◌, x0, x1}

pub abs_add : (a b : ℤ) → nat_abs (a +ℤ b) ≤ nat_abs a + nat_abs b
abs_add a b = omega (arith, abs_parts (a +ℤ b), abs_parts a, abs_parts b, at_parts (⟨ a ⟩ ⊞ ⟨ b ⟩))

pub abs_neg : (a : ℤ) → nat_abs (neg_ℤ a) ≡ nat_abs a
abs_neg (pos zero) = refl
abs_neg (pos (suc k)) = refl
abs_neg (negsuc k) = refl

pub abs_mul : (a b : ℤ) → nat_abs (a *ℤ b) ≡ nat_abs a * nat_abs b
abs_mul (pos i) (pos j) = refl
abs_mul (pos i) (negsuc j) = abs_neg (pos (i * suc j))
abs_mul (negsuc i) (pos j) = abs_neg (pos (suc i * j))
abs_mul (negsuc i) (negsuc j) = refl

pub add_bound : (v u : ℤ) {m n : ℕ} → nat_abs v ≤ m → nat_abs u ≤ n → nat_abs (v +ℤ u) ≤ m + n
add_bound v u h k = omega (arith, abs_add v u)

pub sub_bound : (v u : ℤ) {m n : ℕ} → nat_abs v ≤ m → nat_abs u ≤ n → nat_abs (v -ℤ u) ≤ m + n
sub_bound v u h k = omega (arith, abs_add v (neg_ℤ u), abs_neg u)

pub mul_bound : (v u : ℤ) {m n : ℕ} → nat_abs v ≤ m → nat_abs u ≤ n → nat_abs (v *ℤ u) ≤ m * n
mul_bound v u {m} {n} h k = rw abs_mul (le_trans (mul-le-mul_left (nat_abs v) k) (mul-le-mul_right n h))

-- the size of a number between two that are not below zero
pub at_least : {k : ℕ} {z : ℤ} → pos k ≤ℤ z → k ≤ nat_abs z
at_least {k} {z = pos n} h = leb→le k n h.le
at_least {k} {z = negsuc n} h = absurd h.le

pub at_most : {j k : ℕ} {z : ℤ} → pos j ≤ℤ z → z ≤ℤ pos k → nat_abs z ≤ k
at_most {j} {k} {z = pos n} h l = leb→le n k l.le
at_most {j} {k} {z = negsuc n} h l = absurd h.le

-- what is known of a sum and of one part bounds the other
pub other_part : (x y z : ℤ) {m k : ℕ} → x +ℤ y ≡ z → nat_abs z ≤ m → nat_abs y ≤ k → nat_abs x ≤ m + k
other_part x y z {m} {k} e h l =
    subst (λ (w : ℤ). nat_abs w ≤ m + k) (ap (λ (w : ℤ). w -ℤ y) (sym e) ∙ solveℤ (x0 :+ x1 :- x1) x0 (x ∷ y ∷ []) tt) (sub_bound z y h l)

-- a whole number at most m below zero is not far below
pub not_far_below : (z : ℤ) (m : ℕ) → nat_abs z ≤ m → neg_ℤ (pos m) ≤ℤ z
not_far_below z m h = by_le (⊟ (# m)) ⟨ z ⟩ (omega (arith, abs_parts z, h))
