-- The sign of a whole number: which case it leaves, and how large it is.
use mathlib.Core.Path.{◌≡◌, refl}
use Prim.Native.Nat.{◌<◌, ◌≤◌, suc, zero, ℕ}
use native.Mathlib.Nat.{mul-le-mul_right}
use native.Mathlib.Omega.{arith}
use lib.Dec.{leb→le, lit≤, ltb→lt}
use lib.IntN.{◌*ℤ◌, nat_abs, negsuc, pos, ℤ}
use lib.Signed.{◌<ℤ◌, ◌≤ℤ◌}
use Rattle.arithmetic.proofs.Sizes.{abs_mul}
use Rattle.numbers.specs.Whole.{by_sign, sign}

module _ {A : Type 0} (p z n : A) where
  pub sign_above : (y : ℤ) → pos 0 <ℤ y → by_sign y p z n ≡ p
  sign_above (pos zero) h = absurd (none (ltb→lt 0 0 h.lt))
    where
      none : 0 < 0 → ⊥
      none h = omega arith
  sign_above (pos (suc m)) h = refl
  sign_above (negsuc m) h = absurd h.lt

  pub sign_below : (y : ℤ) → y <ℤ pos 0 → by_sign y p z n ≡ n
  sign_below (pos m) h = absurd (none m (ltb→lt m 0 h.lt))
    where
      none : (m : ℕ) → m < 0 → ⊥
      none m h = omega arith
  sign_below (negsuc m) h = refl

  pub sign_zero : (y : ℤ) → y ≤ℤ pos 0 → pos 0 ≤ℤ y → by_sign y p z n ≡ z
  sign_zero (pos zero) h l = refl
  sign_zero (pos (suc m)) h l = absurd (none m (leb→le (suc m) 0 h.le))
    where
      none : (m : ℕ) → suc m ≤ 0 → ⊥
      none m h = omega arith
  sign_zero (negsuc m) h l = absurd l.le

pub sign_small : (y : ℤ) → nat_abs (sign y) ≤ 1
sign_small (pos zero) = lit≤ tt
sign_small (pos (suc m)) = lit≤ tt
sign_small (negsuc m) = lit≤ tt

-- the sign times a number is no larger
pub signed_small : (y z : ℤ) {m : ℕ} → nat_abs z ≤ m → nat_abs (sign y *ℤ z) ≤ m
signed_small y z {m} h = rw abs_mul (omega (arith, mul-le-mul_right (nat_abs z) (sign_small y)))
