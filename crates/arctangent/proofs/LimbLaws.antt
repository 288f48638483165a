-- Numbers in two limbs.
use mathlib.Core.List.{[], ◌∷◌}
use mathlib.Core.Path.{◌∙◌, ◌≡◌, ap, refl, subst, subst⁻¹, sym}
use Prim.Native.Nat.{◌*◌, ◌+◌, ◌/◌, ◌<◌, ◌^◌, ◌≤◌, suc, zero, ℕ}
use native.Mathlib.Nat.{div-lt_iff_lt-mul, mul-le-mul_right}
use native.Mathlib.Omega.{arith}
use lib.Dec.{lit<}
use lib.IntN.{+ℤ_idl, ◌*ℤ◌, ◌+ℤ◌, ◌-ℤ◌, nat_abs, negsuc, pos, ℤ}
use lib.Signed.{◌<ℤ◌, ◌≤ℤ◌, mag}
use Rattle.arithmetic.specs.Floor.{◌modulo◌, ⌊◌÷◌⌋}
use Rattle.arithmetic.proofs.Difference.{#◌, ◌⊞◌, ◌⊠◌, by_le, by_lt, to_le, to_lt, ⟨◌⟩}
use Rattle.arithmetic.proofs.FloorLaws.{above_is, modulo_below, next_digit, split}
use Rattle.arithmetic.proofs.Integers.{linℤ, solveℤ}
use Rattle.arithmetic.proofs.Sizes.{abs_mul, other_part}
use Rattle.arithmetic.proofs.Solver.{◌:*◌, ◌:+◌, ◌:-◌, con, x0, x1, x2, x3, x4, x5, x6}
use Rattle.arctangent.specs.Limbs.{Proper, limb, value}
use Rattle.numbers.specs.Whole.{sign}
use Rattle.arctangent.specs.declared.limbs.Limbs.{Limbs}
use Rattle.numbers.proofs.SignLaws.{sign_above, sign_below}

-- what is known of a number that stands for a digit
pub digit_proper : {a : Limbs} (n : ℕ) → a.low ≡ pos n → n < limb → nat_abs a.high ≤ 2 ^ 60 → Proper a
digit_proper {a} n e h l = record {
  least = subst⁻¹ (λ (z : ℤ). pos 0 ≤ℤ z) e (by_le (# 0) (# n) (omega arith));
  most = subst⁻¹ (λ (z : ℤ). z <ℤ pos limb) e (by_lt (# n) (# limb) (omega arith));
  room = l;
}

module _ (a : Limbs) (p : Proper a) where
  pub low_is : a.low ≡ pos (mag a.low)
  low_is = above_is p.least

  pub low_small : mag a.low < limb
  low_small = let h = to_lt ⟨ pos (mag a.low) ⟩ (# limb) (subst (λ (z : ℤ). z <ℤ pos limb) low_is p.most) in omega arith

  pub low_most : nat_abs a.low ≤ limb
  low_most = rw (ap nat_abs low_is) (omega (arith, low_small))

  -- the sign is the high limb's, or where that is zero the low one's
  pub sign_of_low : a.high ≡ pos 0 → sign (value a) ≡ sign a.low
  sign_of_low e = ap sign (ap (λ (h : ℤ). h *ℤ pos limb +ℤ a.low) e ∙ +ℤ_idl a.low)

  pub sign_of_high : 0 < nat_abs a.high → sign (value a) ≡ sign a.high
  sign_of_high h = go a.high h
    where
      none : 0 < 0 → ⊥
      none h = omega arith

      go : (z : ℤ) → 0 < nat_abs z → sign (z *ℤ pos limb +ℤ a.low) ≡ sign z
      go (pos zero) h = absurd (none h)
      go (pos (suc n)) h =
          sign_above (pos 1) (pos 0) (negsuc 0) (pos (suc n) *ℤ pos limb +ℤ a.low)
          (by_lt (# 0) (# (suc n) ⊠ # limb ⊞ ⟨ a.low ⟩) (omega (arith, to_le (# 0) ⟨ a.low ⟩ p.least)))
      go (negsuc n) h =
          sign_below (pos 1) (pos 0) (negsuc 0) (negsuc n *ℤ pos limb +ℤ a.low)
          (by_lt (⟨ negsuc n ⟩ ⊠ # limb ⊞ ⟨ a.low ⟩) (# 0) (omega (arith, to_lt ⟨ a.low ⟩ (# limb) p.most)))

-- a number that leaves room, from its size and its digit
pub room_of : (h l : ℤ) → nat_abs (h *ℤ pos limb +ℤ l) ≤ 2 ^ 83 → nat_abs l ≤ limb → nat_abs h ≤ 2 ^ 60
room_of h l b k = omega (arith, other_part (h *ℤ pos limb) l (h *ℤ pos limb +ℤ l) refl b k, abs_mul h (pos limb))

-- ---- z times 1024
pub scaled_value : (z : ℤ) → ⌊ z ÷ 16_384 ⌋ *ℤ pos limb +ℤ pos (z modulo 16_384) *ℤ pos 1024 ≡ z *ℤ pos 1024
scaled_value z =
    linℤ (x0 :* con (pos limb) :+ x1 :* con (pos 1024)) (x2 :* con (pos 1024)) (con (negsuc 1023)) x2 (con (pos 16_384) :* x0 :+ x1)
    (⌊ z ÷ 16_384 ⌋ ∷ pos (z modulo 16_384) ∷ z ∷ []) tt (split z (lit< tt))

-- ---- a floor by p
module _ (h : ℤ) (l p : ℕ) (q : 0 < p) (m : l < limb) where
  abbrev pub rest : ℤ
  rest = pos (h modulo p) *ℤ pos limb +ℤ pos l

  pub divided_value : ⌊ h ÷ p ⌋ *ℤ pos limb +ℤ ⌊ rest ÷ p ⌋ ≡ ⌊ h *ℤ pos limb +ℤ pos l ÷ p ⌋
  divided_value = sym (next_digit h (pos l) limb q)

  rest_most : h modulo p * limb + l < limb * p
  rest_most = omega (arith, mul-le-mul_right limb (modulo_below h q))

  pub divided_digit : ⌊ rest ÷ p ⌋ ≡ pos ((h modulo p * limb + l) / p)
  unfolding ⌊◌÷◌⌋
  divided_digit = refl

  pub digit_most : (h modulo p * limb + l) / p < limb
  digit_most = (div-lt_iff_lt-mul q).1 rest_most

-- ---- a + c b
pub sum_value : (h l c k m carry : ℤ)
    → (h +ℤ c *ℤ k +ℤ carry) *ℤ pos limb +ℤ (l +ℤ c *ℤ m -ℤ carry *ℤ pos limb) ≡ h *ℤ pos limb +ℤ l +ℤ c *ℤ (k *ℤ pos limb +ℤ m)
sum_value h l c k m carry =
    solveℤ ((x0 :+ x2 :* x3 :+ x5) :* x6 :+ (x1 :+ x2 :* x4 :- x5 :* x6)) (x0 :* x6 :+ x1 :+ x2 :* (x3 :* x6 :+ x4)) (h ∷ l ∷ c ∷ k ∷ m ∷ carry ∷ pos limb ∷ []) tt
