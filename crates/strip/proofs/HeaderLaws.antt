-- The numbers of a header in the machine: casts, and two's complement of four octets.
use mathlib.Core.Bool.{Bool, cond, false, true}
use mathlib.Core.Path.{◌∙◌, ◌≡◌, ap, refl, subst⁻¹}
use Prim.Native.Nat.{◌*◌, ◌-◌, ◌<◌, ◌^◌, suc, ℕ}
use native.Mathlib.Omega.{arith}
use lib.Dec.{T, leb, ltb}
use lib.IntN.{nat_abs, negsuc, pos, ℤ}
use lib.Signed.{mag, non_neg}
use borrow.Author.Tests.{le-ltb, leb-false, leb-true, lt-ltb}
use mir.Syntax.{w32, w64}
use mir.Val.{Fits, SFits, of_z, to_z}
use mir.ValLaws.{to_z-of_z}
use Rattle.octets.specs.Again.{InHalves}
use Rattle.octets.specs.Octets.{complement, from_complement}
use Rattle.strip.proofs.CheckLaws.{Natural}

-- a number that is known to be natural, cast to 32 bits
pub to_narrow : {z : ℤ} {n : ℕ} → z ≡ pos n → n < 2 ^ 32 → T (non_neg z) × Fits w32 (nat_abs z)
to_narrow {z} {n} e h = subst⁻¹ (λ (x : ℤ). T (non_neg x) × Fits w32 (nat_abs x)) e (tt, record { fits = h })

module _ {z : ℤ} {least most : ℕ} (n : Natural least most z) (small : most < 2 ^ 32) where
  pub natural_same : to_z w64 (of_z w64 z) ≡ z
  natural_same = to_z-of_z w64 z (subst⁻¹ (SFits w64) n.is (record { sfits = omega (arith, n.most_is) }))

  pub cast_natural : T (non_neg (to_z w64 (of_z w64 z))) × Fits w32 (nat_abs (to_z w64 (of_z w64 z)))
  cast_natural = to_narrow (natural_same ∙ n.is) (omega (arith, n.most_is))

-- ---- two's complement

module _ (n : ℕ) where
  pub signed : to_z w32 n ≡ from_complement 4 n
  unfolding from_complement
  signed = by_half (leb 2_147_483_648 n) refl
    where
      by_half : (p : Bool) → leb 2_147_483_648 n ≡ p → to_z w32 n ≡ cond (ltb (2 * n) (256 ^ 4)) (pos n) (negsuc (256 ^ 4 - suc n))
      by_half true e = simp (le-ltb n 2_147_483_648 (leb-true 2_147_483_648 n e), le-ltb (2 * n) (256 ^ 4) (omega (arith, leb-true 2_147_483_648 n e)))
      by_half false e = simp (lt-ltb n 2_147_483_648 (leb-false 2_147_483_648 n e), lt-ltb (2 * n) (256 ^ 4) (omega (arith, leb-false 2_147_483_648 n e)))

-- a number that has room in four octets, cast to a signed one of 32 bits, and what its bits are
module _ {z : ℤ} (halves : InHalves 4 z) where
  narrow : SFits w32 z
  narrow = record { sfits = in_half z halves }
    where
      in_half : (z : ℤ) → InHalves 4 z → mag z < 2 ^ 31
      in_half (pos n) h = omega arith
      in_half (negsuc n) h = omega arith

  pub cast_narrow : {y : ℤ} → y ≡ z → SFits w32 y
  cast_narrow e = subst⁻¹ (SFits w32) e narrow

  pub unsigned : {y : ℤ} → y ≡ z → of_z w32 (to_z w32 (of_z w32 y)) ≡ complement 4 z
  unfolding complement
  unsigned {y} e = ap (of_z w32) (to_z-of_z w32 y (cast_narrow e) ∙ e) ∙ its_bits z
    where
      its_bits : (z : ℤ) → of_z w32 z ≡ complement 4 z
      its_bits (pos n) = refl
      its_bits (negsuc n) = refl
