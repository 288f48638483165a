-- `arctangent::limbs::LimbsCoordinate::scaled` meets its contract.
use mathlib.Core.Path.{◌∙◌, ◌≡◌, ap, subst⁻¹}
use Prim.Native.Nat.{◌*◌, ◌^◌, ◌≤◌, ℕ}
use native.Mathlib.Nat.{le_trans}
use native.Mathlib.Omega.{arith}
use lib.Dec.{lit<, lit≤}
use lib.IntN.{◌*ℤ◌, ◌+ℤ◌, nat_abs, pos, ℤ}
use Rattle.arithmetic.specs.Floor.{◌modulo◌}
use Rattle.arithmetic.proofs.FloorLaws.{modulo_below}
use Rattle.arctangent.specs.Limbs.{limb}
use Rattle.arctangent.proofs.LimbLaws.{digit_proper, scaled_value}
use Rattle.numbers.proofs.Machine.{Mirror, ◌⊗◌, any, fits, from_nat, kept, lit, nat_fits, shr_by}
use Rattle.arctangent.proofs.limbs.LimbsCoordinate.scaled.Goals as goal
use Rattle.arctangent.proofs.limbs.LimbsCoordinate.scaled.Goals.{After-floor_mod, Start}

abbrev high : Start → Mirror
high s = kept (shr_by (any s.ranges.z) 16_384) tt

module _ (c : After-floor_mod) where
  abbrev z : ℤ
  z = c.args.z

  digit_is : c.floor_mod.result ≡ z modulo 16_384
  digit_is = c.floor_mod.ensures ∙ ap (λ (n : ℤ). n modulo 16_384) (any c.ranges.z).same

  digit_small : c.floor_mod.result ≤ 16_384
  digit_small = omega (arith, digit_is, modulo_below z {d = 16_384} (lit< tt))

  abbrev low : Mirror
  low = from_nat digit_small tt ⊗ lit (pos 1024)

  low_is : (kept low tt).machine ≡ pos (z modulo 16_384 * 1024)
  low_is = (kept low tt).same ∙ ap (λ (n : ℕ). pos (n * 1024)) digit_is

pub overflow_cast-low : goal.overflow_cast-low
overflow_cast-low c = nat_fits (digit_small (goal.at.overflow_cast-low c).After-floor_mod) tt

pub overflow_mul-low : goal.overflow_mul-low
overflow_mul-low c = fits (low (goal.at.overflow_mul-low c).After-floor_mod) tt

pub returns : goal.returns
returns c = (
  (λ i. (high (goal.at.returns c).Start).same i *ℤ pos limb +ℤ low_is (goal.at.returns c).After-floor_mod i) ∙ scaled_value (z (goal.at.returns c).After-floor_mod),
  digit_proper (z (goal.at.returns c).After-floor_mod modulo 16_384 * 1024) (low_is (goal.at.returns c).After-floor_mod) (omega (arith, modulo_below (z (goal.at.returns c).After-floor_mod) {d = 16_384} (lit< tt)))
      (subst⁻¹ (λ (h : ℤ). nat_abs h ≤ 2 ^ 60) (high (goal.at.returns c).Start).same (le_trans (high (goal.at.returns c).Start).bound (lit≤ tt))),
)
