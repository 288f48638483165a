-- `numbers::whole::magnitude` meets its contract.
use mathlib.Core.Path.{◌∙◌, ◌≡◌, ap}
use lib.IntN.{◌-ℤ◌, nat_abs, negsuc, pos, ℤ}
use lib.Signed.{mag}
use mir.Syntax.{w64}
use mir.Val.{SFits}
use Rattle.arithmetic.proofs.FloorLaws.{above_is, below_is}
use Rattle.numbers.proofs.Machine.{Mirror, ◌⊖◌, any, fits_as, kept_as, less, lit, not_less, to_minus_one, to_nat}
use Rattle.numbers.proofs.whole.magnitude.Goals as goal
use Rattle.numbers.proofs.whole.magnitude.Goals.{Else-a-lt0, Then-a-lt0}

module _ (c : Then-a-lt0) where
  abbrev a : ℤ
  a = c.args.a

  abbrev below : Mirror
  below = lit (negsuc 0) ⊖ any c.ranges.a

  below_nat : below.number ≡ pos (mag a)
  below_nat = ap (λ (z : ℤ). negsuc 0 -ℤ z) (below_is (less (any c.ranges.a) (lit (pos 0)) c.if-a-lt0.true)) ∙ to_minus_one (mag a)

  below_fits : SFits w64 below.number
  below_fits = rw below_nat (record { sfits = c.ranges.a.sfits })

above_nat : (c : Else-a-lt0) → (any c.ranges.a).machine ≡ pos (mag c.args.a)
above_nat c = (any c.ranges.a).same ∙ above_is (not_less (any c.ranges.a) (lit (pos 0)) c.if-a-lt0.false)

pub overflow_sub-result : goal.overflow_sub-result
overflow_sub-result c = fits_as (below (goal.at.overflow_sub-result c).Then-a-lt0) (below_fits (goal.at.overflow_sub-result c).Then-a-lt0)

pub overflow_cast-result : goal.overflow_cast-result
overflow_cast-result c = to_nat ((kept_as (below (goal.at.overflow_cast-result c).Then-a-lt0) (below_fits (goal.at.overflow_cast-result c).Then-a-lt0)).same ∙ below_nat (goal.at.overflow_cast-result c).Then-a-lt0) c.ranges.a.sfits

pub overflow_cast-result-else-a-lt0 : goal.overflow_cast-result-else-a-lt0
overflow_cast-result-else-a-lt0 c = to_nat (above_nat (goal.at.overflow_cast-result-else-a-lt0 c).Else-a-lt0) c.ranges.a.sfits

pub returns-then-a-lt0 : goal.returns-then-a-lt0
returns-then-a-lt0 c = ap nat_abs ((kept_as (below (goal.at.returns-then-a-lt0 c).Then-a-lt0) (below_fits (goal.at.returns-then-a-lt0 c).Then-a-lt0)).same ∙ below_nat (goal.at.returns-then-a-lt0 c).Then-a-lt0)

pub returns-else-a-lt0 : goal.returns-else-a-lt0
returns-else-a-lt0 c = ap nat_abs (above_nat (goal.at.returns-else-a-lt0 c).Else-a-lt0)
