-- `checks::steps_of` meets its contract.
use mathlib.Core.Path.{◌∙◌, ap, subst⁻¹}
use Prim.Native.Nat.{◌/◌, ◌<◌}
use native.Mathlib.Omega.{arith}
use lib.IntN.{nat_abs, ℤ}
use Rattle.day.specs.Curve.{minutes}
use Rattle.numbers.proofs.Machine.{any, to_nat}
use Rattle.strip.proofs.CheckLaws.{Natural, step_natural}
use Rattle.strip.proofs.checks.steps_of.Goals as goal
use Rattle.strip.proofs.checks.steps_of.Goals.{Start}

natural : (c : Start) → Natural 1 10 c.args.step
natural c = step_natural c.args.step c.requires

pub overflow_cast-result : goal.overflow_cast-result
overflow_cast-result c = to_nat ((any c.ranges.step).same ∙ (natural (goal.at.overflow_cast-result c).Start).is) (omega (arith, (natural (goal.at.overflow_cast-result c).Start).most_is))

pub nonzero_div-result : goal.nonzero_div-result
nonzero_div-result c = subst⁻¹ (λ (z : ℤ). 0 < nat_abs z) (any c.ranges.step).same (omega (arith, (natural (goal.at.nonzero_div-result c).Start).least_is))

pub returns : goal.returns
returns c = ap (λ (z : ℤ). minutes / nat_abs z) (any c.ranges.step).same
