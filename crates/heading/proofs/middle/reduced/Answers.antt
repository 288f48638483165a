-- `heading::middle::reduced` meets its contract.
use mathlib.Core.Bool.{true}
use mathlib.Core.Path.{◌∙◌, ◌≡◌, ap, subst⁻¹, sym}
use Prim.Native.Nat.{◌<◌}
use native.Mathlib.Omega.{arith}
use lib.IntN.{nat_abs, pos, ℤ}
use Rattle.number_rules.specs.Angle.{full_turn}
use Rattle.numbers.proofs.Machine.{Mirror, any, to_nat}
use Rattle.heading.specs.Heading.{is_reduced}
use Rattle.heading.proofs.HeadingLaws.{below_turn, natural, yes_test}
use Rattle.heading.proofs.middle.reduced.Goals as goal
use Rattle.heading.proofs.middle.reduced.Goals.{Then-is_reduced}

module _ (c : Then-is_reduced) where
  abbrev x : Mirror
  x = any c.ranges.x

  is : is_reduced c.args.x ≡ true
  is = yes_test c.is_reduced.ensures x.same c.if-is_reduced.true

  below : nat_abs c.args.x < full_turn
  below = below_turn c.args.x is

pub overflow_cast-result : goal.overflow_cast-result
overflow_cast-result c = to_nat ((x c).same ∙ natural c.args.x (is c)) (omega (arith, below c))

pub returns-then-is_reduced : goal.returns-then-is_reduced
returns-then-is_reduced c =
    (natural c.args.x (is c) ∙ ap (λ (z : ℤ). pos (nat_abs z)) (sym (x c).same), subst⁻¹ (λ (z : ℤ). nat_abs z < full_turn) (x c).same (below c))
