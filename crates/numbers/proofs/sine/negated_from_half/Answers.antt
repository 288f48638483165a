-- `numbers::sine::negated_from_half` meets its contract.
use mathlib.Core.Path.{◌∙◌, sym}
use Rattle.numbers.proofs.Machine.{fits, from_nat, kept, minus}
use Rattle.number_rules.proofs.SineLaws.{sign_high, sign_low}
use Rattle.numbers.proofs.sine.negated_from_half.Goals as goal

pub overflow_sub-result : goal.overflow_sub-result
overflow_sub-result c = fits (minus (from_nat c.requires tt)) tt

pub returns-then-a-ge-HALF : goal.returns-then-a-ge-HALF
returns-then-a-ge-HALF c = (kept (minus (from_nat c.requires tt)) tt).same ∙ sym (sign_high c.args.s c.if-a-ge-HALF.true)

pub returns-else-a-ge-HALF : goal.returns-else-a-ge-HALF
returns-else-a-ge-HALF c = (from_nat c.requires tt).same ∙ sym (sign_low c.args.s c.if-a-ge-HALF.false)
