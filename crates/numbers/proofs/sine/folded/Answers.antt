-- `numbers::sine::folded` meets its contract.
use mathlib.Core.Path.{◌∙◌, sym}
use Rattle.number_rules.proofs.SineLaws.{fold_high, fold_low}
use Rattle.numbers.proofs.sine.folded.Goals as goal

pub returns-then-a-ge-HALF : goal.returns-then-a-ge-HALF
returns-then-a-ge-HALF c = c.half_folded.ensures ∙ sym (fold_high c.if-a-ge-HALF.true)

pub returns-else-a-ge-HALF : goal.returns-else-a-ge-HALF
returns-else-a-ge-HALF c = c.half_folded-else-a-ge-HALF.ensures ∙ sym (fold_low c.if-a-ge-HALF.false)
