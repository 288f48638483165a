-- `numbers::sine::half_folded` meets its contract.
use mathlib.Core.Path.{sym}
use Rattle.number_rules.proofs.SineLaws.{half_high, half_low}
use Rattle.numbers.proofs.sine.half_folded.Goals as goal

pub returns-then-a-gt-QUARTER : goal.returns-then-a-gt-QUARTER
returns-then-a-gt-QUARTER c = sym (half_high c.if-a-gt-QUARTER.true)

pub returns-else-a-gt-QUARTER : goal.returns-else-a-gt-QUARTER
returns-else-a-gt-QUARTER c = sym (half_low c.if-a-gt-QUARTER.false)
