-- `sum_terms::instant::universal_time` meets its contract.
use Prim.Native.Nat.{◌/◌}
use lib.IntN.{pos}
use Rattle.numbers.proofs.Machine.{Mirror, ◌⊕◌, ◌⊖◌, ◌⊗◌, arg, kept, lit}
use Rattle.sum_rules.specs.Instant.{day}
use Rattle.sum_terms.proofs.instant.universal_time.Goals as goal
use Rattle.sum_terms.proofs.instant.universal_time.Goals.{Start}

abbrev days_part : Start → Mirror
days_part c = lit (pos day) ⊗ arg c.ranges.days c.requires.0

abbrev from_noon : Start → Mirror
from_noon c = kept (days_part c) tt ⊖ lit (pos (day / 2))

abbrev with_day : Start → Mirror
with_day c = kept (from_noon c) tt ⊕ arg c.ranges.elapsed c.requires.1.0

abbrev sum : Start → Mirror
sum c = kept (with_day c) tt ⊕ arg c.ranges.ut1 c.requires.1.1

pub returns : goal.returns
returns c = (kept (sum c) tt).same
