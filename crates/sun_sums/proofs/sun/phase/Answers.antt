-- `sun_sums::sun::phase` meets its contract.
use Rattle.numbers.proofs.Machine.{Mirror, arg, from_nat}
use Rattle.numbers.proofs.WideProduct.{mul_div_asked}
use Rattle.sum_rules.specs.Instant.{millennium}
use Rattle.sun_sums.proofs.sun.phase.Goals as goal
use Rattle.sun_sums.proofs.sun.phase.Goals.{Start}

abbrev c_mirror : Start → Mirror
c_mirror s = from_nat s.requires.1 tt

abbrev n_mirror : Start → Mirror
n_mirror s = arg s.ranges.n s.requires.0

pub mul_div-requires : goal.mul_div-requires
mul_div-requires c = mul_div_asked (c_mirror (goal.at.mul_div-requires c).Start) (n_mirror (goal.at.mul_div-requires c).Start) millennium tt
