-- `sun_sums::sun::latitude_degrees` meets its contract.
use lib.IntN.{pos}
use Rattle.numbers.proofs.Machine.{Mirror, arg, lit}
use Rattle.numbers.proofs.WideProduct.{mul_div_asked, mul_div_gave}
use Rattle.sum_rules.specs.Sun.{latitude_degrees}
use Rattle.sun_sums.proofs.sun.latitude_degrees.Goals as goal
use Rattle.sun_sums.proofs.sun.latitude_degrees.Goals.{Start}

abbrev b_mirror : Start → Mirror
b_mirror s = arg s.ranges.b s.requires

pub mul_div-requires : goal.mul_div-requires
mul_div-requires c = mul_div_asked (b_mirror (goal.at.mul_div-requires c).Start) (lit (pos 5_729_577_951)) 10_000_000_000 tt

pub returns : goal.returns
unfolding latitude_degrees
returns c = (mul_div_gave (b_mirror (goal.at.returns c).Start) (lit (pos 5_729_577_951)) 10_000_000_000 c.mul_div.type_inv c.mul_div.ensures).same
