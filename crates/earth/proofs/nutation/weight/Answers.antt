-- `earth::nutation::weight` meets its contract.
use lib.IntN.{pos}
use Rattle.numbers.proofs.Machine.{Mirror, ◌⊕◌, ◌⊗◌, arg, fits, floor_gave, kept, lit}
use Rattle.sum_terms.proofs.NarrowMirror.{narrow, widened}
use Rattle.earth.proofs.nutation.weight.Goals as goal
use Rattle.earth.proofs.nutation.weight.Goals.{After-floor_div, Start}

module _ (s : Start) where
  abbrev ten_a : Mirror
  ten_a = lit (pos 10) ⊗ narrow s.args.a s.requires.1.0 tt

  abbrev b_u : Mirror
  b_u = narrow s.args.b s.requires.1.1 tt ⊗ arg s.ranges.u s.requires.0

abbrev sum : After-floor_div → Mirror
sum c = kept (ten_a c.before) tt ⊕ floor_gave (kept (b_u c.before) tt) 1_000_000 c.floor_div.type_inv c.floor_div.ensures

pub overflow_cast-result : goal.overflow_cast-result
overflow_cast-result c = widened c.args.a c.requires.1.0 tt

pub overflow_mul-result : goal.overflow_mul-result
overflow_mul-result c = fits (ten_a c) tt

pub overflow_cast-b : goal.overflow_cast-b
overflow_cast-b c = widened c.args.b c.requires.1.1 tt

pub overflow_mul-b : goal.overflow_mul-b
overflow_mul-b c = fits (b_u c) tt

pub overflow_add-result : goal.overflow_add-result
overflow_add-result c = fits (sum c) tt

pub returns : goal.returns
returns c = (kept (sum c) tt).same
