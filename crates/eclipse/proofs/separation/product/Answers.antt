-- `eclipse::separation::product` meets its contract.
use Rattle.numbers.proofs.Machine.{Mirror, ◌⊗◌, arg, fits, floor_gave, kept}
use Rattle.sky_vectors.specs.Product.{◌·◌}
use Rattle.eclipse.proofs.separation.product.Goals as goal
use Rattle.eclipse.proofs.separation.product.Goals.{Start}

abbrev whole : Start → Mirror
whole s = arg s.ranges.first s.requires.0 ⊗ arg s.ranges.second s.requires.1

pub overflow_mul-first : goal.overflow_mul-first
overflow_mul-first c = fits (whole (goal.at.overflow_mul-first c).Start) tt

pub returns : goal.returns
unfolding ◌·◌
returns c = (floor_gave (kept (whole (goal.at.returns c).Start) tt) 1_000_000_000 c.floor_div.type_inv c.floor_div.ensures).same
