-- `sky_vectors::vector::unit_vector` meets its contract.
use Rattle.numbers.proofs.Machine.{Mirror, ◌⊗◌, fits, floor_gave, kept}
use Rattle.sky_vectors.specs.Product.{◌·◌}
use Rattle.sky_vectors.specs.Vector.{unit_vector}
use Rattle.numbers.proofs.SineCosineLaws.{cosine_in, sine_in}
use Rattle.sky_vectors.proofs.vector.unit_vector.Goals as goal
use Rattle.sky_vectors.proofs.vector.unit_vector.Goals.{After-struct_told-4-1, Start}

module _ (k : After-struct_told-4-1) where
  abbrev start : Start
  start = k.before.before.before.before

  abbrev x : Mirror
  x = cosine_in start.requires.1 ⊗ cosine_in start.requires.0

  abbrev y : Mirror
  y = cosine_in start.requires.1 ⊗ sine_in start.requires.0

pub overflow_mul-flat : goal.overflow_mul-flat
overflow_mul-flat c = fits (x (goal.at.overflow_mul-flat c).After-struct_told-4-1) tt

pub overflow_mul-flat-2 : goal.overflow_mul-flat-2
overflow_mul-flat-2 c = fits (y (goal.at.overflow_mul-flat-2 c).After-struct_told-4-1) tt

pub returns : goal.returns
unfolding unit_vector ◌·◌
returns c =
    let k = (goal.at.returns c).After-struct_told-4-1 in
    λ i. record {
      x = (floor_gave (kept (x k) tt) 1_000_000_000 c.floor_div-x.type_inv c.floor_div-x.ensures).same i;
      y = (floor_gave (kept (y k) tt) 1_000_000_000 c.floor_div-y.type_inv c.floor_div-y.ensures).same i;
      z = (sine_in (start k).requires.1).same i;
    }
