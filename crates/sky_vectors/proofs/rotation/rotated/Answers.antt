-- `sky_vectors::rotation::rotated` meets its contract: each of its four products fits, and each sum of two.
use Rattle.numbers.proofs.Machine.{Mirror, ◌⊕◌, ◌⊖◌, ◌⊗◌, arg, fits, floor_gave, kept}
use Rattle.sky_vectors.specs.Product.{◌·◌}
use Rattle.sky_vectors.specs.Rotation.{rotated}
use Rattle.numbers.proofs.SineCosineLaws.{cosine_in, sine_in}
use Rattle.sky_vectors.proofs.rotation.rotated.Goals as goal
use Rattle.sky_vectors.proofs.rotation.rotated.Goals.{After-floor_div-2, After-floor_div-4, After-struct_told-2-1, Start}

module _ (k : After-struct_told-2-1) where
  abbrev start : Start
  start = k.before.before

  abbrev x : Mirror
  x = arg start.ranges.x start.requires.1

  abbrev y : Mirror
  y = arg start.ranges.y start.requires.2

  abbrev x_cosine : Mirror
  x_cosine = x ⊗ cosine_in start.requires.0

  abbrev y_sine : Mirror
  y_sine = y ⊗ sine_in start.requires.0

  abbrev y_cosine : Mirror
  y_cosine = y ⊗ cosine_in start.requires.0

  abbrev x_sine : Mirror
  x_sine = x ⊗ sine_in start.requires.0

abbrev along : After-floor_div-2 → Mirror
along c =
    let k = c.before.before in
    floor_gave (kept (x_cosine k) tt) 1_000_000_000 c.floor_div.type_inv c.floor_div.ensures
    ⊕ floor_gave (kept (y_sine k) tt) 1_000_000_000 c.floor_div-2.type_inv c.floor_div-2.ensures

abbrev across : After-floor_div-4 → Mirror
across c =
    let k = c.before.before.before.before in
    floor_gave (kept (y_cosine k) tt) 1_000_000_000 c.floor_div-3.type_inv c.floor_div-3.ensures
    ⊖ floor_gave (kept (x_sine k) tt) 1_000_000_000 c.floor_div-4.type_inv c.floor_div-4.ensures

pub overflow_mul-x : goal.overflow_mul-x
overflow_mul-x c = fits (x_cosine (goal.at.overflow_mul-x c).After-struct_told-2-1) tt

pub overflow_mul-y : goal.overflow_mul-y
overflow_mul-y c = fits (y_sine (goal.at.overflow_mul-y c).After-struct_told-2-1) tt

pub overflow_add-result : goal.overflow_add-result
overflow_add-result c = fits (along (goal.at.overflow_add-result c).After-floor_div-2) tt

pub overflow_mul-y-2 : goal.overflow_mul-y-2
overflow_mul-y-2 c = fits (y_cosine (goal.at.overflow_mul-y-2 c).After-struct_told-2-1) tt

pub overflow_mul-x-2 : goal.overflow_mul-x-2
overflow_mul-x-2 c = fits (x_sine (goal.at.overflow_mul-x-2 c).After-struct_told-2-1) tt

pub overflow_sub-result : goal.overflow_sub-result
overflow_sub-result c = fits (across (goal.at.overflow_sub-result c).After-floor_div-4) tt

pub returns : goal.returns
unfolding rotated ◌·◌
returns c = λ i. record { along = (kept (along (goal.at.returns c).After-floor_div-2) tt).same i; across = (kept (across (goal.at.returns c).After-floor_div-4) tt).same i }
