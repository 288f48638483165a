-- `sky_vectors::observer::shifted` meets its contract.
use Rattle.numbers.proofs.Machine.{Mirror, ◌⊖◌, ◌⊗◌, arg, field, fits, floor_gave, kept}
use Rattle.sky_vectors.specs.Observer.{shifted}
use Rattle.sky_vectors.specs.Product.{◌·◌}
use Rattle.sky_vectors.proofs.SkyMirror.{x_in, y_in, z_in}
use Rattle.sky_vectors.proofs.observer.shifted.Goals as goal
use Rattle.sky_vectors.proofs.observer.shifted.Goals.{After-floor_div, After-floor_div-2, After-struct_told-5-1, Start}

module _ (k : After-struct_told-5-1) where
  abbrev start : Start
  start = k.before.before.before.before.before

  abbrev p : Mirror
  p = arg start.ranges.p start.requires.0

  abbrev p_f : Mirror
  p_f = p ⊗ field start.args.observer.f start.requires.1.f_size tt

  abbrev p_g : Mirror
  p_g = p ⊗ field start.args.observer.g start.requires.1.g_size tt

abbrev x : After-floor_div → Mirror
x c =
    let k = c.before in
    x_in (start k).requires.2 tt ⊖ floor_gave (kept (p_f k) tt) 1_000_000_000 c.floor_div.type_inv c.floor_div.ensures

abbrev z : After-floor_div-2 → Mirror
z c =
    let k = c.before.before in
    z_in (start k).requires.2 tt ⊖ floor_gave (kept (p_g k) tt) 1_000_000_000 c.floor_div-2.type_inv c.floor_div-2.ensures

pub overflow_mul-p : goal.overflow_mul-p
overflow_mul-p c = fits (p_f (goal.at.overflow_mul-p c).After-struct_told-5-1) tt

pub overflow_sub-result : goal.overflow_sub-result
overflow_sub-result c = fits (x (goal.at.overflow_sub-result c).After-floor_div) tt

pub overflow_mul-p-2 : goal.overflow_mul-p-2
overflow_mul-p-2 c = fits (p_g (goal.at.overflow_mul-p-2 c).After-struct_told-5-1) tt

pub overflow_sub-result-2 : goal.overflow_sub-result-2
overflow_sub-result-2 c = fits (z (goal.at.overflow_sub-result-2 c).After-floor_div-2) tt

pub returns : goal.returns
unfolding shifted ◌·◌
returns c =
    λ i. record {
      x = (kept (x (goal.at.returns c).After-floor_div) tt).same i;
      y = (y_in (start (goal.at.returns c).After-struct_told-5-1).requires.2 tt).same i;
      z = (kept (z (goal.at.returns c).After-floor_div-2) tt).same i;
    }
