-- `earth::nutation::obliquity_at` meets its contract.
use Prim.Native.Nat.{◌*◌, ◌/◌}
use lib.IntN.{negsuc, pos}
use Rattle.numbers.proofs.Machine.{Mirror, ◌⊕◌, ◌⊗◌, arg, fits, floor_gave, kept, lit}
use Rattle.sum_rules.specs.Nutation.{mean_obliquity}
use Rattle.sum_terms.proofs.InstantLaws.{p2_told, p3_told, u_told}
use Rattle.earth.proofs.nutation.obliquity_at.Goals as goal
use Rattle.earth.proofs.nutation.obliquity_at.Goals.{After-floor_div, After-floor_div-2, After-floor_div-3, Start}

module _ (s : Start) where
  abbrev first_product : Mirror
  first_product = lit (negsuc 468_092) ⊗ u_told s.requires.0

  abbrev second_product : Mirror
  second_product = lit (negsuc 154) ⊗ p2_told s.requires.0

  abbrev third_product : Mirror
  third_product = lit (pos 199_925) ⊗ p3_told s.requires.0

-- where the function began, from each floor
abbrev from1 : After-floor_div → Start
from1 c = (goal.at.After-floor_div c).Start

abbrev from2 : After-floor_div-2 → Start
from2 c = from1 (goal.at.After-floor_div-2 c).After-floor_div

abbrev from3 : After-floor_div-3 → Start
from3 c = from2 (goal.at.After-floor_div-3 c).After-floor_div-2

abbrev sum1 : After-floor_div → Mirror
sum1 c = lit (pos (84_381_448 * 250 / 9)) ⊕ floor_gave (kept (first_product (from1 c)) tt) 360_000 c.floor_div.type_inv c.floor_div.ensures

abbrev sum2 : After-floor_div-2 → Mirror
sum2 c = kept (sum1 (goal.at.After-floor_div-2 c).After-floor_div) tt ⊕ floor_gave (kept (second_product (from2 c)) tt) 36_000_000 c.floor_div-2.type_inv c.floor_div-2.ensures

abbrev sum3 : After-floor_div-3 → Mirror
sum3 c = kept (sum2 (goal.at.After-floor_div-3 c).After-floor_div-2) tt ⊕ floor_gave (kept (third_product (from3 c)) tt) 3_600_000_000 c.floor_div-3.type_inv c.floor_div-3.ensures

abbrev sum4 : After-floor_div-3 → Mirror
sum4 c = kept (sum3 c) tt ⊕ arg (from3 c).ranges.nutation (from3 c).requires.1

pub returns : goal.returns
unfolding mean_obliquity
returns c = (kept (sum4 (goal.at.returns c).After-floor_div-3) tt).same

pub overflow_mul-t : goal.overflow_mul-t
overflow_mul-t c = fits (first_product (goal.at.overflow_mul-t c).Start) tt

pub overflow_add-result : goal.overflow_add-result
overflow_add-result c = fits (sum1 (goal.at.overflow_add-result c).After-floor_div) tt

pub overflow_mul-t-2 : goal.overflow_mul-t-2
overflow_mul-t-2 c = fits (second_product (from1 (goal.at.overflow_mul-t-2 c).After-floor_div)) tt

pub overflow_add-result-2 : goal.overflow_add-result-2
overflow_add-result-2 c = fits (sum2 (goal.at.overflow_add-result-2 c).After-floor_div-2) tt

pub overflow_mul-t-3 : goal.overflow_mul-t-3
overflow_mul-t-3 c = fits (third_product (from2 (goal.at.overflow_mul-t-3 c).After-floor_div-2)) tt

pub overflow_add-result-3 : goal.overflow_add-result-3
overflow_add-result-3 c = fits (sum3 (goal.at.overflow_add-result-3 c).After-floor_div-3) tt

pub overflow_add-result-4 : goal.overflow_add-result-4
overflow_add-result-4 c = fits (sum4 (goal.at.overflow_add-result-4 c).After-floor_div-3) tt
