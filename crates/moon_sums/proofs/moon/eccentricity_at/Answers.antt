-- `moon_sums::moon::eccentricity_at` meets its contract.
use lib.IntN.{negsuc, pos}
use Rattle.numbers.proofs.Machine.{Mirror, ◌⊕◌, ◌⊗◌, fits, floor_gave, kept, lit}
use Rattle.sum_terms.proofs.InstantLaws.{p2_told, u_told}
use Rattle.sum_rules.specs.Moon.{E, E2}
use Rattle.moon_sums.proofs.moon.eccentricity_at.Goals as goal
use Rattle.moon_sums.proofs.moon.eccentricity_at.Goals.{After-floor_div, After-floor_div-2, Start}

module _ (s : Start) where
  abbrev first_product : Mirror
  first_product = lit (negsuc 2515) ⊗ u_told s.requires

  abbrev second_product : Mirror
  second_product = lit (negsuc 73) ⊗ p2_told s.requires

abbrev from1 : After-floor_div → Start
from1 c = (goal.at.After-floor_div c).Start

abbrev from2 : After-floor_div-2 → Start
from2 c = from1 (goal.at.After-floor_div-2 c).After-floor_div

abbrev sum1 : After-floor_div → Mirror
sum1 c = lit (pos 1_000_000) ⊕ floor_gave (kept (first_product (from1 c)) tt) 1_000_000 c.floor_div.type_inv c.floor_div.ensures

abbrev sum2 : After-floor_div-2 → Mirror
sum2 c =
    kept (sum1 (goal.at.After-floor_div-2 c).After-floor_div) tt
    ⊕ floor_gave (kept (second_product (from2 c)) tt) 10_000_000 c.floor_div-2.type_inv c.floor_div-2.ensures

pub returns : goal.returns
unfolding E E2
returns c = λ i. record {
  e = (kept (sum2 (goal.at.returns c).After-floor_div-2) tt).same i;
  e2 = (floor_gave (kept (kept (sum2 (goal.at.returns c).After-floor_div-2) tt ⊗ kept (sum2 (goal.at.returns c).After-floor_div-2) tt) tt) 1_000_000 c.floor_div-e2.type_inv c.floor_div-e2.ensures).same i;
}

pub overflow_mul-t : goal.overflow_mul-t
overflow_mul-t c = fits (first_product (goal.at.overflow_mul-t c).Start) tt

pub overflow_add-e : goal.overflow_add-e
overflow_add-e c = fits (sum1 (goal.at.overflow_add-e c).After-floor_div) tt

pub overflow_mul-t-2 : goal.overflow_mul-t-2
overflow_mul-t-2 c = fits (second_product (from1 (goal.at.overflow_mul-t-2 c).After-floor_div)) tt

pub overflow_add-e-2 : goal.overflow_add-e-2
overflow_add-e-2 c = fits (sum2 (goal.at.overflow_add-e-2 c).After-floor_div-2) tt

pub overflow_mul-e : goal.overflow_mul-e
overflow_mul-e c = fits (kept (sum2 (goal.at.overflow_mul-e c).After-floor_div-2) tt ⊗ kept (sum2 (goal.at.overflow_mul-e c).After-floor_div-2) tt) tt
