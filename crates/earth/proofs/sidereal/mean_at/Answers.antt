-- `earth::sidereal::mean_at` meets its contract.
use mathlib.Core.Path.{◌∙◌, ap}
use Prim.Native.Nat.{◌*◌}
use lib.IntN.{negsuc, pos}
use Rattle.number_rules.specs.Angle.{reduced}
use Rattle.numbers.proofs.Machine.{Mirror, ◌⊕◌, ◌⊗◌, fits, floor_gave, kept, lit}
use Rattle.numbers.proofs.WideProduct.{mul_div_asked, mul_div_gave}
use Rattle.sum_rules.specs.Instant.{day}
use Rattle.sum_rules.specs.Sidereal.{mean}
use Rattle.sum_terms.proofs.InstantLaws.{instant_told, p2_told, p3_told}
use Rattle.earth.proofs.sidereal.mean_at.Goals as goal
use Rattle.earth.proofs.sidereal.mean_at.Goals.{After-floor_div-second, After-floor_div-third, After-mul_div-turned, Start}

module _ (s : Start) where
  abbrev second_product : Mirror
  second_product = lit (pos 387_933) ⊗ p2_told s.requires

  abbrev third_product : Mirror
  third_product = lit (negsuc 99) ⊗ p3_told s.requires

-- where the function began, from each floor
abbrev from1 : After-mul_div-turned → Start
from1 c = (goal.at.After-mul_div-turned c).Start

abbrev from2 : After-floor_div-second → Start
from2 c = from1 (goal.at.After-floor_div-second c).After-mul_div-turned

abbrev from3 : After-floor_div-third → Start
from3 c = from2 (goal.at.After-floor_div-third c).After-floor_div-second

abbrev sum1 : After-mul_div-turned → Mirror
sum1 c =
    lit (pos 28_046_061_837)
    ⊕ mul_div_gave (lit (pos 36_098_564_736_629)) (instant_told (from1 c).requires) (1000 * day) c.mul_div-turned.type_inv c.mul_div-turned.ensures

abbrev sum2 : After-floor_div-second → Mirror
sum2 c = kept (sum1 (goal.at.After-floor_div-second c).After-mul_div-turned) tt ⊕ floor_gave (kept (second_product (from2 c)) tt) 10_000_000 c.floor_div-second.type_inv c.floor_div-second.ensures

abbrev sum3 : After-floor_div-third → Mirror
sum3 c = kept (sum2 (goal.at.After-floor_div-third c).After-floor_div-second) tt ⊕ floor_gave (kept (third_product (from3 c)) tt) 38_710_000 c.floor_div-third.type_inv c.floor_div-third.ensures

pub mul_div-turned-requires : goal.mul_div-turned-requires
mul_div-turned-requires c = mul_div_asked (lit (pos 36_098_564_736_629)) (instant_told c.requires) (1000 * day) tt

pub overflow_add-turned : goal.overflow_add-turned
overflow_add-turned c = fits (sum1 (goal.at.overflow_add-turned c).After-mul_div-turned) tt

pub returns : goal.returns
unfolding mean
returns c = c.new.ensures ∙ ap reduced (kept (sum3 (goal.at.returns c).After-floor_div-third) tt).same

pub overflow_mul-t : goal.overflow_mul-t
overflow_mul-t c = fits (second_product (from1 (goal.at.overflow_mul-t c).After-mul_div-turned)) tt

pub overflow_mul-t-2 : goal.overflow_mul-t-2
overflow_mul-t-2 c = fits (third_product (from2 (goal.at.overflow_mul-t-2 c).After-floor_div-second)) tt

pub overflow_add-turned-2 : goal.overflow_add-turned-2
overflow_add-turned-2 c = fits (sum2 (goal.at.overflow_add-turned-2 c).After-floor_div-second) tt

pub overflow_add-turned-3 : goal.overflow_add-turned-3
overflow_add-turned-3 c = fits (sum3 (goal.at.overflow_add-turned-3 c).After-floor_div-third) tt
