-- `sum_terms::instant::value_at` meets its contract. Each read of a field is a step of its own, so the steps between two calls are named.
use mathlib.Core.Path.{◌∙◌, ◌≡◌, ap, refl}
use Prim.Native.Nat.{◌≤◌}
use native.Mathlib.Omega.{arith}
use lib.IntN.{pos, ℤ}
use Rattle.number_rules.specs.Angle.{full_turn, reduced}
use Rattle.numbers.proofs.Machine.{Mirror, ◌⊕◌, ◌⊗◌, fits, floor_gave, from_nat, kept, lit, nat_fits, small_floor_gave, told}
use Rattle.number_rules.proofs.SineLaws.{reduced_below}
use Rattle.numbers.proofs.WideProduct.{mul_div_asked, mul_div_gave}
use Rattle.sum_rules.specs.Instant.{century, value}
use Rattle.sum_rules.specs.declared.instant.Polynomial.{Polynomial}
use Rattle.sum_terms.proofs.InstantLaws.{instant_told, p2_told, p3_told, p4_told}
use Rattle.sum_terms.proofs.instant.value_at.Goals as goal
use Rattle.sum_terms.proofs.instant.value_at.Goals.{After-floor_div-fourth, After-floor_div-second, After-floor_div-third, After-mul_div-first, After-new, Start}

abbrev from_first : After-mul_div-first → Start
from_first c = (goal.at.After-mul_div-first c).Start

abbrev from_second : After-floor_div-second → After-mul_div-first
from_second c = (goal.at.After-floor_div-second c).After-mul_div-first

abbrev from_third : After-floor_div-third → After-floor_div-second
from_third c = (goal.at.After-floor_div-third c).After-floor_div-second

abbrev from_fourth : After-floor_div-fourth → After-floor_div-third
from_fourth c = (goal.at.After-floor_div-fourth c).After-floor_div-third

module _ (s : Start) where
  abbrev p : Polynomial
  p = s.args.p

  abbrev n : ℤ
  n = s.args.t.n

  abbrev c1_mirror : Mirror
  c1_mirror = told {r = p.c1} refl s.requires.0.c1_small tt

  abbrev second_product : Mirror
  second_product = told {r = p.c2} refl s.requires.0.c2_small tt ⊗ p2_told s.requires.1

  abbrev third_factor : Mirror
  third_factor = lit (pos 100) ⊗ told {r = p.s3} refl s.requires.0.s3_small tt

  abbrev third_product : Mirror
  third_product = kept third_factor tt ⊗ p3_told s.requires.1

  abbrev fourth_factor : Mirror
  fourth_factor = lit (pos 100) ⊗ told {r = p.s4} refl s.requires.0.s4_small tt

  abbrev fourth_product : Mirror
  fourth_product = kept fourth_factor tt ⊗ p4_told s.requires.1

abbrev first : After-mul_div-first → Mirror
first c = mul_div_gave (c1_mirror (from_first c)) (instant_told (from_first c).requires.1) century c.mul_div-first.type_inv c.mul_div-first.ensures

abbrev second : After-floor_div-second → Mirror
second c = floor_gave (kept (second_product (from_first (from_second c))) tt) 1_000_000 c.floor_div-second.type_inv c.floor_div-second.ensures

-- a floor by a number above zero that is not a numeral
abbrev third : After-floor_div-third → Mirror
third c = small_floor_gave (kept (third_product (from_first (from_second (from_third c)))) tt) _ c.floor_div-third.type_inv c.floor_div-third.ensures

abbrev fourth : After-floor_div-fourth → Mirror
fourth c = small_floor_gave (kept (fourth_product (from_first (from_second (from_third (from_fourth c))))) tt) _ c.floor_div-fourth.type_inv c.floor_div-fourth.ensures

module _ (c : After-floor_div-fourth) where
  abbrev begun : Start
  begun = from_first (from_second (from_third (from_fourth c)))

  abbrev sum1 : Mirror
  sum1 = told {r = (p begun).c0} refl begun.requires.0.c0_small tt ⊕ first (from_second (from_third (from_fourth c)))

  abbrev sum2 : Mirror
  sum2 = kept sum1 tt ⊕ second (from_third (from_fourth c))

  abbrev sum3 : Mirror
  sum3 = kept sum2 tt ⊕ third (from_fourth c)

  abbrev sum4 : Mirror
  sum4 = kept sum3 tt ⊕ fourth c

-- the reduced angle
units_are : (c : After-new) → c.new.result.units ≡ value (p (begun (goal.at.After-new c).After-floor_div-fourth)) (n (begun (goal.at.After-new c).After-floor_div-fourth))
unfolding value
units_are c = c.new.ensures ∙ ap reduced (kept (sum4 (goal.at.After-new c).After-floor_div-fourth) tt).same

units_small : (c : After-new) → c.new.result.units ≤ full_turn
unfolding value
units_small c = omega (arith, c.new.ensures, reduced_below (kept (sum4 (goal.at.After-new c).After-floor_div-fourth) tt).machine)

pub mul_div-first-requires : goal.mul_div-first-requires
mul_div-first-requires c = mul_div_asked (c1_mirror (goal.at.mul_div-first-requires c).Start) (instant_told c.requires.1) century tt

pub overflow_mul-p : goal.overflow_mul-p
overflow_mul-p c = fits (second_product (from_first (goal.at.overflow_mul-p c).After-mul_div-first)) tt

pub overflow_mul-p-3 : goal.overflow_mul-p-3
overflow_mul-p-3 c = fits (third_product (from_first (from_second (goal.at.overflow_mul-p-3 c).After-floor_div-second))) tt

pub overflow_mul-p-5 : goal.overflow_mul-p-5
overflow_mul-p-5 c = fits (fourth_product (from_first (from_second (from_third (goal.at.overflow_mul-p-5 c).After-floor_div-third)))) tt

pub overflow_cast-result : goal.overflow_cast-result
overflow_cast-result c = nat_fits (units_small (goal.at.overflow_cast-result c).After-new) tt

pub returns : goal.returns
returns c = (from_nat (units_small (goal.at.returns c).After-new) tt).same ∙ ap pos (units_are (goal.at.returns c).After-new)

pub overflow_add-p : goal.overflow_add-p
overflow_add-p c = fits (sum1 (goal.at.overflow_add-p c).After-floor_div-fourth) tt

pub overflow_add-p-2 : goal.overflow_add-p-2
overflow_add-p-2 c = fits (sum2 (goal.at.overflow_add-p-2 c).After-floor_div-fourth) tt

pub overflow_add-p-3 : goal.overflow_add-p-3
overflow_add-p-3 c = fits (sum3 (goal.at.overflow_add-p-3 c).After-floor_div-fourth) tt

pub overflow_add-p-4 : goal.overflow_add-p-4
overflow_add-p-4 c = fits (sum4 (goal.at.overflow_add-p-4 c).After-floor_div-fourth) tt
