-- `refraction::formula::raised` meets its contract.
use mathlib.Core.Path.{◌∙◌, ◌≡◌, ap, subst⁻¹}
use Prim.Native.Nat.{◌<◌}
use native.Mathlib.Omega.{arith}
use lib.IntN.{◌+ℤ◌, nat_abs, pos, ℤ}
use Rattle.arithmetic.specs.Floor.{⌊◌÷◌⌋}
use Rattle.numbers.proofs.Machine.{Mirror, ◌⊕◌, arg, fits, kept, lit, small_floor_gave, to_nat}
use Rattle.refraction.specs.Refraction.{raised}
use Rattle.refraction.proofs.RefractionLaws.{divisor}
use Rattle.refraction.proofs.formula.raised.Goals as goal
use Rattle.refraction.proofs.formula.raised.Goals.{After-floor_div, Start}

module _ (a : Start) where
  abbrev e : Mirror
  e = arg a.ranges.e a.requires.size

  abbrev sum : Mirror
  sum = kept (e ⊕ lit (pos 511_000_000)) tt

  sum_is : sum.machine ≡ pos (divisor a.requires).0
  sum_is = sum.same ∙ (divisor a.requires).1

abbrev result : After-floor_div → Mirror
result c = e c.before ⊕ small_floor_gave (lit (pos 103_000_000_000_000_000)) (nat_abs (sum c.before).machine) c.floor_div.type_inv c.floor_div.ensures

pub overflow_add-e : goal.overflow_add-e
overflow_add-e c = fits (e (goal.at.overflow_add-e c).Start ⊕ lit (pos 511_000_000)) tt

pub overflow_cast-e : goal.overflow_cast-e
overflow_cast-e c = to_nat (sum_is (goal.at.overflow_cast-e c).Start) (omega (arith, (divisor c.requires).3))

pub floor_div-requires : goal.floor_div-requires
floor_div-requires c = subst⁻¹ (λ (z : ℤ). 0 < nat_abs z) (sum_is (goal.at.floor_div-requires c).Start) (omega (arith, (divisor c.requires).2))

pub overflow_add-result : goal.overflow_add-result
overflow_add-result c = fits (result (goal.at.overflow_add-result c).After-floor_div) tt

pub returns : goal.returns
unfolding raised
returns c =
    (kept (result (goal.at.returns c).After-floor_div) tt).same
    ∙ ap (λ (z : ℤ). c.args.e +ℤ ⌊ pos 103_000_000_000_000_000 ÷ nat_abs z ⌋) (sum (goal.at.returns c).Start).same
