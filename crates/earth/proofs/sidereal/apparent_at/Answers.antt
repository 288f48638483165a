-- `earth::sidereal::apparent_at` meets its contract.
use mathlib.Core.Path.{◌∙◌, ap, subst⁻¹}
use Prim.Native.Nat.{◌≤◌, ℕ}
use lib.IntN.{◌*ℤ◌, ◌+ℤ◌, pos}
use Rattle.arithmetic.specs.Floor.{⌊◌÷◌⌋}
use Rattle.number_rules.specs.Angle.{full_turn}
use Rattle.number_rules.specs.Sine.{cosine}
use Rattle.numbers.proofs.Machine.{Mirror, ◌⊕◌, ◌⊗◌, any, arg, fits, floor_gave, from_nat, gave, kept, nat_fits}
use Rattle.number_rules.proofs.SineSize.{cosine_most}
use Rattle.sum_rules.specs.Sidereal.{apparent}
use Rattle.sum_terms.proofs.InstantLaws.{mean_most}
use Rattle.earth.proofs.sidereal.apparent_at.Goals as goal
use Rattle.earth.proofs.sidereal.apparent_at.Goals.{After-cosine, After-floor_div, After-mean_at}

mean_small : (c : After-mean_at) → c.mean_at.result ≤ full_turn
mean_small c = subst⁻¹ (λ (m : ℕ). m ≤ full_turn) c.mean_at.ensures (mean_most c.args.t.n)

abbrev product : After-cosine → Mirror
product c =
    arg c.ranges.nutation c.requires.1
    ⊗ gave c.cosine.type_inv (c.cosine.ensures ∙ ap cosine (any c.ranges.obliquity).same) (cosine_most c.args.obliquity)

abbrev sum : After-floor_div → Mirror
sum c = from_nat (mean_small (goal.at.After-floor_div c).After-mean_at) tt ⊕ floor_gave (kept (product (goal.at.After-floor_div c).After-cosine) tt) 1_000_000_000 c.floor_div.type_inv c.floor_div.ensures

pub overflow_cast-result : goal.overflow_cast-result
overflow_cast-result c = nat_fits (mean_small (goal.at.overflow_cast-result c).After-mean_at) tt

pub returns : goal.returns
unfolding apparent
returns c =
    (kept (sum (goal.at.returns c).After-floor_div) tt).same
    ∙ ap (λ (m : ℕ). pos m +ℤ ⌊ c.args.nutation *ℤ cosine c.args.obliquity ÷ 1_000_000_000 ⌋) c.mean_at.ensures

pub overflow_mul-nutation : goal.overflow_mul-nutation
overflow_mul-nutation c = fits (product (goal.at.overflow_mul-nutation c).After-cosine) tt

pub overflow_add-result : goal.overflow_add-result
overflow_add-result c = fits (sum (goal.at.overflow_add-result c).After-floor_div) tt
