-- `sun_sums::sun::into_first` meets its contract.
use mathlib.Core.Path.{◌∙◌, ap}
use native.Mathlib.Nat.{le_trans}
use lib.IntN.{ℤ}
use Rattle.numbers.proofs.Machine.{Mirror, ◌⊕◌, arg, fits, gave, kept}
use Rattle.numbers.proofs.WideProduct.{mul_div_asked, mul_div_gave}
use Rattle.sum_rules.specs.Instant.{millennium}
use Rattle.sum_rules.specs.Sun.{group}
use Rattle.sun_sums.proofs.SunLaws.{group_most}
use Rattle.sun_sums.proofs.sun.into_first.Goals as goal
use Rattle.sun_sums.proofs.sun.into_first.Goals.{After-group, After-mul_div, Start}

abbrev v_mirror : Start → Mirror
v_mirror s = arg s.ranges.v s.requires.1.1

abbrev n_mirror : Start → Mirror
n_mirror s = arg s.ranges.n s.requires.0

abbrev group_mirror : After-group → Mirror
group_mirror c =
    gave c.group.type_inv (c.group.ensures ∙ ap (λ (z : ℤ). group z c.args.rows.now) (n_mirror (goal.at.After-group c).Start).same)
    (le_trans (group_most c.args.n c.args.rows.now) c.requires.1.0.all)

abbrev sum : After-mul_div → Mirror
sum c = group_mirror (goal.at.After-mul_div c).After-group ⊕ mul_div_gave (v_mirror (goal.at.After-mul_div c).Start) (n_mirror (goal.at.After-mul_div c).Start) millennium c.mul_div.type_inv c.mul_div.ensures

pub mul_div-requires : goal.mul_div-requires
mul_div-requires c = mul_div_asked (v_mirror (goal.at.mul_div-requires c).Start) (n_mirror (goal.at.mul_div-requires c).Start) millennium tt

pub overflow_add-result : goal.overflow_add-result
overflow_add-result c = fits (sum (goal.at.overflow_add-result c).After-mul_div) tt

pub returns : goal.returns
returns c = (kept (sum (goal.at.returns c).After-mul_div) tt).same
