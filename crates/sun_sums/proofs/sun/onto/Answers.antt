-- `sun_sums::sun::onto` meets its contract.
use mathlib.Core.Path.{◌∙◌, ap}
use native.Mathlib.Nat.{le_trans}
use lib.IntN.{ℤ}
use Rattle.numbers.proofs.Machine.{Mirror, ◌⊕◌, ◌⊗◌, arg, fits, floor_gave, gave, kept}
use Rattle.sum_rules.specs.Sun.{group}
use Rattle.sum_terms.proofs.InstantLaws.{instant_told, u_told}
use Rattle.sun_sums.proofs.SunLaws.{group_most}
use Rattle.sun_sums.proofs.sun.onto.Goals as goal
use Rattle.sun_sums.proofs.sun.onto.Goals.{After-floor_div, After-group, Start}

abbrev product : Start → Mirror
product s = arg s.ranges.v s.requires.1.1 ⊗ u_told s.requires.0

abbrev group_mirror : After-group → Mirror
group_mirror c =
    let n = c.args.t.n in
    gave c.group.type_inv (c.group.ensures ∙ ap (λ (z : ℤ). group z c.args.rows.now) (instant_told c.requires.0).same)
    (le_trans (group_most n c.args.rows.now) c.requires.1.0.all)

abbrev sum : After-floor_div → Mirror
sum c =
    group_mirror (goal.at.After-floor_div c).After-group ⊕ floor_gave (kept (product (goal.at.After-floor_div c).Start) tt) 10_000_000
    c.floor_div.type_inv c.floor_div.ensures

pub overflow_mul-v : goal.overflow_mul-v
overflow_mul-v c = fits (product (goal.at.overflow_mul-v c).Start) tt

pub overflow_add-result : goal.overflow_add-result
overflow_add-result c = fits (sum (goal.at.overflow_add-result c).After-floor_div) tt

pub returns : goal.returns
returns c = (kept (sum (goal.at.returns c).After-floor_div) tt).same
