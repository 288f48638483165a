-- `moon_sums::moon::longitude_added` meets its contract: three terms, added one by one.
use mathlib.Core.Path.{refl}
use Prim.Native.Nat.{ℕ}
use lib.IntN.{pos}
use Rattle.numbers.proofs.Machine.{Mirror, ◌⊕◌, ◌⊖◌, any, arg, fits, kept, told}
use Rattle.sum_rules.specs.Table.{column}
use Rattle.moon_sums.proofs.MoonLaws.{added_gave}
use Rattle.moon_sums.proofs.moon.longitude_added.Goals as goal
use Rattle.moon_sums.proofs.moon.longitude_added.Goals.{After-added, After-added-2, After-added-3, Start}

module _ (s : Start) where
  abbrev argument : ℕ → Mirror
  argument i = told {r = column s.args.arguments i} refl (s.requires.1.below i) tt

  abbrev L'_less_F : Mirror
  L'_less_F = argument 0 ⊖ argument 4

-- where the function began, from each term
abbrev from1 : After-added → Start
from1 c = (goal.at.After-added c).Start

abbrev from2 : After-added-2 → Start
from2 c = from1 (goal.at.After-added-2 c).After-added

abbrev from3 : After-added-3 → Start
from3 c = from2 (goal.at.After-added-3 c).After-added-2

-- the sum with each term
abbrev sum1 : After-added → Mirror
sum1 c =
    let s = from1 c in
    arg s.ranges.sum s.requires.0 ⊕ added_gave (pos 3958) s.args.a1 c.added.type_inv c.added.ensures (any s.ranges.a1).same tt

abbrev sum2 : After-added-2 → Mirror
sum2 c =
    let angle = L'_less_F (from2 c) in
    kept (sum1 (goal.at.After-added-2 c).After-added) tt ⊕ added_gave (pos 1962) angle.number c.added-2.type_inv c.added-2.ensures (kept angle tt).same tt

abbrev sum3 : After-added-3 → Mirror
sum3 c =
    let s = from3 c in
    kept (sum2 (goal.at.After-added-3 c).After-added-2) tt ⊕ added_gave (pos 318) s.args.a2 c.added-3.type_inv c.added-3.ensures (any s.ranges.a2).same tt

pub overflow_add-result : goal.overflow_add-result
overflow_add-result c = fits (sum1 (goal.at.overflow_add-result c).After-added) tt

pub overflow_add-result-2 : goal.overflow_add-result-2
overflow_add-result-2 c = fits (sum2 (goal.at.overflow_add-result-2 c).After-added-2) tt

pub overflow_add-result-3 : goal.overflow_add-result-3
overflow_add-result-3 c = fits (sum3 (goal.at.overflow_add-result-3 c).After-added-3) tt

pub returns : goal.returns
returns c = (kept (sum3 (goal.at.returns c).After-added-3) tt).same
