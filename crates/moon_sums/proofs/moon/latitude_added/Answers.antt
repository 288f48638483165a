-- `moon_sums::moon::latitude_added` meets its contract: six terms, added one by one.
use mathlib.Core.Path.{refl}
use Prim.Native.Nat.{ℕ}
use lib.IntN.{negsuc, pos}
use Rattle.numbers.proofs.Machine.{Mirror, ◌⊕◌, ◌⊖◌, any, arg, fits, kept, told}
use Rattle.sum_rules.specs.Table.{column}
use Rattle.moon_sums.proofs.MoonLaws.{added_gave}
use Rattle.moon_sums.proofs.moon.latitude_added.Goals as goal
use Rattle.moon_sums.proofs.moon.latitude_added.Goals.{After-added, After-added-2, After-added-3, After-added-4, After-added-5, After-added-6, Start}

module _ (s : Start) where
  abbrev argument : ℕ → Mirror
  argument i = told {r = column s.args.arguments i} refl (s.requires.1.0.below i) tt

  abbrev a1 : Mirror
  a1 = arg s.ranges.a1 s.requires.1.1

  abbrev a1_less_F : Mirror
  a1_less_F = a1 ⊖ argument 4

  abbrev a1_with_F : Mirror
  a1_with_F = a1 ⊕ argument 4

  abbrev L'_less_M' : Mirror
  L'_less_M' = argument 0 ⊖ argument 3

  abbrev L'_with_M' : Mirror
  L'_with_M' = argument 0 ⊕ argument 3

-- where the function began, from each term
abbrev from1 : After-added → Start
from1 c = c.before.before.before.before

abbrev from2 : After-added-2 → Start
from2 c = from1 c.before

abbrev from3 : After-added-3 → Start
from3 c = from2 c.before

abbrev from4 : After-added-4 → Start
from4 c = from3 c.before

abbrev from5 : After-added-5 → Start
from5 c = from4 c.before

abbrev from6 : After-added-6 → Start
from6 c = from5 c.before

-- the sum with each term
abbrev sum1 : After-added → Mirror
sum1 c =
    let s = from1 c in
    arg s.ranges.sum s.requires.0 ⊕ added_gave (negsuc 2234) (column s.args.arguments 0) c.added.type_inv c.added.ensures (argument s 0).same tt

abbrev sum2 : After-added-2 → Mirror
sum2 c = kept (sum1 c.before) tt ⊕ added_gave (pos 382) (from2 c).args.a3 c.added-2.type_inv c.added-2.ensures (any (from2 c).ranges.a3).same tt

abbrev sum3 : After-added-3 → Mirror
sum3 c =
    let angle = a1_less_F (from3 c) in
    kept (sum2 c.before) tt ⊕ added_gave (pos 175) angle.number c.added-3.type_inv c.added-3.ensures (kept angle tt).same tt

abbrev sum4 : After-added-4 → Mirror
sum4 c =
    let angle = a1_with_F (from4 c) in
    kept (sum3 c.before) tt ⊕ added_gave (pos 175) angle.number c.added-4.type_inv c.added-4.ensures (kept angle tt).same tt

abbrev sum5 : After-added-5 → Mirror
sum5 c =
    let angle = L'_less_M' (from5 c) in
    kept (sum4 c.before) tt ⊕ added_gave (pos 127) angle.number c.added-5.type_inv c.added-5.ensures (kept angle tt).same tt

abbrev sum6 : After-added-6 → Mirror
sum6 c =
    let angle = L'_with_M' (from6 c) in
    kept (sum5 c.before) tt ⊕ added_gave (negsuc 114) angle.number c.added-6.type_inv c.added-6.ensures (kept angle tt).same tt

pub overflow_add-result : goal.overflow_add-result
overflow_add-result c = fits (sum1 c) tt

pub overflow_add-result-2 : goal.overflow_add-result-2
overflow_add-result-2 c = fits (sum2 c) tt

pub overflow_add-result-3 : goal.overflow_add-result-3
overflow_add-result-3 c = fits (sum3 c) tt

pub overflow_add-a1 : goal.overflow_add-a1
overflow_add-a1 c = fits (a1_with_F (from3 c)) tt

pub overflow_add-result-4 : goal.overflow_add-result-4
overflow_add-result-4 c = fits (sum4 c) tt

pub overflow_sub-mean : goal.overflow_sub-mean
overflow_sub-mean c = fits (L'_less_M' (from4 c)) tt

pub overflow_add-result-5 : goal.overflow_add-result-5
overflow_add-result-5 c = fits (sum5 c) tt

pub overflow_add-mean : goal.overflow_add-mean
overflow_add-mean c = fits (L'_with_M' (from5 c)) tt

pub overflow_add-result-6 : goal.overflow_add-result-6
overflow_add-result-6 c = fits (sum6 c) tt

pub returns : goal.returns
returns c = (kept (sum6 c) tt).same
