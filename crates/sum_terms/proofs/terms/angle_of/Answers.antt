-- `sum_terms::terms::angle_of` meets its contract: five products, added one by one.
use mathlib.Core.Path.{refl}
use Prim.Native.Nat.{ℕ}
use Rattle.numbers.proofs.Machine.{Mirror, ◌⊕◌, ◌⊗◌, fits, kept, told}
use Rattle.sum_rules.specs.Table.{column}
use Rattle.sum_terms.proofs.NarrowMirror.{narrow}
use Rattle.sum_terms.proofs.terms.angle_of.Goals as goal
use Rattle.sum_terms.proofs.terms.angle_of.Goals.{After-result-10-1, After-result-2-1, After-result-4-1, After-result-6-1, After-result-8-1, Start}

module _ (s : Start) where
  abbrev product : ℕ → Mirror
  product i = narrow (column s.args.multiples i) (s.requires.1.below i) tt ⊗ told {r = column s.args.arguments i} refl (s.requires.0.below i) tt

  abbrev sum1 : Mirror
  sum1 = kept (product 0) tt ⊕ kept (product 1) tt

  abbrev sum2 : Mirror
  sum2 = kept sum1 tt ⊕ kept (product 2) tt

  abbrev sum3 : Mirror
  sum3 = kept sum2 tt ⊕ kept (product 3) tt

  abbrev sum4 : Mirror
  sum4 = kept sum3 tt ⊕ kept (product 4) tt

-- where the function began, from each product
abbrev from0 : After-result-2-1 → Start
from0 c = c.before.before

abbrev from1 : After-result-4-1 → Start
from1 c = from0 c.before.before

abbrev from2 : After-result-6-1 → Start
from2 c = from1 c.before.before

abbrev from3 : After-result-8-1 → Start
from3 c = from2 c.before.before

abbrev from4 : After-result-10-1 → Start
from4 c = from3 c.before.before

pub overflow_mul-result : goal.overflow_mul-result
overflow_mul-result c = fits (product (from0 c) 0) tt

pub overflow_mul-result-2 : goal.overflow_mul-result-2
overflow_mul-result-2 c = fits (product (from1 c) 1) tt

pub overflow_add-result : goal.overflow_add-result
overflow_add-result c = fits (sum1 (from1 c)) tt

pub overflow_mul-result-3 : goal.overflow_mul-result-3
overflow_mul-result-3 c = fits (product (from2 c) 2) tt

pub overflow_add-result-2 : goal.overflow_add-result-2
overflow_add-result-2 c = fits (sum2 (from2 c)) tt

pub overflow_mul-result-4 : goal.overflow_mul-result-4
overflow_mul-result-4 c = fits (product (from3 c) 3) tt

pub overflow_add-result-3 : goal.overflow_add-result-3
overflow_add-result-3 c = fits (sum3 (from3 c)) tt

pub overflow_mul-result-5 : goal.overflow_mul-result-5
overflow_mul-result-5 c = fits (product (from4 c) 4) tt

pub overflow_add-result-4 : goal.overflow_add-result-4
overflow_add-result-4 c = fits (sum4 (from4 c)) tt

pub returns : goal.returns
returns c = (kept (sum4 (from4 c)) tt).same
