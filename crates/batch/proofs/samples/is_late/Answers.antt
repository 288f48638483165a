-- `batch::samples::is_late` meets its contract.
use mathlib.Core.Path.{refl}
use Prim.Native.Nat.{◌^◌, ◌≤◌}
use borrow.Author.Rules.{rules}
use Rattle.numbers.proofs.Machine.{Mirror, ◌⊕◌, arg, fits, from_nat, kept}
use Rattle.batch.proofs.BatchLaws.{last_is}
use Rattle.batch.specs.Batch.{is_late}
use Rattle.batch.proofs.samples.is_late.Goals as goal
use Rattle.batch.proofs.samples.is_late.Goals.{Start}

module _ (s : Start) where
  offset_small : s.args.offset ≤ 2 ^ 32
  offset_small = search rules

  abbrev sum : Mirror
  sum = arg s.ranges.start s.requires ⊕ from_nat offset_small tt

pub overflow_add-result : goal.overflow_add-result
overflow_add-result c = fits (sum (goal.at.overflow_add-result c).Start) tt

pub returns : goal.returns
unfolding is_late
returns c = rw (last_is, (kept (sum (goal.at.returns c).Start) tt).same) refl
