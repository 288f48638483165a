-- `sun_sums::sun::group` meets its contract. The invariant: the sum is that of the rows before the index; n stands in it by its bits.
use mathlib.Core.Path.{refl}
use Prim.Native.Nat.{zero-le}
use native.Mathlib.Omega.{arith}
use lib.IntN.{ℤ}
use mir.Syntax.{w64}
use mir.Val.{of_z, to_z}
use Rattle.sum_rules.specs.Sun.{row_value}
use Rattle.sum_rules.specs.Table.{total}
use Rattle.sum_terms.proofs.SumLoop.{Next, next}
use Rattle.sun_sums.proofs.SunLaws.{group_summing}
use Rattle.sun_sums.proofs.sun.group.Goals as goal
use Rattle.sun_sums.proofs.sun.group.Goals.{After-row_value-sum, Start}

abbrev n : Start → ℤ
n s = to_z w64 (of_z w64 s.args.n)

-- a turn of the loop
module _ (c : After-row_value-sum) where
  abbrev begun : Start
  begun = c.before.before.before.before

  sum_next : Next (row_value (n begun)) c.args.rows.now c.loop-row.row-index c.loop-row.sum-bits c.row_value-sum.result
  sum_next =
      next (group_summing (n begun) c.args.rows.now c.requires.1) tt
      c.loop-row.row-index c.loop-row.sum-bits _ c.loop-row-test.true c.loop-row.invariant.1 c.row_value-sum.ensures

pub loop-row-init : goal.loop-row-init
unfolding total
loop-row-init c = (zero-le, refl)

pub overflow_add-sum : goal.overflow_add-sum
overflow_add-sum c = (sum_next (goal.at.overflow_add-sum c).After-row_value-sum).fit

pub loop-row-preserved : goal.loop-row-preserved
loop-row-preserved c = (omega (arith, c.loop-row-test.true), (sum_next (goal.at.loop-row-preserved c).After-row_value-sum).is)
