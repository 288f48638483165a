use Prim.Native.Nat.{◌≤◌}
use lib.ListN.{length}
use Rattle.sum_rules.specs.Sun.{row_value}
use Rattle.sum_terms.proofs.SumLoop.{Summed}
use Rattle.sun_sums.proofs.sun.group.Given as goal

abbrev pub invariant-loop-row : goal.invariant-loop-row
invariant-loop-row l = (l.row-index ≤ length l.rows) × Summed (row_value l.n) l.rows l.row-index l.sum
