use Prim.Native.Nat.{◌≤◌}
use lib.ListN.{length}
use Rattle.sum_terms.proofs.SumLoop.{Summed}
use Rattle.sum_terms.proofs.terms.term_sums.Given as goal

abbrev pub invariant-loop-row : goal.invariant-loop-row
invariant-loop-row g l =
    let t = g.T.RowTerms in
    (l.row-index ≤ length l.table) × (Summed (t.sine l.terms) l.table l.row-index l.sine × Summed (t.cosine l.terms) l.table l.row-index l.cosine)
