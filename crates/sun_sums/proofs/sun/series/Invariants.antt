use Rattle.sun_sums.proofs.SunLaws.{Upto}
use Rattle.sun_sums.proofs.sun.series.Given as goal

abbrev pub invariant-loop-rows : goal.invariant-loop-rows
invariant-loop-rows l =
    goal.iterator-loop-rows.can_next l.rows-iterator × (goal.iterator-loop-rows.is_finite l.rows-iterator × Upto (λ rows. rows.now) l.t.n l.above l.rows-iterator.iter.rest.now l.v)
