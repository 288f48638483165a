use Rattle.std.specs.Prelude.{Some}
use Rattle.std.proofs.Common.{◌≡◌, ℕ, List}
use Rattle.lines.proofs.StreamLaws.{Progress}
use Rattle.lines.proofs.answer_all.Given as goal

abbrev pub invariant-loop : goal.invariant-loop
invariant-loop g l =
    (whole : List ℕ) → g.R.Read.remaining l.fn.reader ≡ Some whole
    → Progress l.form whole (g.R.Read.remaining l.reader) (g.W.Write.contents l.fn.writer) (g.W.Write.contents l.writer) l.line l.counter
