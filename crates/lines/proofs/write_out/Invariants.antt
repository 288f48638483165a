use Rattle.std.proofs.Common.{◌≡◌, length}
use Rattle.lines.specs.Streams.{StartWritten}
use Rattle.lines.proofs.write_out.Given as goal

abbrev pub invariant-loop-rest : goal.invariant-loop-rest
invariant-loop-rest g l = (start : StartWritten (g.W.Write.contents l.fn.writer) (g.W.Write.contents l.writer) l.bytes) × (start.rest ≡ l.rest)

abbrev pub decreases-loop-rest : goal.decreases-loop-rest
decreases-loop-rest g l = length l.rest
