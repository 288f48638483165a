use mathlib.Core.Path.{◌≡◌}
use lib.ListN.{length, take}
use Rattle.lines.specs.Lines.{Answered}
use Rattle.lines.proofs.answers.answer_chunk.Given as goal

abbrev pub invariant-loop-byte : goal.invariant-loop-byte
invariant-loop-byte l = (length l.out ≡ length l.initial.out) × Answered l.form l.initial.turn.line (take l.byte-index l.chunk) l.out l.turn
