use Rattle.std.proofs.Common.{◌++◌, ◌≡◌, take}
use Rattle.text.proofs.buffer.Buffer.extend_from_slice.Given as goal

abbrev pub invariant-loop-byte : goal.invariant-loop-byte
invariant-loop-byte g l = l.self ≡ l.initial.self ++ take l.byte-index l.added
