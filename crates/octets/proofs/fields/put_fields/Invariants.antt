use lib.ListN.{take}
use Rattle.octets.specs.Octets.{joined}
use Rattle.octets.specs.Put.{Put}
use Rattle.octets.proofs.fields.put_fields.Given as goal

abbrev pub invariant-loop-field : goal.invariant-loop-field
invariant-loop-field l = Put l.initial.out l.at (joined (take l.field l.widths) (take l.field l.numbers)) l.out l.next
