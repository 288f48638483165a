use lib.ListN.{length, take}
use Rattle.octets.specs.Octets.{alike, joined}
use Rattle.octets.specs.Put.{Put}
use Rattle.octets.proofs.fields.put_alike.Given as goal

abbrev pub invariant-loop-number : goal.invariant-loop-number
invariant-loop-number l =
    Put l.initial.out l.at (joined (take l.number-index (alike (length l.numbers) l.width)) (take l.number-index l.numbers)) l.out l.next
