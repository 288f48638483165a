-- `sky::shown::degrees` meets its contract. A literal is its bits to the machine, which compute to the rule's number.
use lib.Ieee as Ieee
use Rattle.numbers.proofs.Machine.{Mirror, arg}
use Rattle.sky.specs.Shown.{degrees}
use Rattle.refraction.proofs.DoubleMirror.{is_double}
use Rattle.sky.proofs.shown.degrees.Goals as goal
use Rattle.sky.proofs.shown.degrees.Goals.{Start}

abbrev x : Start → Mirror
x a = arg a.ranges.x a.requires

pub int_to_float-result : goal.int_to_float-result
int_to_float-result c = is_double (x (goal.at.int_to_float-result c).Start) tt

pub returns : goal.returns
unfolding degrees Ieee.of_bits Ieee.of_int
returns c = rw (x (goal.at.returns c).Start).same
