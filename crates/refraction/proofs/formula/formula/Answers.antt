-- `refraction::formula::formula` meets its contract. A literal is its bits to the machine, which compute to the rule's number.
use lib.Ieee as Ieee
use Rattle.refraction.specs.Refraction.{formula}
use Rattle.numbers.proofs.SineCosineLaws.{cosine_in, sine_in}
use Rattle.refraction.proofs.formula.formula.Goals as goal

pub returns : goal.returns
unfolding formula Ieee.of_bits Ieee.of_int Ieee.round
returns c =
    rw ((cosine_in c.requires).same, (sine_in c.requires).same)
