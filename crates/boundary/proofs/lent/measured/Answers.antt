-- `boundary::lent::measured` meets its contract: no bits are the double of 0.
use mathlib.Core.Path.{refl}
use lib.Ieee.{of_bits, of_int}
use Rattle.boundary.proofs.lent.measured.Goals as goal

pub returns-in-None : goal.returns-in-None
unfolding of_bits of_int
returns-in-None c = rw c.in-None.is refl
