-- The air of an octet meets its contract: the two doubles are whole numbers.
use mathlib.Core.Path.{refl}
use lib.Ieee.{of_bits, of_int}
use borrow.Author.Tests.{ne_eqb}
use Rattle.strip.proofs.air.StripAirFromU32.from.Goals as goal

pub returns-else-byte-eq0 : goal.returns-else-byte-eq0
unfolding of_bits of_int
returns-else-byte-eq0 c = rw (ne_eqb c.args.byte 0 c.if-byte-eq0.false) refl
