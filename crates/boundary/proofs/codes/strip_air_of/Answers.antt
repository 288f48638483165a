-- `boundary::codes::strip_air_of` meets its contract.
use lib.Ieee.{of_bits, of_int}
use borrow.Author.Tests.{eq-eqb, ne_eqb}
use Rattle.boundary.proofs.codes.strip_air_of.Goals as goal

pub returns-then-kind-eq-NONE : goal.returns-then-kind-eq-NONE
returns-then-kind-eq-NONE c = simp (eq-eqb _ _ c.if-kind-eq-NONE.true)

pub returns-then-kind-eq-MEASURED : goal.returns-then-kind-eq-MEASURED
unfolding of_bits of_int
returns-then-kind-eq-MEASURED c = simp (ne_eqb _ _ c.if-kind-eq-NONE.false, eq-eqb _ _ c.if-kind-eq-MEASURED.true)

pub returns-else-kind-eq-MEASURED : goal.returns-else-kind-eq-MEASURED
unfolding of_bits of_int
returns-else-kind-eq-MEASURED c = simp (ne_eqb _ _ c.if-kind-eq-NONE.false, ne_eqb _ _ c.if-kind-eq-MEASURED.false)
