-- `calendar::day_count::is_leap` meets its contract.
use borrow.Author.Tests.{eq-eqb, ne_eqb}
use Rattle.number_rules.specs.Calendar.{leap}
use Rattle.calendar.proofs.day_count.is_leap.Goals as goal

pub returns-then-y-eq0 : goal.returns-then-y-eq0
unfolding leap
returns-then-y-eq0 c = simp (eq-eqb _ _ c.if-y-eq0.true)

pub returns-then-y-eq0-2 : goal.returns-then-y-eq0-2
unfolding leap
returns-then-y-eq0-2 c = simp (ne_eqb _ _ c.if-y-eq0.false, eq-eqb _ _ c.if-y-eq0-2.true)

pub returns : goal.returns
unfolding leap
returns c = simp (ne_eqb _ _ c.if-y-eq0.false, ne_eqb _ _ c.if-y-eq0-2.false)
