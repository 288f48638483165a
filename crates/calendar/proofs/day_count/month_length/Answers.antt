-- `calendar::day_count::month_length` meets its contract.
use mathlib.Core.Path.{◌∙◌, sym}
use borrow.Author.Tests.{eq-eqb, ne_eqb}
use Rattle.number_rules.proofs.CalendarLaws.{month_length_by}
use Rattle.calendar.proofs.day_count.month_length.Goals as goal

pub returns-then-is_leap : goal.returns-then-is_leap
returns-then-is_leap c =
    sym
    (month_length_by c.args.y c.args.m c.requires.0 c.requires.1
    ∙ simp (eq-eqb _ _ c.if-m-eq2.true, sym c.is_leap.ensures ∙ c.if-is_leap.true))

pub returns-else-is_leap : goal.returns-else-is_leap
returns-else-is_leap c =
    sym
    (month_length_by c.args.y c.args.m c.requires.0 c.requires.1
    ∙ simp (eq-eqb _ _ c.if-m-eq2.true, sym c.is_leap.ensures ∙ c.if-is_leap.false))

pub returns-else-m-eq2 : goal.returns-else-m-eq2
returns-else-m-eq2 c =
    sym (month_length_by c.args.y c.args.m c.requires.0 c.requires.1 ∙ simp (ne_eqb _ _ c.if-m-eq2.false))
