-- `calendar::day_count::days_to_month` meets its contract.
use mathlib.Core.Path.{◌∙◌, sym}
use borrow.Author.Tests.{le-leb, lt-leb}
use Rattle.number_rules.proofs.CalendarLaws.{days_to_month_by}
use Rattle.calendar.proofs.day_count.days_to_month.Goals as goal

pub returns-then-m-le2 : goal.returns-then-m-le2
returns-then-m-le2 c =
    sym (days_to_month_by c.args.y c.args.m c.requires.0 c.requires.1 ∙ simp (le-leb _ _ c.if-m-le2.true))

pub returns-then-is_leap : goal.returns-then-is_leap
returns-then-is_leap c =
    sym
    (days_to_month_by c.args.y c.args.m c.requires.0 c.requires.1
    ∙ simp (lt-leb _ _ c.if-m-le2.false, sym c.is_leap.ensures ∙ c.if-is_leap.true))

pub returns : goal.returns
returns c =
    sym
    (days_to_month_by c.args.y c.args.m c.requires.0 c.requires.1
    ∙ simp (lt-leb _ _ c.if-m-le2.false, sym c.is_leap.ensures ∙ c.if-is_leap.false))
