-- `calendar::day_count::days_to_year` meets its contract.
use mathlib.Core.Path.{sym}
use Rattle.number_rules.proofs.CalendarLaws.{years_by}
use Rattle.calendar.proofs.day_count.days_to_year.Goals as goal

pub returns : goal.returns
returns c = sym (years_by c.args.y)
