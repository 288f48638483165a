-- `cases::sun_example::start` meets its contract: none of 1 to 6 applies.
use mathlib.Core.Path.{refl}
use Rattle.number_rules.specs.Calendar.{day_count, leap, month_length}
use Rattle.calendar.specs.Refusal.{first}
use Rattle.numbers.specs.Whole.{between}
use Rattle.request.specs.Request.{is_clock}
use Rattle.cases.proofs.sun_example.start.Goals as goal

pub returns : goal.returns
unfolding first between is_clock day_count leap month_length
returns c = refl
