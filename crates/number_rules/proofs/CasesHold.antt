-- Every case by hand holds, in one statement over the list.
use mathlib.Core.Path.{refl}
use Rattle.arithmetic.specs.Each.{more, none}
use Rattle.arithmetic.specs.Floor.{◌modulo◌}
use Rattle.number_rules.specs.Angle.{reduced}
use Rattle.number_rules.specs.Calendar.{day_count, day_number, days_from_2000, days_to_month, days_to_year, leap, month_length, year_length}
use Rattle.number_rules.specs.Cases.{CasesHold}
use Rattle.number_rules.specs.Sine.{fold, half_fold, negated_from_half, quarter_sine, sine, sine_at}
use Rattle.number_rules.specs.SineTable.{sines}

pub cases_hold : CasesHold
unfolding day_count days_from_2000 day_number days_to_year days_to_month month_length year_length leap sine reduced ◌modulo◌ sine_at negated_from_half fold half_fold quarter_sine sines
cases_hold = more refl (more refl (more refl (more refl (more refl (more refl none)))))
