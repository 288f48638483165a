-- The day count as a result (01, refusals 1 to 3): 01's number and value for each of its cases.
use Rattle.std.specs.Prelude.{Err, Ok, Result, pos, ℤ}
use Rattle.number_rules.specs.Calendar.{DayAnswer}
use Rattle.calendar.specs.Refusal.{number}
use Rattle.calendar.specs.declared.refusal.Refusal.{Refusal}

abbrev pub count_answer : Result ℤ Refusal → DayAnswer
count_answer (Ok d) = record { refusal = 0; days = d }
count_answer (Err refusal) = record { refusal = number refusal; days = pos 0 }
