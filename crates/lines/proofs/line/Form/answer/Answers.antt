-- `lines::line::Form::answer` meets its contract.
use Rattle.lines.specs.Lines.{line_answer}
use Rattle.lines.proofs.line.Form.answer.Goals as goal

pub returns-in-Sheet : goal.returns-in-Sheet
unfolding line_answer
returns-in-Sheet c = rw c.in-Sheet.is c.sheet_line.ensures

pub returns-in-Places : goal.returns-in-Places
unfolding line_answer
returns-in-Places c = rw c.in-Places.is c.places_line.ensures

pub returns-in-Days : goal.returns-in-Days
unfolding line_answer
returns-in-Days c = rw c.in-Days.is c.days_line.ensures
