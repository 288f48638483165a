-- `lines::line::Form::header` meets its contract.
use mathlib.Core.Path.{refl}
use Rattle.text.specs.Cases.{bytes}
use Rattle.lines.specs.Lines.{header}
use Rattle.lines.proofs.line.Form.header.Goals as goal

pub returns-in-Sheet : goal.returns-in-Sheet
unfolding header bytes
returns-in-Sheet c = rw c.in-Sheet.is refl

pub returns-in-Places : goal.returns-in-Places
unfolding header
returns-in-Places c = rw c.in-Places.is refl

pub returns-in-Days : goal.returns-in-Days
unfolding header
returns-in-Days c = rw c.in-Days.is refl
