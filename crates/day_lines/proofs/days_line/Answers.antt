-- `day_lines::days_line` meets its contract.
use mathlib.Core.Path.{◌∙◌, ap}
use Rattle.rise_set.specs.Answer.{neither, rise_set_numbers}
use Rattle.line_answers.proofs.PrintedLaws.{printed}
use Rattle.day_lines.specs.DaysLine.{days_line, rise_set_line}
use Rattle.line_answers.specs.Printed.{answer_line}
use Rattle.day_lines.proofs.days_line.Goals as goal

pub returns : goal.returns
unfolding days_line
returns c =
    printed rise_set_numbers neither rise_set_line c.days_answer.result c.map_or_else.result c.map_or_else.ensures ∙ ap (answer_line rise_set_line) c.days_answer.ensures.equal
