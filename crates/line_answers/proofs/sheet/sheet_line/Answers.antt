-- `line_answers::sheet::sheet_line` meets its contract.
use mathlib.Core.Path.{◌∙◌, ap}
use Rattle.line_answers.proofs.PrintedLaws.{printed}
use Rattle.line_answers.specs.Printed.{answer_line}
use Rattle.line_answers.specs.Sheet.{arguments_line, no_arguments, sheet_line}
use Rattle.line_answers.proofs.sheet.sheet_line.Goals as goal

pub returns : goal.returns
unfolding sheet_line
returns c =
    printed (λ found. found) no_arguments arguments_line c.sheet_row.result c.map_or_else.result c.map_or_else.ensures ∙ ap (answer_line arguments_line) c.sheet_row.ensures.equal
