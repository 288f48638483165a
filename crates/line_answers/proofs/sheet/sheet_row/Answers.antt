-- `line_answers::sheet::sheet_row` meets its contract.
use mathlib.Core.Path.{◌∙◌, ap, sym}
use Rattle.std.specs.Prelude.{Err}
use Rattle.calendar.proofs.RefusalLaws.{handed_up}
use Rattle.calendar.specs.declared.refusal.Refusal.TheVariants.{NotALine}
use Rattle.text.specs.Line.{sheet_numbers}
use Rattle.line_answers.proofs.PrintedLaws.{none_found, was_found}
use Rattle.line_answers.proofs.SheetLaws.{not_read, one_row, was_read}
use Rattle.line_answers.specs.Sheet.{row_answer, sheet_row, start_row}
use Rattle.line_answers.proofs.sheet.sheet_row.Goals as goal

pub returns-in_err-numbers : goal.returns-in_err-numbers
unfolding sheet_row
returns-in_err-numbers c =
    let none = none_found c.sheet_numbers.result NotALine c.in_err-numbers.ensures.value in
    one_row (ap row_answer (handed_up c.from_residual.ensures ∙ ap Err none.1) ∙ not_read (sheet_numbers c.args.line.now) (sym none.0 ∙ c.sheet_numbers.ensures))

pub returns : goal.returns
unfolding sheet_row
returns c =
    let read = sym (was_found c.sheet_numbers.result NotALine c.in_ok-numbers.ensures.value) ∙ c.sheet_numbers.ensures in
    one_row (c.start_row.ensures.equal ∙ ap start_row c.from.ensures ∙ was_read (sheet_numbers c.args.line.now) read)
