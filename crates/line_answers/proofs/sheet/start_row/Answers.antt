-- `line_answers::sheet::start_row` meets its contract.
use mathlib.Core.Path.{◌∙◌, ap, subst⁻¹, sym}
use Rattle.calendar.proofs.RefusalLaws.{handed_up, never_none}
use Rattle.sky.proofs.AnswerLaws.{answered_with, refused_with}
use Rattle.request.proofs.RequestLaws.{start_reachable}
use Rattle.request.specs.Request.{instant}
use Rattle.sky_vectors.specs.SkyRange.{Reachable}
use Rattle.line_answers.proofs.SheetLaws.{one_row}
use Rattle.line_answers.specs.Sheet.{arguments, no_arguments, row_answer, start_row}
use Rattle.line_answers.proofs.sheet.start_row.Goals as goal

pub arguments_at-requires : goal.arguments_at-requires
arguments_at-requires c = subst⁻¹ Reachable c.instant_of.ensures (start_reachable c.args.start (sym c.in_ok-start_verdict.ensures))

pub returns-in_err-start_verdict : goal.returns-in_err-start_verdict
unfolding start_row
returns-in_err-start_verdict c =
    one_row (ap row_answer (handed_up c.from_residual.ensures)
    ∙ refused_with no_arguments (arguments (instant c.args.start)) (sym c.in_err-start_verdict.ensures) (never_none c.in_err-start_verdict.field-0.0))

pub returns : goal.returns
unfolding start_row
returns c =
    let found = c.arguments_at.ensures ∙ ap arguments c.instant_of.ensures in
    one_row (answered_with no_arguments (arguments (instant c.args.start)) (sym c.in_ok-start_verdict.ensures) found)
