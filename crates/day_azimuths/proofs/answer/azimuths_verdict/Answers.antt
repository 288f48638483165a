-- `answer::azimuths_verdict` meets its contract.
use mathlib.Core.Path.{◌∙◌, ap}
use lib.IntN.{ℤ}
use Rattle.calendar.proofs.RefusalLaws.{exit, passed_all, refused_among}
use Rattle.calendar.specs.Refusal.{first}
use Rattle.day.specs.Date.{day_refusals}
use Rattle.numbers.proofs.Machine.{any}
use Rattle.day_azimuths.specs.Answer.{step_refusals}
use Rattle.day_azimuths.proofs.answer.azimuths_verdict.Goals as goal

pub returns-in_err-day_verdict : goal.returns-in_err-day_verdict
returns-in_err-day_verdict c =
    let a = c.args in
    exit c.from_residual.result c.in_err-day_verdict.field-0.0 c.from_residual.ensures
    (refused_among (day_refusals a.date a.point) (step_refusals a.step a.room) c.in_err-day_verdict.was c.day_verdict.ensures)

pub returns : goal.returns
returns c =
    let a = c.args in
    passed_all (day_refusals a.date a.point) (step_refusals a.step a.room) c.in_ok-day_verdict.was c.day_verdict.ensures
    (c.step_verdict.ensures ∙ ap (λ (z : ℤ). first (step_refusals z a.room)) (any c.ranges.step).same)
