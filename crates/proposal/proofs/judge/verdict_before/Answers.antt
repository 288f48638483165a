-- `judge::verdict_before` meets its contract.
use Rattle.calendar.proofs.RefusalLaws.{exit, passed_all, refused_among}
use Rattle.day.specs.Date.{day_refusals}
use Rattle.proposal.specs.Verdict.{form_refusals}
use Rattle.proposal.proofs.judge.verdict_before.Goals as goal

pub returns-in_err-day_verdict : goal.returns-in_err-day_verdict
returns-in_err-day_verdict c =
    let a = c.args in
    exit c.from_residual.result c.in_err-day_verdict.field-0.0 c.from_residual.ensures
    (refused_among (day_refusals a.date a.point) (form_refusals a.points.minutes.now a.points.azimuths.now) c.in_err-day_verdict.was c.day_verdict.ensures)

pub returns : goal.returns
returns c =
    let a = c.args in
    passed_all (day_refusals a.date a.point) (form_refusals a.points.minutes.now a.points.azimuths.now) c.in_ok-day_verdict.was c.day_verdict.ensures c.form_verdict.ensures
