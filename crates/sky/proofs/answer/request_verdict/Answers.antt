-- `sky::answer::request_verdict` meets its contract.
use mathlib.Core.List.{◌++◌}
use Rattle.calendar.proofs.RefusalLaws.{exit, passed_all, refused_among}
use Rattle.refraction.specs.Air.{air_refusals}
use Rattle.request.specs.Request.{point_refusals, start_refusals}
use Rattle.sky.proofs.answer.request_verdict.Goals as goal

pub returns-in_err-start_verdict : goal.returns-in_err-start_verdict
returns-in_err-start_verdict c =
    let a = c.args in
    exit c.from_residual.result c.in_err-start_verdict.field-0.0 c.from_residual.ensures
    (refused_among (start_refusals a.start) (point_refusals a.point ++ air_refusals a.air) c.in_err-start_verdict.was c.start_verdict.ensures)

pub returns-in_err-point_verdict : goal.returns-in_err-point_verdict
returns-in_err-point_verdict c =
    let a = c.args in
    exit c.from_residual-in_err-point_verdict.result c.in_err-point_verdict.field-0.0 c.from_residual-in_err-point_verdict.ensures
    (passed_all (start_refusals a.start) (point_refusals a.point ++ air_refusals a.air) c.in_ok-start_verdict.was c.start_verdict.ensures
    (refused_among (point_refusals a.point) (air_refusals a.air) c.in_err-point_verdict.was c.point_verdict.ensures))

pub returns : goal.returns
returns c =
    let a = c.args in
    passed_all (start_refusals a.start) (point_refusals a.point ++ air_refusals a.air) c.in_ok-start_verdict.was c.start_verdict.ensures
    (passed_all (point_refusals a.point) (air_refusals a.air) c.in_ok-point_verdict.was c.point_verdict.ensures c.air_verdict.ensures)
