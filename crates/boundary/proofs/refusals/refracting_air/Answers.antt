-- `boundary::refusals::refracting_air` meets its contract.
use mathlib.Core.Path.{◌∙◌, ap}
use Rattle.numbers.proofs.Machine.{any}
use Rattle.calendar.specs.Refusal.{first}
use Rattle.std.specs.Prelude.{Option}
use Rattle.refraction.specs.Air.{air_refusals}
use Rattle.refraction.specs.declared.air.Air.{Air}
use Rattle.boundary.specs.Codes.{elevation_refusal}
use Rattle.boundary.proofs.FaultLaws.{handed_up, passed, refused}
use Rattle.boundary.proofs.refusals.refracting_air.Goals as goal

pub returns-in_err-air : goal.returns-in_err-air
returns-in_err-air c = rw (handed_up c.from_residual.ensures) (refused _ _ c.in_err-air.ensures)

pub returns-in_err-elevation_verdict : goal.returns-in_err-elevation_verdict
returns-in_err-elevation_verdict c =
    rw (handed_up c.from_residual-in_err-elevation_verdict.ensures)
    (passed _ c.in_ok-air.ensures.0 (refused _ _ (c.in_err-elevation_verdict.ensures ∙ ap elevation_refusal (any c.ranges.elevation).same)))

pub returns-in_err-air_verdict : goal.returns-in_err-air_verdict
returns-in_err-air_verdict c =
    let at = ap (λ (air : Option Air). first (air_refusals air)) c.in_ok-air.ensures.1 in
    rw (handed_up c.from_residual-in_err-air_verdict.ensures)
    (passed _ c.in_ok-air.ensures.0 (passed _ (c.in_ok-elevation_verdict.ensures ∙ ap elevation_refusal (any c.ranges.elevation).same) (c.in_err-air_verdict.ensures ∙ at)))

pub returns : goal.returns
returns c =
    let at = ap (λ (air : Option Air). first (air_refusals air)) c.in_ok-air.ensures.1 in
    (passed _ c.in_ok-air.ensures.0 (passed _ (c.in_ok-elevation_verdict.ensures ∙ ap elevation_refusal (any c.ranges.elevation).same) (c.in_ok-air_verdict.ensures ∙ at)), c.in_ok-air.ensures.1)
