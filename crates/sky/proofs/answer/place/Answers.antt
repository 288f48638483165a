-- `sky::answer::place` meets its contract.
use mathlib.Core.Path.{◌∙◌, ◌≡◌, ap, subst⁻¹, sym}
use Rattle.calendar.specs.Refusal.{first}
use Rattle.calendar.proofs.RefusalLaws.{handed_up, never_none}
use Rattle.refraction.specs.Air.{air_refusals}
use Rattle.request.proofs.RequestLaws.{on_earth, point_passes, start_passes, start_reachable}
use Rattle.request.specs.Request.{instant, point_refusals, start_refusals}
use Rattle.sky_vectors.specs.Place.{place_at}
use Rattle.sky_vectors.specs.SkyRange.{Reachable}
use Rattle.sky.proofs.AnswerLaws.{answered_with, one_place, refused_with}
use Rattle.sky.proofs.Demand3.{every_place_near}
use Rattle.sky.specs.Answer.{nowhere, place, place_answer, place_numbers, request_refusals}
use Rattle.sky.proofs.answer.place.Goals as goal
use Rattle.sky.proofs.answer.place.Goals.{In_ok-request_verdict}

-- a request that no check refuses
module _ (c : In_ok-request_verdict) where
  passes : first (request_refusals c.args.start c.args.point c.args.air) ≡ 0
  passes = sym c.in_ok-request_verdict.ensures

  start_good : first (start_refusals c.args.start) ≡ 0
  start_good = start_passes c.args.start c.args.point (air_refusals c.args.air) passes

  point_good : first (point_refusals c.args.point) ≡ 0
  point_good = point_passes c.args.start c.args.point (air_refusals c.args.air) passes

pub instant_of-requires : goal.instant_of-requires
instant_of-requires c = start_good (goal.at.instant_of-requires c).In_ok-request_verdict

pub place_at-requires : goal.place_at-requires
place_at-requires c =
    let e = (goal.at.place_at-requires c).In_ok-request_verdict in
    (on_earth c.args.point (point_good e), subst⁻¹ Reachable c.instant_of.ensures (start_reachable c.args.start (start_good e)))

pub returns-in_err-request_verdict : goal.returns-in_err-request_verdict
unfolding place
returns-in_err-request_verdict c =
    let a = c.args in
    let refusal = c.in_err-request_verdict.field-0.0 in record {
      one_answer =
          one_place (ap place_answer (handed_up c.from_residual.ensures)
          ∙ refused_with nowhere (place_numbers (place_at a.body a.point (instant a.start))) (sym c.in_err-request_verdict.ensures) (never_none refusal));
      place_near = every_place_near a.start a.body a.point a.air;
    }

pub returns : goal.returns
unfolding place
returns c =
    let a = c.args in
    let found = c.place_at.ensures ∙ ap (place_at a.body a.point) c.instant_of.ensures in record {
      one_answer =
          one_place (answered_with nowhere (place_numbers (place_at a.body a.point (instant a.start))) (passes (goal.at.returns c).In_ok-request_verdict) (ap place_numbers found));
      place_near = every_place_near a.start a.body a.point a.air;
    }
