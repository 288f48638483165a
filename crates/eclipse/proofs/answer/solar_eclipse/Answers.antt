-- `eclipse::answer::solar_eclipse` meets its contract.
use mathlib.Core.Path.{◌∙◌, ◌≡◌, ap, subst⁻¹, sym}
use Rattle.calendar.specs.Refusal.{first, verdict_number}
use Rattle.calendar.proofs.RefusalLaws.{handed_up, never_none}
use Rattle.request.specs.Request.{instant}
use Rattle.request.proofs.RequestLaws.{on_earth, start_reachable}
use Rattle.sky.proofs.AnswerLaws.{answered_with, refused_with}
use Rattle.sky_vectors.specs.SkyRange.{Reachable}
use Rattle.eclipse.specs.Answer.{eclipse_answer, eclipse_refusals, no_eclipse, solar_eclipse}
use Rattle.eclipse.specs.Eclipse.{eclipse_at}
use Rattle.eclipse.proofs.AnswerLaws.{both, one_eclipse, point_passes, start_passes}
use Rattle.eclipse.proofs.Demand3.{every_eclipse_near}
use Rattle.eclipse.proofs.answer.solar_eclipse.Goals as goal
use Rattle.eclipse.proofs.answer.solar_eclipse.Goals.{After-and, In_ok-and}

verdict_is : (c : After-and) → verdict_number c.and.result ≡ first (eclipse_refusals c.args.start c.args.point)
verdict_is c = ap verdict_number c.and.ensures ∙ both c.start_verdict.result c.point_verdict.result _ _ c.start_verdict.ensures c.point_verdict.ensures

-- a request that no check refuses
passes : (c : In_ok-and) → first (eclipse_refusals c.args.start c.args.point) ≡ 0
passes c = sym (verdict_is (goal.at.In_ok-and c).After-and) ∙ ap verdict_number c.in_ok-and.was

pub returns-in_err-and : goal.returns-in_err-and
unfolding solar_eclipse
returns-in_err-and c =
    let a = c.args in
    let is = sym (verdict_is (goal.at.returns-in_err-and c).After-and) ∙ ap verdict_number c.in_err-and.was in record {
      one_answer =
          one_eclipse (ap eclipse_answer (handed_up c.from_residual.ensures)
          ∙ refused_with no_eclipse (eclipse_at a.point (instant a.start)) is (never_none c.in_err-and.field-0.0));
      eclipse_near = every_eclipse_near a.start a.point;
    }

pub instant_of-requires : goal.instant_of-requires
instant_of-requires c = start_passes c.args.start c.args.point (passes (goal.at.instant_of-requires c).In_ok-and)

pub eclipse_at-requires : goal.eclipse_at-requires
eclipse_at-requires c =
    let a = c.args in
    let e = passes (goal.at.eclipse_at-requires c).In_ok-and in
    (on_earth a.point (point_passes a.start a.point e), subst⁻¹ Reachable c.instant_of.ensures (start_reachable a.start (start_passes a.start a.point e)))

pub returns : goal.returns
unfolding solar_eclipse
returns c =
    let a = c.args in
    let found = c.eclipse_at.ensures ∙ ap (eclipse_at a.point) c.instant_of.ensures in record {
      one_answer = one_eclipse (answered_with no_eclipse (eclipse_at a.point (instant a.start)) (passes (goal.at.returns c).In_ok-and) found);
      eclipse_near = every_eclipse_near a.start a.point;
    }
