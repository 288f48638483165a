-- `answer::plan` meets its contract.
use mathlib.Core.List.{List, ◌++◌}
use mathlib.Core.Path.{◌∙◌, ◌≡◌, ap, subst⁻¹, sym}
use lib.IntN.{ℤ}
use lib.ListN.{drop}
use Rattle.calendar.proofs.RefusalLaws.{handed_up, never_none}
use Rattle.calendar.specs.Refusal.{first}
use Rattle.day.specs.Date.{day_refusals}
use Rattle.day.proofs.Demand3.{every_day_near}
use Rattle.plan.specs.Answer.{planned, planning_answer}
use Rattle.plan.specs.Plan.{Plannable, count, day_azimuths, is_possible, plan_azimuths, plan_minutes}
use Rattle.plan.proofs.AnswerLaws.{day_whole, filled_in, left_alone, none_planned, one_planning, planned_is, refused_is}
use Rattle.plan.proofs.DayLaws.{plannable}
use Rattle.plan.proofs.answer.plan.Goals as goal
use Rattle.plan.proofs.answer.plan.Goals.{After-is_possible}

-- a day that was let pass, and worked
module _ (c : After-is_possible) where
  passed : first (day_refusals c.args.date c.args.point) ≡ 0
  passed = sym c.in_ok-day_verdict.ensures

  abbrev day : List ℤ
  day = day_azimuths c.args.date c.args.body c.args.point

  judged : is_possible day ≡ c.is_possible.result
  judged = sym (c.is_possible.ensures ∙ ap is_possible c.work.ensures)

pub returns-in_err-day_verdict : goal.returns-in_err-day_verdict
returns-in_err-day_verdict c =
    let a = c.args in
    let day = day_azimuths a.date a.body a.point in
    let refusal = c.in_err-day_verdict.field-0.0 in
    let is = refused_is a.date a.body a.point a.tolerance (sym c.in_err-day_verdict.ensures) (never_none refusal) in record {
      one_answer = one_planning (ap planning_answer (handed_up c.from_residual.ensures) ∙ sym is);
      minutes_after = left_alone a.date a.body a.point a.tolerance (plan_minutes a.tolerance day) a.minutes.now is;
      azimuths_after = left_alone a.date a.body a.point a.tolerance (plan_azimuths a.tolerance day) a.azimuths.now is;
      day_near = every_day_near a.date a.point;
    }

pub returns-then-not-is_possible : goal.returns-then-not-is_possible
returns-then-not-is_possible c =
    let a = c.args in
    let k = (goal.at.returns-then-not-is_possible c).After-is_possible in
    let is = none_planned a.date a.body a.point a.tolerance (passed k) (judged k ∙ c.if-not-is_possible.true) in record {
      one_answer = one_planning (sym is);
      minutes_after = left_alone a.date a.body a.point a.tolerance (plan_minutes a.tolerance (day k)) a.minutes.now is;
      azimuths_after = left_alone a.date a.body a.point a.tolerance (plan_azimuths a.tolerance (day k)) a.azimuths.now is;
      day_near = every_day_near a.date a.point;
    }

pub invariant_of-planner : goal.invariant_of-planner
invariant_of-planner c =
    let a = c.args in
    let k = (goal.at.invariant_of-planner c).After-is_possible in
    record { plannable = subst⁻¹ Plannable c.work.ensures (plannable (day k) (day_whole a.date a.body a.point) (judged k ∙ c.if-not-is_possible.false)) }

pub returns : goal.returns
returns c =
    let a = c.args in
    let k = (goal.at.returns c).After-is_possible in
    let is = planned_is a.date a.body a.point a.tolerance (passed k) (judged k ∙ c.if-not-is_possible.false) in
    let same = c.work.ensures in record {
      one_answer = one_planning ((λ i. record { refusal = 0; value = planned ((c.put_points.ensures.value ∙ ap (count a.tolerance) same) i) }) ∙ sym is);
      minutes_after = c.put_points.ensures.minutes_after ∙ ap (λ (list : List ℤ). plan_minutes a.tolerance list ++ drop (count a.tolerance list) a.minutes.now) same
          ∙ filled_in a.date a.body a.point a.tolerance (plan_minutes a.tolerance (day k)) a.minutes.now is;
      azimuths_after = c.put_points.ensures.azimuths_after ∙ ap (λ (list : List ℤ). plan_azimuths a.tolerance list ++ drop (count a.tolerance list) a.azimuths.now) same
          ∙ filled_in a.date a.body a.point a.tolerance (plan_azimuths a.tolerance (day k)) a.azimuths.now is;
      day_near = every_day_near a.date a.point;
    }
