-- `judge::judge` meets its contract.
use mathlib.Core.List.{◌++◌}
use mathlib.Core.Path.{◌∙◌, ◌≡◌, ap, sym}
use Prim.Native.Nat.{ℕ}
use native.Mathlib.Omega.{arith}
use Rattle.std.proofs.lemmas.Result.{err_from_is_err_and}
use Rattle.std.specs.Prelude.{Err, IsErr, IsErrAnd, Result, ⊤}
use Rattle.arctangent.specs.Direction.{Direction}
use Rattle.calendar.proofs.RefusalLaws.{never_none, never_out, none_append}
use Rattle.calendar.specs.Refusal.{first}
use Rattle.calendar.specs.declared.refusal.Refusal.{Refusal}
use Rattle.day.proofs.Demand3.{every_day_near}
use Rattle.day.specs.Curve.{azimuth_from, azimuth_on}
use Rattle.day.specs.Date.{day_refusals}
use Rattle.sky_vectors.specs.Place.{place_at}
use Rattle.proposal.specs.Verdict.{first_out, form_refusals, judgement_answer}
use Rattle.proposal.specs.declared.judge.Objection.{Objection}
use Rattle.proposal.specs.declared.judge.Objection.TheVariants.{Refused}
use Rattle.proposal.proofs.VerdictLaws.{accepted_is, formed_passes, one_judgement, out_is, refused_is}
use Rattle.proposal.proofs.judge.judge.Goals as goal
use Rattle.proposal.proofs.judge.judge.Goals.{After-new-course, In_ok-verdict_before}

-- a request that no check before 31 refuses
module _ (c : In_ok-verdict_before) where
  passed : first (day_refusals c.args.date c.args.point ++ form_refusals c.args.points.minutes.now c.args.points.azimuths.now) ≡ 0
  passed = sym c.in_ok-verdict_before.ensures

  abbrev parts : (first (day_refusals c.args.date c.args.point) ≡ 0) × (first (form_refusals c.args.points.minutes.now c.args.points.azimuths.now) ≡ 0)
  parts = none_append (day_refusals c.args.date c.args.point) (form_refusals c.args.points.minutes.now c.args.points.azimuths.now) passed

-- what the exit of the `?` hands up
exit : {r : Result ⊤ Objection} (refusal : Refusal) → IsErr r × IsErrAnd r (λ other. other ≡ Refused refusal) → r ≡ Err (Refused refusal)
exit {r} refusal h = let p = err_from_is_err_and r h.1 in p.1 ∙ ap Err p.2

-- the azimuths of the course are the day's
sky_is : (c : After-new-course) → azimuth_from c.new-course.result.body c.new-course.result.runner c.new-course.result.date c.new-course.result.days ≡ azimuth_on c.args.date c.args.body c.args.point
unfolding place_at
sky_is c = let begun = c.new-course.ensures in λ i. azimuth_from (begun.body_is i) (begun.runner_is i) (begun.date_is i) (begun.days_is i)

pub returns-in_err-verdict_before-clause-one_answer : goal.returns-in_err-verdict_before-clause-one_answer
returns-in_err-verdict_before-clause-one_answer c =
    let a = c.args in
    let refusal = c.in_err-verdict_before.field-0.0 in
    one_judgement (ap judgement_answer (exit refusal c.from_residual.ensures)
    ∙ sym (refused_is a.date a.body a.point a.tolerance a.points.minutes.now a.points.azimuths.now (sym c.in_err-verdict_before.ensures) (never_none refusal) (never_out refusal)))

pub returns-in_err-verdict_before-clause-day_near : goal.returns-in_err-verdict_before-clause-day_near
returns-in_err-verdict_before-clause-day_near c = every_day_near c.args.date c.args.point

pub new-course-requires : goal.new-course-requires
new-course-requires c = (parts (goal.at.new-course-requires c).In_ok-verdict_before).0

pub first_out-requires : goal.first_out-requires
first_out-requires c = formed_passes c.args.points.minutes.now c.args.points.azimuths.now (parts (goal.at.first_out-requires c).In_ok-verdict_before).1

pub returns-in-Some-clause-one_answer : goal.returns-in-Some-clause-one_answer
returns-in-Some-clause-one_answer c =
    let a = c.args in
    let list = a.points.minutes.now in
    let azimuths = a.points.azimuths.now in
    let is = c.in-Some.ensures.0 ∙ ap (λ (sky : ℕ → Direction). first_out a.tolerance sky list azimuths) (sky_is (goal.at.returns-in-Some-clause-one_answer c).After-new-course) in
    one_judgement ((λ i. record { refusal = 31; minute = is i })
    ∙ sym (out_is a.date a.body a.point a.tolerance list azimuths (passed (goal.at.returns-in-Some-clause-one_answer c).In_ok-verdict_before) (omega (arith, is, c.in-Some.ensures.1))))

pub returns-in-Some-clause-day_near : goal.returns-in-Some-clause-day_near
returns-in-Some-clause-day_near c = every_day_near c.args.date c.args.point

pub returns-in-None-clause-one_answer : goal.returns-in-None-clause-one_answer
returns-in-None-clause-one_answer c =
    let a = c.args in
    let list = a.points.minutes.now in
    let azimuths = a.points.azimuths.now in
    let all = sym (ap (λ (sky : ℕ → Direction). first_out a.tolerance sky list azimuths) (sky_is (goal.at.returns-in-None-clause-one_answer c).After-new-course)) ∙ c.in-None.ensures in
    one_judgement (sym (accepted_is a.date a.body a.point a.tolerance list azimuths (passed (goal.at.returns-in-None-clause-one_answer c).In_ok-verdict_before) all))

pub returns-in-None-clause-day_near : goal.returns-in-None-clause-day_near
returns-in-None-clause-day_near c = every_day_near c.args.date c.args.point
