-- `answer::day_azimuths` meets its contract. What the course has in common is what the definitions work afresh for each step.
use mathlib.Core.Bool.{true}
use mathlib.Core.List.{◌++◌}
use mathlib.Core.Path.{◌∙◌, ◌≡◌, ap, sym}
use Prim.Native.Nat.{◌≤◌, ℕ}
use native.Mathlib.Omega.{arith}
use lib.IntN.{nat_abs, ℤ}
use lib.ListN.{drop, length}
use mir.Syntax.{w64}
use mir.Val.{of_z, to_z}
use Rattle.calendar.proofs.RefusalLaws.{handed_up, never_none}
use Rattle.calendar.specs.Refusal.{first, verdict_number}
use Rattle.day.specs.Curve.{each_below}
use Rattle.numbers.proofs.Machine.{any, to_nat}
use Rattle.sky.proofs.AnswerLaws.{answered_with, refused_with}
use Rattle.sky_vectors.specs.Place.{place_at}
use Rattle.strip.proofs.CheckLaws.{step_natural}
use Rattle.strip.specs.Checks.{is_step, steps}
use Rattle.day_azimuths.specs.Answer.{azimuths_answer, azimuths_refusals, day_azimuths}
use Rattle.day_azimuths.specs.Azimuths.{strip_azimuth_from, worked}
use Rattle.day_azimuths.proofs.AnswerLaws.{day_passes, every_azimuth_near, filled_in, has_room, left_alone, one_working, step_passes}
use Rattle.day_azimuths.proofs.StepLaws.{all_in_day}
use Rattle.day_azimuths.proofs.answer.day_azimuths.Goals as goal
use Rattle.day_azimuths.proofs.answer.day_azimuths.Goals.{After-azimuths_verdict, After-steps_of-count, In_ok-azimuths_verdict}

-- the verdict
module _ (v : After-azimuths_verdict) where
  step_is : to_z w64 (of_z w64 v.args.step) ≡ v.args.step
  step_is = (any v.ranges.step).same

  refusals_are : verdict_number v.azimuths_verdict.result ≡ first (azimuths_refusals v.args.date v.args.point v.args.step (length v.args.azimuths.now))
  refusals_are =
      v.azimuths_verdict.ensures ∙ ap (λ (z : ℤ). first (azimuths_refusals v.args.date v.args.point z (length v.args.azimuths.now))) step_is

-- a request that is let pass
module _ (k : In_ok-azimuths_verdict) where
  abbrev room : ℕ
  room = length k.args.azimuths.now

  none : first (azimuths_refusals k.args.date k.args.point k.args.step room) ≡ 0
  none = sym (refusals_are (goal.at.In_ok-azimuths_verdict k).After-azimuths_verdict) ∙ ap verdict_number k.in_ok-azimuths_verdict.was

  step_good : is_step k.args.step ≡ true
  step_good = step_passes k.args.date k.args.point k.args.step room none

  steps_fit : steps k.args.step ≤ room
  steps_fit = has_room k.args.date k.args.point k.args.step room none

-- how many steps the day has, and how many entries are filled
module _ (c : After-steps_of-count) where
  abbrev passed : In_ok-azimuths_verdict
  passed = (goal.at.After-steps_of-count c).In_ok-azimuths_verdict

  abbrev handed : to_z w64 (of_z w64 c.args.step) ≡ c.args.step
  handed = (any c.ranges.step).same

  count_is : c.steps_of-count.result ≡ steps c.args.step
  count_is = c.steps_of-count.ensures ∙ ap steps handed

  has_so_many : c.steps_of-count.result ≤ length c.args.azimuths.now
  has_so_many = omega (arith, count_is, steps_fit passed)

pub returns-in_err-azimuths_verdict : goal.returns-in_err-azimuths_verdict
unfolding day_azimuths
returns-in_err-azimuths_verdict c =
    let v = (goal.at.returns-in_err-azimuths_verdict c).After-azimuths_verdict in
    let a = c.args in
    let before = a.azimuths.now in
    let refusal = c.in_err-azimuths_verdict.field-0.0 in
    let is = sym (refusals_are v) ∙ ap verdict_number c.in_err-azimuths_verdict.was in record {
      one_answer = one_working (ap azimuths_answer (handed_up c.from_residual.ensures) ∙ refused_with 0 (steps a.step) is (never_none refusal));
      azimuths_after = left_alone a.date a.body a.point a.step before is (never_none refusal);
      azimuths_near = every_azimuth_near a.date a.point a.step (length before);
    }

pub new-course-requires : goal.new-course-requires
new-course-requires c =
    let k = (goal.at.new-course-requires c).In_ok-azimuths_verdict in
    day_passes c.args.date c.args.point c.args.step (room k) (none k)

pub steps_of-count-requires : goal.steps_of-count-requires
steps_of-count-requires c =
    let k = (goal.at.steps_of-count-requires c).In_ok-azimuths_verdict in
    ap is_step (any c.ranges.step).same ∙ step_good k

pub overflow_cast-step : goal.overflow_cast-step
overflow_cast-step c =
    let k = (goal.at.overflow_cast-step c).After-steps_of-count in
    let n = step_natural c.args.step (step_good (passed k)) in
    to_nat (handed k ∙ n.is) (omega (arith, n.most_is))

pub fill-requires : goal.fill-requires
fill-requires c =
    let k = (goal.at.fill-requires c).After-steps_of-count in
    record { step_bound = (rw (count_is k, handed k) (all_in_day c.args.step), has_so_many k) }

pub returns : goal.returns
unfolding day_azimuths worked place_at
returns c =
    let k = (goal.at.returns c).After-steps_of-count in
    let a = c.args in
    let before = a.azimuths.now in
    let course = c.new-course.ensures in
    let stands = none (passed k) in record {
      one_answer = one_working (answered_with 0 (steps a.step) stands (count_is k));
      azimuths_after = c.fill.ensures
          ∙ (λ i. each_below (strip_azimuth_from (course.body_is i) (course.runner_is i) (course.date_is i) (course.days_is i) (nat_abs (handed k i))) (count_is k i)
          ++ drop (count_is k i) before)
          ∙ filled_in a.date a.body a.point a.step before stands;
      azimuths_near = every_azimuth_near a.date a.point a.step (length before);
    }
