-- The exports over a proposal: 02's answers, as C is handed them.
use Rattle.std.specs.Prelude.{cond, Err, List, ◌++◌, Ok, Result, ⊤, ℕ, eqb, ℤ, drop}
use Rattle.boundary.specs.Codes.{body_of, body_refusal, no_plan}
use Rattle.sky_vectors.specs.Station.{point_from}
use Rattle.boundary.specs.Fault.{fault_number}
use Rattle.boundary.specs.declared.fault.Fault.{Fault}
use Rattle.boundary.specs.declared.fault.Fault.TheVariants.{Out}
use Rattle.calendar.specs.Refusal.{◌else◌, ◌unless◌}
use Rattle.day.specs.Date.{date_from}
use Rattle.plan.specs.Answer as Planner
use Rattle.plan.specs.Answer.{PlanNumbers, planning}
use Rattle.plan.specs.Plan.{count, day_azimuths, plan_azimuths, plan_minutes}
use Rattle.proposal.specs.Verdict.{JudgementAnswer, judgement}
use Rattle.sky.specs.Answer.{Answer}
use Rattle.capi.specs.Answers.{formed, written_one}

-- ---- judged

abbrev pub coded_judgement : List ℤ → ℕ → List ℤ → ℕ → List ℕ → List ℤ → JudgementAnswer
coded_judgement date body point tolerance minutes azimuths =
    let refusal = body_refusal body in
    cond (eqb refusal 0) (judgement (date_from date) (body_of body) (point_from point) tolerance minutes azimuths) (record { refusal = refusal; minute = 0 })

-- a verdict, or a fault, which may be a minute out of tolerance
abbrev pub verdict_told : Result ⊤ Fault → JudgementAnswer
verdict_told (Ok accepted) = record { refusal = 0; minute = 0 }
verdict_told (Err (Out minute)) = record { refusal = 31; minute = minute }
verdict_told (Err fault) = record { refusal = fault_number fault; minute = 0 }

-- the first minute out of tolerance; any other answer writes nothing
abbrev pub told_minute : JudgementAnswer → ℕ → ℕ
told_minute answer before = cond (eqb answer.refusal 31) answer.minute before

-- ---- planned

abbrev pub coded_planning : List ℤ → ℕ → List ℤ → ℕ → Answer PlanNumbers
coded_planning date body point tolerance =
    formed (body_refusal body) Planner.no_plan (planning (date_from date) (body_of body) (point_from point) tolerance)

-- 107 where there is no plan
abbrev pub plan_refusal : Answer PlanNumbers → ℕ
plan_refusal answer = answer.refusal else (no_plan unless answer.value.has)

-- a buffer after the call: the points, and its rest as it was; without a plan, all as it was
module _ (date : List ℤ) (body : ℕ) (point : List ℤ) (tolerance : ℕ) where
  abbrev pub coded_day : List ℤ
  coded_day = day_azimuths (date_from date) (body_of body) (point_from point)

  abbrev points_left : {A : Type 0} → List A → List A → List A
  points_left points before = written_one (plan_refusal (coded_planning date body point tolerance)) (points ++ drop (count tolerance coded_day) before) before

  abbrev pub minutes_left : List ℕ → List ℕ
  minutes_left before = points_left (plan_minutes tolerance coded_day) before

  abbrev pub azimuths_left : List ℤ → List ℤ
  azimuths_left before = points_left (plan_azimuths tolerance coded_day) before
