-- The planner's answer (02, Item 7: "After the same first checks the planner answers 'no plan' exactly when ..").
use Rattle.std.specs.Prelude.{Bool, None, Option, Result, Some, cond, false, true, List, ◌++◌, ℕ, ℤ, drop}
use Rattle.calendar.specs.Refusal.{first}
use Rattle.calendar.specs.declared.refusal.Refusal.{Refusal}
use Rattle.day.specs.Date.{day_refusals}
use Rattle.day.specs.declared.date.Date.{Date}
use Rattle.sky.specs.Answer.{Answer, answered, judged}
use Rattle.sky_vectors.specs.declared.geocentric.Body.{Body}
use Rattle.sky_vectors.specs.declared.station.Point.{Point}
use Rattle.plan.specs.Plan.{count, day_azimuths, is_possible, plan_azimuths, plan_minutes}

-- a plan in numbers: whether there is one, and how many points it has, 0 where there is none
pub record PlanNumbers : Type 0 where
  pub has : Bool
  pub points : ℕ

abbrev pub planned : ℕ → PlanNumbers
planned n = record { has = true; points = n }

abbrev pub no_plan : PlanNumbers
no_plan = record { has = false; points = 0 }

abbrev pub plan_numbers : Option ℕ → PlanNumbers
plan_numbers (Some n) = planned n
plan_numbers None = no_plan

abbrev pub planning_answer : Result (Option ℕ) Refusal → Answer PlanNumbers
planning_answer = answered plan_numbers no_plan

-- the plan of a day by its azimuths, or none
abbrev pub plan_of : ℕ → List ℤ → PlanNumbers
plan_of tolerance day = cond (is_possible day) (planned (count tolerance day)) no_plan

-- 1 to 3 and 5 to 9, then a plan or none
unfoldable pub planning : Date → Body → Point → ℕ → Answer PlanNumbers
planning date body point tolerance = judged (first (day_refusals date point)) no_plan (plan_of tolerance (day_azimuths date body point))

-- what a buffer holds afterwards: the points, and its rest as it was; without a plan, all as it was
module _ (date : Date) (body : Body) (point : Point) (tolerance : ℕ) where
  abbrev pub left_in : {A : Type 0} → List A → List A → List A
  left_in points before = cond (planning date body point tolerance).value.has (points ++ drop (count tolerance (day_azimuths date body point)) before) before

  abbrev pub minutes_left : List ℕ → List ℕ
  minutes_left before = left_in (plan_minutes tolerance (day_azimuths date body point)) before

  abbrev pub azimuths_left : List ℤ → List ℤ
  azimuths_left before = left_in (plan_azimuths tolerance (day_azimuths date body point)) before
