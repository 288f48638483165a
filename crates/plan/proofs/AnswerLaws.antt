-- The planner's answer: one and no other, by its cases, and what is left in the buffers.
use mathlib.Core.Bool.{cond, false, true}
use mathlib.Core.List.{List, ◌++◌}
use mathlib.Core.Path.{◌∙◌, ◌≡◌, ap, refl, sym}
use Prim.Native.Nat.{ℕ}
use lib.IntN.{ℤ}
use lib.ListN.{drop}
use Rattle.arctangent.specs.Direction.{angle_or, mark}
use Rattle.std.specs.Prelude.{None, Option, Result, Some}
use Rattle.calendar.specs.Refusal.{OneAnswer, first}
use Rattle.calendar.specs.declared.refusal.Refusal.{Refusal}
use Rattle.day.proofs.CurveLaws.{below_length}
use Rattle.day.specs.Curve.{azimuth_on, minutes}
use Rattle.day.specs.Date.{day_refusals}
use Rattle.day.specs.declared.date.Date.{Date}
use Rattle.sky.proofs.AnswerLaws.{judged_value, judged_zeros, one_answered}
use Rattle.sky.specs.Answer.{Answer}
use Rattle.sky_vectors.specs.declared.geocentric.Body.{Body}
use Rattle.sky_vectors.specs.declared.station.Point.{Point}
use Rattle.plan.specs.Answer.{PlanNumbers, left_in, no_plan, plan_numbers, plan_of, planned, planning, planning_answer}
use Rattle.plan.specs.Plan.{EachMinute, count, day_azimuths, is_possible}

pub day_whole : (date : Date) (body : Body) (point : Point) → EachMinute (day_azimuths date body point)
unfolding day_azimuths
day_whole date body point = below_length (λ m. angle_or mark (azimuth_on date body point m)) minutes

-- ---- one answer and no other
given : PlanNumbers → Option ℕ
given p = cond p.has (Some p.points) None

read_plan : (x : Option ℕ) → given (plan_numbers x) ≡ x
unfolding given
read_plan (Some n) = refl
read_plan None = refl

pub one_planning : {found : Result (Option ℕ) Refusal} {rule : Answer PlanNumbers} → planning_answer found ≡ rule → OneAnswer planning_answer rule found
one_planning = one_answered (λ x y same. sym (read_plan x) ∙ ap given same ∙ read_plan y)

-- ---- by its cases
module _ (date : Date) (body : Body) (point : Point) (tolerance : ℕ) where
  abbrev day : List ℤ
  day = day_azimuths date body point

  abbrev value : PlanNumbers
  value = plan_of tolerance day

  abbrev refusal : ℕ
  refusal = first (day_refusals date point)

  pub planned_is : refusal ≡ 0 → is_possible day ≡ true → planning date body point tolerance ≡ record { refusal = 0; value = planned (count tolerance day) }
  unfolding planning
  planned_is e possible = judged_value refusal no_plan value e ∙ (λ i. record { refusal = 0; value = cond (possible i) (planned (count tolerance day)) no_plan })

  pub none_planned : refusal ≡ 0 → is_possible day ≡ false → planning date body point tolerance ≡ record { refusal = 0; value = no_plan }
  unfolding planning
  none_planned e impossible = judged_value refusal no_plan value e ∙ (λ i. record { refusal = 0; value = cond (impossible i) (planned (count tolerance day)) no_plan })

  pub refused_is : {n : ℕ} → refusal ≡ n → (n ≡ 0 → ⊥) → planning date body point tolerance ≡ record { refusal = n; value = no_plan }
  unfolding planning
  refused_is {n} e some = judged_zeros refusal no_plan value (λ z. some (sym e ∙ z)) ∙ (λ i. record { refusal = e i; value = no_plan })

  -- ---- and a buffer
  module _ {A : Type 0} (points before : List A) where
    pub filled_in : {n k : ℕ} → planning date body point tolerance ≡ record { refusal = n; value = planned k } → points ++ drop (count tolerance day) before ≡ left_in date body point tolerance points before
    filled_in e = ap (λ (answer : Answer PlanNumbers). cond answer.value.has (points ++ drop (count tolerance day) before) before) (sym e)

    pub left_alone : {n : ℕ} → planning date body point tolerance ≡ record { refusal = n; value = no_plan } → before ≡ left_in date body point tolerance points before
    left_alone e = ap (λ (answer : Answer PlanNumbers). cond answer.value.has (points ++ drop (count tolerance day) before) before) (sym e)
