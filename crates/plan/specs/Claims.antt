-- What 02 asks of the planner by name (Item 7).
use Rattle.std.specs.Prelude.{Bool, Some, true, List, ◌++◌, ◌↔◌, ◌⊎◌, ◌≡◌, ◌+◌, ◌<◌, ◌≤◌, suc, ℕ, ℤ, drop, length, take}
use Rattle.arctangent.specs.Direction.{is_there}
use Rattle.calendar.specs.Refusal.{first}
use Rattle.day.specs.Curve.{azimuth_on, minutes}
use Rattle.day.specs.Date.{day_refusals}
use Rattle.day.specs.declared.date.Date.{Date}
use Rattle.heading.specs.Heading.{clockwise}
use Rattle.number_rules.specs.Angle.{half_turn}
use Rattle.numbers.specs.declared.angle.Angle.{Angle}
use Rattle.proposal.specs.Verdict.{judgement}
use Rattle.sky_vectors.specs.declared.geocentric.Body.{Body}
use Rattle.sky_vectors.specs.declared.station.Point.{Point}
use Rattle.plan.specs.Answer.{planning}
use Rattle.plan.specs.Plan.{day_azimuths, plan_azimuths, plan_minutes}

-- a list without its entry i
unfoldable pub without : {A : Type 0} → ℕ → List A → List A
without i list = take i list ++ drop (suc i) list

module _ (date : Date) (body : Body) (point : Point) where
  -- each minute of the day has an azimuth, and no two adjacent minutes are exactly opposite
  pub record Possible : Type 0 where
    pub each_there : (m : ℕ) → m < minutes → is_there (azimuth_on date body point m) ≡ true
    pub never_opposite : (m : ℕ) (here next : Angle) → m + 1 < minutes → azimuth_on date body point m ≡ Some here → azimuth_on date body point (m + 1) ≡ Some next
        → clockwise here.units next.units ≡ half_turn → ⊥

  module _ (tolerance : ℕ) where
    -- its plan, as the phone sends it
    abbrev pub sent_minutes : List ℕ
    sent_minutes = plan_minutes tolerance (day_azimuths date body point)

    abbrev pub sent_azimuths : List ℤ
    sent_azimuths = plan_azimuths tolerance (day_azimuths date body point)

    abbrev pub has_plan : Bool
    has_plan = (planning date body point tolerance).value.has

    -- the judge's refusal of it without point i, at the same tolerance
    abbrev pub refusal_without : ℕ → ℕ
    refusal_without i = (judgement date body point tolerance (without i sent_minutes) (without i sent_azimuths)).refusal

    -- THE CLAIMS, of every request: a plan, or none, exactly when; where there is one, the judge accepts it, and without any one inner point refuses it by 30 or 31
    pub record PlanHolds : Type 0 where
      pub plan_exactly : first (day_refusals date point) ≡ 0 → (has_plan ≡ true) ↔ Possible
      pub never_refused : has_plan ≡ true → judgement date body point tolerance sent_minutes sent_azimuths ≡ record { refusal = 0; minute = 0 }
      pub each_needed : has_plan ≡ true → (i : ℕ) → 0 < i → i + 1 < length sent_minutes → (refusal_without i ≡ 30) ⊎ (refusal_without i ≡ 31)
      pub in_buffers : has_plan ≡ true → length sent_minutes ≤ minutes

abbrev pub EveryPlanHolds : Type 0
EveryPlanHolds = (date : Date) (body : Body) (point : Point) (tolerance : ℕ) → PlanHolds date body point tolerance
