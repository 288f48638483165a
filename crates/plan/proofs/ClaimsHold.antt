-- What 02 asks of the planner by name, of every request.
use mathlib.Core.Bool.{Bool, true}
use mathlib.Core.List.{List}
use mathlib.Core.Logic.{◌⊎◌, inl, inr}
use mathlib.Core.Path.{◌∙◌, ◌≡◌, ap, ap₂, refl, sym}
use Prim.Native.Nat.{◌+◌, ◌<◌, ◌≤◌, zero-le, ℕ}
use native.Mathlib.Omega.{arith}
use lib.Dec.{eqb}
use lib.IntN.{nat_abs, pos, ℤ}
use lib.ListN.{length}
use borrow.Author.Tests.{eqb-false, eqb-true, le-leb, lt-ltb}
use Rattle.std.specs.Prelude.{None, Some}
use Rattle.arctangent.specs.Direction.{Direction, Reduced, angle_or, is_there, mark}
use Rattle.calendar.specs.Refusal.{first}
use Rattle.day.proofs.CurveLaws.{below_entry}
use Rattle.day.proofs.SearchLaws.{clash}
use Rattle.day.specs.Curve.{azimuth_on, last_minute, minute_of, minutes}
use Rattle.day.specs.Date.{day_refusals, days}
use Rattle.day.specs.declared.date.Date.{Date}
use Rattle.heading.specs.Heading.{clockwise, is_reduced}
use Rattle.number_rules.specs.Angle.{full_turn}
use Rattle.numbers.specs.declared.angle.Angle.{Angle}
use Rattle.proposal.proofs.VerdictLaws.{accepted_when, by_points}
use Rattle.proposal.specs.Verdict.{judgement}
use Rattle.sky.specs.Answer.{Answer}
use Rattle.sky_vectors.proofs.PlaceLaws.{place_at_in_turns}
use Rattle.sky_vectors.specs.declared.geocentric.Body.{Body}
use Rattle.sky_vectors.specs.declared.station.Point.{Point}
use Rattle.turning_points.proofs.PointLaws.{never_opposite, reduced_at, reduced_when, turned_apart}
use Rattle.turning_points.proofs.SearchLaws.{and_intro, by_cases}
use Rattle.turning_points.specs.Points.{azimuth, signed_at}
use Rattle.plan.specs.Answer.{PlanNumbers, planning}
use Rattle.plan.specs.Claims.{EveryPlanHolds, Possible, refusal_without, sent_azimuths, sent_minutes, without}
use Rattle.plan.specs.Plan.{Plannable, day_azimuths, is_possible, plan_azimuths, plan_minutes}
use Rattle.plan.proofs.AnswerLaws.{day_whole, none_planned, planned_is, refused_is}
use Rattle.plan.proofs.DayLaws.{legs_most, plannable}
use Rattle.plan.proofs.PlanLaws.{dropped_refused, list_length, plan_unrefused}

-- an answer that has one of two refusals
either : {n a b c : ℕ} → n ≡ a → (a ≡ b) ⊎ (a ≡ c) → (n ≡ b) ⊎ (n ≡ c)
either same (inl e) = inl (same ∙ e)
either same (inr e) = inr (same ∙ e)

-- ---- an entry is reduced exactly where there is a direction
entry_there : (d : Direction) → Reduced d → is_reduced (angle_or mark d) ≡ is_there d
unfolding is_reduced
entry_there (Some angle) below = and_intro (le-leb 0 angle.units zero-le) (lt-ltb angle.units full_turn below)
entry_there None below = refl

there_towards : (d : Direction) → is_there d ≡ true → d ≡ Some (record { units = nat_abs (angle_or mark d) })
there_towards (Some angle) e = refl
there_towards None e = absurd (clash e refl)

module _ (date : Date) (body : Body) (point : Point) where
  abbrev day : List ℤ
  day = day_azimuths date body point

  abbrev sky : ℕ → Direction
  sky = azimuth_on date body point

  entry_is : (m : ℕ) → m < minutes → signed_at day m ≡ angle_or mark (sky m)
  unfolding day_azimuths
  entry_is m h = below_entry (λ k. angle_or mark (sky k)) (pos 0) minutes m h

  azimuth_of : (m : ℕ) (angle : Angle) → m < minutes → sky m ≡ Some angle → azimuth day m ≡ angle.units
  azimuth_of m angle h is = ap nat_abs (entry_is m h) ∙ ap (λ (d : Direction). nat_abs (angle_or mark d)) is

  reduced_there : (m : ℕ) → m < minutes → is_reduced (signed_at day m) ≡ is_there (sky m)
  reduced_there m h = ap is_reduced (entry_is m h) ∙ entry_there (sky m) (place_at_in_turns body point (minute_of date (days date) m)).azimuth_reduced

  towards : (m : ℕ) → m < minutes → is_there (sky m) ≡ true → sky m ≡ Some (record { units = azimuth day m })
  towards m h is = there_towards (sky m) is ∙ ap (λ (z : ℤ). Some (record { units = nat_abs z })) (sym (entry_is m h))

  -- ---- a plan exactly when
  possible_from : is_possible day ≡ true → Possible date body point
  possible_from e =
      let p = plannable day (day_whole date body point) e in
      record {
        each_there = λ m h. sym (reduced_there m h) ∙ reduced_at day p.reduced m (omega (arith, h, p.whole));
        never_opposite =
            λ m here next h e f same.
            never_opposite day p.turned m (omega (arith, h, p.whole)) (ap₂ clockwise (azimuth_of m here (omega (arith, h)) e) (azimuth_of (m + 1) next h f) ∙ same);
      }

  possible_to : Possible date body point → is_possible day ≡ true
  unfolding is_possible
  possible_to q =
      let whole = day_whole date body point in
      and_intro (reduced_when day (λ m h. let in_day : m < minutes = omega (arith, h, whole) in reduced_there m in_day ∙ q.each_there m in_day))
      (turned_apart day
      (λ m h same.
      let in_day : m + 1 < minutes = omega (arith, h, whole) in
      let here = towards m (omega (arith, in_day)) (q.each_there m (omega (arith, in_day))) in
      let next = towards (m + 1) in_day (q.each_there (m + 1) in_day) in
      q.never_opposite m (record { units = azimuth day m }) (record { units = azimuth day (m + 1) }) in_day here next same))

  module _ (tolerance : ℕ) where
    abbrev refusal : ℕ
    refusal = first (day_refusals date point)

    abbrev has : Answer PlanNumbers → Bool
    has answer = answer.value.has

    has_is : refusal ≡ 0 → (planning date body point tolerance).value.has ≡ is_possible day
    has_is e =
        by_cases (is_possible day) (λ possible. ap has (planned_is date body point tolerance e possible) ∙ sym possible)
        (λ impossible. ap has (none_planned date body point tolerance e impossible) ∙ sym impossible)

    -- where there is a plan, the day passes
    planned_passes : (planning date body point tolerance).value.has ≡ true → refusal ≡ 0
    planned_passes is =
        by_cases (eqb refusal 0) (eqb-true refusal 0)
        (λ some. absurd (clash is (ap has (refused_is date body point tolerance refl (eqb-false refusal 0 some)))))

    -- ---- the two theorems
    module _ (is : (planning date body point tolerance).value.has ≡ true) where
      p : Plannable day
      p = plannable day (day_whole date body point) (sym (has_is (planned_passes is)) ∙ is)

      known : (m : ℕ) → m ≤ last_minute → sky m ≡ Some (record { units = azimuth day m })
      known m h = towards m (omega arith) ((possible_from (sym (has_is (planned_passes is)) ∙ is)).each_there m (omega arith))

      accepted : judgement date body point tolerance (sent_minutes date body point tolerance) (sent_azimuths date body point tolerance) ≡ record { refusal = 0; minute = 0 }
      accepted = accepted_when date body point tolerance (plan_minutes tolerance day) (plan_azimuths tolerance day) (planned_passes is) (plan_unrefused tolerance day p sky known)

      needed : (i : ℕ) → 0 < i → i + 1 < length (sent_minutes date body point tolerance) → (refusal_without date body point tolerance i ≡ 30) ⊎ (refusal_without date body point tolerance i ≡ 31)
      needed i inner h =
          either (by_points date body point tolerance (without i (plan_minutes tolerance day)) (without i (plan_azimuths tolerance day)) (planned_passes is))
          (dropped_refused tolerance day p sky known i inner (omega (arith, h, list_length tolerance day p)))

      in_buffers : length (sent_minutes date body point tolerance) ≤ minutes
      in_buffers = omega (arith, list_length tolerance day p, legs_most tolerance day p)

pub every_plan_holds : EveryPlanHolds
every_plan_holds date body point tolerance =
    record {
      plan_exactly = λ e. (λ is. possible_from date body point (sym (has_is date body point tolerance e) ∙ is), λ q. has_is date body point tolerance e ∙ possible_to date body point q);
      never_refused = accepted date body point tolerance;
      each_needed = needed date body point tolerance;
      in_buffers = in_buffers date body point tolerance;
    }
