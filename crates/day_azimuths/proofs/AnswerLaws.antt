-- The answer: one and no other, what its checks say where they pass, what is left in the buffer, and demand 3.
use mathlib.Core.Bool.{true}
use mathlib.Core.List.{List, [], ◌++◌, ◌∷◌}
use mathlib.Core.Path.{◌∙◌, ◌≡◌, sym}
use Prim.Native.Nat.{◌*◌, ◌≤◌, ℕ}
use lib.Dec.{leb}
use lib.IntN.{nat_abs, ℤ}
use lib.ListN.{drop, length}
use borrow.Author.Tests.{leb-true, ne_eqb}
use Rattle.calendar.proofs.RefusalLaws.{none, none_append, passes}
use Rattle.std.specs.Prelude.{Result}
use Rattle.calendar.specs.declared.refusal.Refusal.{Refusal}
use Rattle.calendar.specs.Refusal.{OneAnswer, ◌unless◌, first}
use Rattle.day.proofs.DateLaws.{accepted_day, minute_reachable}
use Rattle.day.specs.Curve.{minute_of}
use Rattle.day.specs.Date.{day_refusals, days}
use Rattle.day.specs.declared.date.Date.{Date}
use Rattle.sky.proofs.AnswerLaws.{judged_refusal, one_answered}
use Rattle.sky.specs.Answer.{Answer}
use Rattle.sky_vectors.specs.declared.geocentric.Body.{Body}
use Rattle.sky_vectors.specs.declared.station.Point.{Point}
use Rattle.strip.specs.Checks.{is_step, steps}
use Rattle.sum_rules.proofs.Accurate.{sums_near}
use Rattle.day_azimuths.specs.Answer.{azimuths_answer, azimuths_refusals, day_azimuths, left_in, step_refusals}
use Rattle.day_azimuths.specs.Azimuths.{worked}
use Rattle.day_azimuths.specs.Demand3.{EveryAzimuthNear}
use Rattle.day_azimuths.proofs.StepLaws.{all_in_day, in_day}

-- ---- one answer and no other
pub one_working : {found : Result ℕ Refusal} {rule : Answer ℕ} → azimuths_answer found ≡ rule → OneAnswer azimuths_answer rule found
one_working = one_answered (λ x y same. same)

-- ---- checks that pass
module _ (date : Date) (point : Point) (step : ℤ) (room : ℕ) where
  module _ (e : first (azimuths_refusals date point step room) ≡ 0) where
    abbrev after_day : (first (day_refusals date point) ≡ 0) × (first (step_refusals step room) ≡ 0)
    after_day = none_append (day_refusals date point) (step_refusals step room) e

    abbrev after_step : (25 unless is_step step ≡ 0) × (first (28 unless leb (steps step) room ∷ []) ≡ 0)
    after_step = none (25 unless is_step step) (28 unless leb (steps step) room ∷ []) after_day.1

    pub day_passes : first (day_refusals date point) ≡ 0
    day_passes = after_day.0

    pub step_passes : is_step step ≡ true
    step_passes = passes 24 (is_step step) after_step.0

    pub has_room : steps step ≤ room
    has_room = leb-true (steps step) room (passes 27 (leb (steps step) room) (none (28 unless leb (steps step) room) [] after_step.1).0)

  pub refusal_is : (day_azimuths date point step room).refusal ≡ first (azimuths_refusals date point step room)
  unfolding day_azimuths
  refusal_is = judged_refusal (first (azimuths_refusals date point step room)) 0 (steps step)

-- ---- the buffer
module _ (date : Date) (body : Body) (point : Point) (step : ℤ) (before : List ℕ) where
  pub filled_in : first (azimuths_refusals date point step (length before)) ≡ 0 → worked date body point step ++ drop (steps step) before ≡ left_in date body point step before
  filled_in e = sym (simp (refusal_is date point step (length before) ∙ e))

  pub left_alone : {n : ℕ} → first (azimuths_refusals date point step (length before)) ≡ n → (n ≡ 0 → ⊥) → before ≡ left_in date body point step before
  left_alone is refuses =
      sym (simp (ne_eqb (day_azimuths date point step (length before)).refusal 0 (λ e. refuses (sym is ∙ (sym (refusal_is date point step (length before)) ∙ e)))))

-- ---- demand 3
pub every_azimuth_near : EveryAzimuthNear
every_azimuth_near date point step room =
    record {
      near =
          λ e i h.
          let today = accepted_day date point (day_passes date point step room (sym (refusal_is date point step room) ∙ e)) in
          let m = i * nat_abs step in
          sums_near (minute_of date (days date) m).tt (minute_reachable today m (in_day i (steps step) (nat_abs step) h (all_in_day step))).tt_near;
    }
