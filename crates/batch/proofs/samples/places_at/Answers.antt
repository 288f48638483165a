-- `batch::samples::places_at` meets its contract.
use mathlib.Core.Bool.{Bool, ◌&&◌, true}
use mathlib.Core.List.{List, [], ◌++◌, ◌∷◌}
use mathlib.Core.Path.{◌∙◌, ◌≡◌, ap, refl, subst⁻¹, sym}
use Prim.Native.Nat.{ℕ}
use native.Mathlib.Omega.{arith}
use lib.Dec.{T, leb, leb→le}
use lib.IntN.{ℤ}
use lib.ListN.{get_or, length}
use borrow.Author.Tests.{eq-eqb, ne_eqb}
use mir.Facts.{and_yes}
use Rattle.std.specs.Prelude.{Err, IsErr, IsErrAnd, Result, position}
use Rattle.std.proofs.lemmas.Result.{err_from_is_err_and}
use Rattle.numbers.proofs.Machine.{passed}
use Rattle.batch.proofs.BatchLaws.{all_in_time, found_late, found_none, one_batch, sample_reachable, utc_small}
use Rattle.batch.proofs.Demand3.{every_sample_near}
use Rattle.request.proofs.RequestLaws.{on_earth, point_passes, rest_passes, start_passes}
use Rattle.batch.specs.Batch.{AllReachable, azimuth_from, batch, batch_answer, elevation_from, filled, first_late, is_late, room_refusals}
use Rattle.batch.specs.declared.samples.BatchRefusal.{BatchRefusal}
use Rattle.batch.specs.declared.samples.BatchRefusal.TheVariants.{Request}
use Rattle.calendar.proofs.RefusalLaws as RefusalLaws
use Rattle.calendar.proofs.RefusalLaws.{first_one, never_none, passed_all, refused, refused_among}
use Rattle.calendar.specs.Refusal.{OneAnswer, ◌unless◌, first, number}
use Rattle.calendar.specs.declared.refusal.Refusal.{Refusal}
use Rattle.request.specs.Request.{instant, point_refusals, start_refusals, utc}
use Rattle.sky_vectors.proofs.SkySizes.{runner_stands}
use Rattle.sky_vectors.specs.Place.{place_at}
use Rattle.sky_vectors.specs.SkyRange.{Standing}
use Rattle.sky_vectors.specs.declared.station.Point.{Point}
use Rattle.request.specs.declared.start.Start.{Start}
use Rattle.sum_rules.specs.declared.instant.Instant.{Instant}
use Rattle.batch.proofs.samples.places_at.Goals as goal
use Rattle.batch.proofs.samples.places_at.Goals.{After-first_late, In_default, In_ok-room_verdict, Start as Begun}

module _ (s : Begun) where
  abbrev start : Start
  start = s.args.start

  abbrev point : Point
  point = s.args.point

  abbrev offsets : List ℕ
  offsets = s.args.offsets.now

  abbrev azimuths : ℕ
  azimuths = length s.args.azimuths.now

  abbrev elevations : ℕ
  elevations = length s.args.elevations.now

  abbrev room : Bool
  room = leb (length offsets) azimuths && leb (length offsets) elevations

  -- 1 to 9 and 12
  abbrev checks : List ℕ
  checks = room_refusals start point offsets azimuths elevations

  -- one of them refuses
  one_refused : {r : Result ℕ BatchRefusal} (refusal : Refusal) → r ≡ Err (Request refusal) → number refusal ≡ first checks
      → OneAnswer batch_answer (batch start point offsets azimuths elevations) r
  unfolding batch
  one_refused refusal is same = let no = ne_eqb (number refusal) 0 (never_none refusal) in one_batch (rw is (simp (sym same, no)))

-- what the exit of a `?` hands up
exit : {r : Result ℕ BatchRefusal} (refusal : Refusal) → IsErr r × IsErrAnd r (λ other. other ≡ Request refusal) → r ≡ Err (Request refusal)
exit {r} refusal h = let p = err_from_is_err_and r h.1 in p.1 ∙ ap Err p.2

pub returns-in_err-start_verdict-clause-one_answer : goal.returns-in_err-start_verdict-clause-one_answer
returns-in_err-start_verdict-clause-one_answer c =
    let s = (goal.at.returns-in_err-start_verdict-clause-one_answer c).Start in
    let refusal = c.in_err-start_verdict.field-0.0 in
    one_refused s refusal (exit refusal c.from_residual.ensures)
    (refused_among (start_refusals (start s)) (point_refusals (point s) ++ (12 unless room s ∷ [])) c.in_err-start_verdict.was c.start_verdict.ensures)

pub returns-in_err-point_verdict-clause-one_answer : goal.returns-in_err-point_verdict-clause-one_answer
returns-in_err-point_verdict-clause-one_answer c =
    let s = (goal.at.returns-in_err-point_verdict-clause-one_answer c).Start in
    let refusal = c.in_err-point_verdict.field-0.0 in
    one_refused s refusal (exit refusal c.from_residual-in_err-point_verdict.ensures)
    (passed_all (start_refusals (start s)) (point_refusals (point s) ++ (12 unless room s ∷ [])) c.in_ok-start_verdict.was c.start_verdict.ensures
    (refused_among (point_refusals (point s)) (12 unless room s ∷ []) c.in_err-point_verdict.was c.point_verdict.ensures))

pub returns-in_err-room_verdict-clause-one_answer : goal.returns-in_err-room_verdict-clause-one_answer
returns-in_err-room_verdict-clause-one_answer c =
    let s = (goal.at.returns-in_err-room_verdict-clause-one_answer c).Start in
    let refusal = c.in_err-room_verdict.field-0.0 in
    one_refused s refusal (exit refusal c.from_residual-in_err-room_verdict.ensures)
    (passed_all (start_refusals (start s)) (point_refusals (point s) ++ (12 unless room s ∷ [])) c.in_ok-start_verdict.was c.start_verdict.ensures
    (passed_all (point_refusals (point s)) (12 unless room s ∷ []) c.in_ok-point_verdict.was c.point_verdict.ensures
    (refused [] c.in_err-room_verdict.was c.room_verdict.ensures)))

-- a request that they let pass
module _ (c : In_ok-room_verdict) where
  abbrev s₁ : Begun
  s₁ = (goal.at.In_ok-room_verdict c).Start

  passes : first (checks s₁) ≡ 0
  unfolding first
  passes =
      sym (passed_all (start_refusals (start s₁)) (point_refusals (point s₁) ++ (12 unless room s₁ ∷ [])) c.in_ok-start_verdict.was c.start_verdict.ensures
      (passed_all (point_refusals (point s₁)) (12 unless room s₁ ∷ []) c.in_ok-point_verdict.was c.point_verdict.ensures
      (RefusalLaws.passed [] c.in_ok-room_verdict.was c.room_verdict.ensures refl)))

  start_good : first (start_refusals (start s₁)) ≡ 0
  start_good = start_passes (start s₁) (point s₁) (12 unless room s₁ ∷ []) passes

  point_good : first (point_refusals (point s₁)) ≡ 0
  point_good = point_passes (start s₁) (point s₁) (12 unless room s₁ ∷ []) passes

  room_good : room s₁ ≡ true
  room_good = RefusalLaws.passes 11 (room s₁) (sym (first_one (12 unless room s₁)) ∙ rest_passes (start s₁) (point s₁) (12 unless room s₁ ∷ []) passes)

-- what was found of 13
module _ (c : After-first_late) where
  abbrev judged : In_ok-room_verdict
  judged = (goal.at.After-first_late c).In_ok-room_verdict

  late_is : position (is_late (utc c.args.start)) c.args.offsets.now ≡ c.first_late.result
  late_is =
      sym (c.first_late.ensures ∙ ap (λ (z : ℤ). position (is_late z) c.args.offsets.now) (passed c.utc_of.type_inv c.utc_of.ensures))

-- a batch that 13 lets pass too
module _ (c : In_default) where
  abbrev searched : After-first_late
  searched = (goal.at.In_default c).After-first_late

  none_late : first_late (utc c.args.start) c.args.offsets.now ≡ length c.args.offsets.now
  none_late = found_none (utc c.args.start) c.args.offsets.now (late_is searched ∙ c.in_default.is)

  all_reachable : AllReachable (instant c.args.start) c.args.offsets.now
  all_reachable =
      record {
        each =
            λ i h.
            sample_reachable c.args.start (get_or c.args.offsets.now i 0) (start_good (judged searched)) (all_in_time (utc c.args.start) c.args.offsets.now none_late i h);
      }

pub first_late-requires : goal.first_late-requires
first_late-requires c =
    rw (passed c.utc_of.type_inv c.utc_of.ensures) (utc_small c.args.start (start_good (goal.at.first_late-requires c).In_ok-room_verdict))

pub returns-in-Some-clause-one_answer : goal.returns-in-Some-clause-one_answer
unfolding batch
returns-in-Some-clause-one_answer c =
    let k = (goal.at.returns-in-Some-clause-one_answer c).After-first_late in
    let found = found_late (utc c.args.start) c.args.offsets.now c.in-Some.late (late_is k ∙ c.in-Some.is) in
    let apart : c.in-Some.late ≡ length c.args.offsets.now → ⊥ = λ same. omega (arith, found.1, same) in
    one_batch (simp (eq-eqb _ _ (passes (judged k)), found.0, ne_eqb _ _ apart))

pub runner_at-runner-requires : goal.runner_at-runner-requires
runner_at-runner-requires c = on_earth c.args.point (point_good (judged (searched (goal.at.runner_at-runner-requires c).In_default)))

pub fill-requires : goal.fill-requires
fill-requires c =
    let k = (goal.at.fill-requires c).In_default in
    let good = judged (searched k) in
    let sizes = and_yes (leb (length c.args.offsets.now) (length c.args.azimuths.now)) (leb (length c.args.offsets.now) (length c.args.elevations.now)) (subst⁻¹ T (room_good good) tt) in record {
      within_reach = (
        subst⁻¹ Standing c.runner_at-runner.ensures (runner_stands c.args.point (on_earth c.args.point (point_good good))),
        subst⁻¹ (λ (i : Instant). AllReachable i c.args.offsets.now) c.instant_of.ensures (all_reachable k),
      );
      offsets_in_bounds = (leb→le _ _ sizes.0, leb→le _ _ sizes.1);
    }

pub returns : goal.returns
unfolding batch place_at
returns c =
    let k = (goal.at.returns c).In_default in
    let a = c.args in
    let at = c.instant_of.ensures in
    let stands = c.runner_at-runner.ensures in record {
      one_answer = one_batch (simp (eq-eqb _ _ (passes (judged (searched k))), eq-eqb _ _ (none_late k)));
      azimuths_after = c.fill.ensures.azimuths_after ∙ (λ i. filled (azimuth_from a.body (stands i) (at i)) a.offsets.now a.azimuths.now);
      elevations_after = c.fill.ensures.elevations_after ∙ (λ i. filled (elevation_from a.body (stands i) (at i)) a.offsets.now a.elevations.now);
      samples_near = every_sample_near a.start a.point a.offsets.now (length a.azimuths.now) (length a.elevations.now);
    }

pub returns-in_err-start_verdict-clause-samples_near : goal.returns-in_err-start_verdict-clause-samples_near
returns-in_err-start_verdict-clause-samples_near c = every_sample_near c.args.start c.args.point c.args.offsets.now (length c.args.azimuths.now) (length c.args.elevations.now)

pub returns-in_err-point_verdict-clause-samples_near : goal.returns-in_err-point_verdict-clause-samples_near
returns-in_err-point_verdict-clause-samples_near c = every_sample_near c.args.start c.args.point c.args.offsets.now (length c.args.azimuths.now) (length c.args.elevations.now)

pub returns-in_err-room_verdict-clause-samples_near : goal.returns-in_err-room_verdict-clause-samples_near
returns-in_err-room_verdict-clause-samples_near c = every_sample_near c.args.start c.args.point c.args.offsets.now (length c.args.azimuths.now) (length c.args.elevations.now)

pub returns-in-Some-clause-samples_near : goal.returns-in-Some-clause-samples_near
returns-in-Some-clause-samples_near c = every_sample_near c.args.start c.args.point c.args.offsets.now (length c.args.azimuths.now) (length c.args.elevations.now)
