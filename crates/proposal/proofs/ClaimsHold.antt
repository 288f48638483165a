-- Accepted exactly when every minute's value is within the tolerance; 31 names the first minute that is not.
use mathlib.Core.Bool.{false}
use mathlib.Core.List.{List}
use mathlib.Core.Path.{◌∙◌, ◌≡◌, ap, refl, sym}
use Prim.Native.Nat.{◌<◌, ◌≤◌, ℕ}
use native.Mathlib.Decide.{dec_lt}
use native.Mathlib.Omega.{arith}
use lib.IntN.{ℤ}
use borrow.Author.Tests.{le-ltb, ltb-false}
use Rattle.arctangent.specs.Direction.{Direction}
use Rattle.std.specs.Prelude.{None, Some}
use Rattle.calendar.proofs.RefusalLaws.{none_append}
use Rattle.day.proofs.SearchLaws.{clash}
use Rattle.day.specs.Curve.{azimuth_on, minutes}
use Rattle.day.specs.Date.{day_refusals}
use Rattle.day.specs.declared.date.Date.{Date}
use Rattle.numbers.specs.declared.angle.Angle.{Angle}
use Rattle.sky_vectors.specs.declared.geocentric.Body.{Body}
use Rattle.sky_vectors.specs.declared.station.Point.{Point}
use Rattle.turning_points.proofs.PointLaws.{formed_when, never_opposite, turned_apart, well_formed}
use Rattle.turning_points.specs.Arc.{distance}
use Rattle.proposal.specs.Claims.{EveryFirstNamed, EveryProposalJudged, Fits, Within}
use Rattle.proposal.specs.Verdict.{JudgementAnswer, first_out, is_out, judgement, out_at, proposal_refusals, value_at}
use Rattle.proposal.proofs.VerdictLaws.{Unrefused, accepted_when, all_passed, before_31_below, fails_before, holds_there, out_most, unrefused}

-- ---- out of tolerance, and within it
inside : (tolerance : ℕ) (worked : Direction) (value : ℕ) → is_out tolerance worked value ≡ false → (angle : Angle) → worked ≡ Some angle → distance value angle.units ≤ tolerance
unfolding is_out
inside tolerance worked value e angle is = ltb-false tolerance (distance value angle.units) (ap (λ (d : Direction). is_out tolerance d value) (sym is) ∙ e)

not_out : (tolerance : ℕ) (worked : Direction) (value : ℕ) → ((angle : Angle) → worked ≡ Some angle → distance value angle.units ≤ tolerance) → is_out tolerance worked value ≡ false
unfolding is_out
not_out tolerance (Some angle) value f = le-ltb tolerance (distance value angle.units) (f angle refl)
not_out tolerance None value f = refl

module _ (tolerance : ℕ) (worked : ℕ → Direction) (list : List ℕ) (azimuths : List ℤ) (m : ℕ) where
  within : out_at tolerance worked list azimuths m ≡ false → Within tolerance worked list azimuths m
  unfolding out_at
  within e = inside tolerance (worked m) (value_at list azimuths m) e

  pub never_out_at : Within tolerance worked list azimuths m → out_at tolerance worked list azimuths m ≡ false
  unfolding out_at
  never_out_at f = not_out tolerance (worked m) (value_at list azimuths m) f

module _ (date : Date) (body : Body) (point : Point) (tolerance : ℕ) (list : List ℕ) (azimuths : List ℤ) where
  abbrev sky : ℕ → Direction
  sky = azimuth_on date body point

  abbrev points : List ℕ
  points = proposal_refusals tolerance sky list azimuths

  -- ---- accepted exactly when
  fits : (judgement date body point tolerance list azimuths).refusal ≡ 0 → Fits date body point tolerance list azimuths
  unfolding judgement
  fits e =
      let parts = none_append (day_refusals date point) points e in
      let none = unrefused tolerance sky list azimuths parts.1 in
      record {
        day_passes = parts.0;
        well_formed = well_formed list azimuths none.formed;
        never_opposite = never_opposite azimuths none.turned;
        within = λ m h. within tolerance sky list azimuths m (none.within m h);
      }

  accepted : Fits date body point tolerance list azimuths → (judgement date body point tolerance list azimuths).refusal ≡ 0
  accepted f =
      let none : Unrefused tolerance sky list azimuths =
      record {
        formed = formed_when list azimuths f.well_formed;
        turned = turned_apart azimuths f.never_opposite;
        within = λ m h. never_out_at tolerance sky list azimuths m (f.within m h);
      } in
      ap (λ (a : JudgementAnswer). a.refusal) (accepted_when date body point tolerance list azimuths f.day_passes none)

  -- ---- 31 with the first one
  named : (judgement date body point tolerance list azimuths).refusal ≡ 31 → (judgement date body point tolerance list azimuths).minute ≡ first_out tolerance sky list azimuths
  unfolding judgement
  named e = rw e refl

  -- the checks before have smaller numbers, so that where no minute is out the refusal is none of theirs
  some_out : (judgement date body point tolerance list azimuths).refusal ≡ 31 → first_out tolerance sky list azimuths < minutes
  some_out e = go (dec_lt (first_out tolerance sky list azimuths) minutes)
    where
      go : Dec (first_out tolerance sky list azimuths < minutes) → first_out tolerance sky list azimuths < minutes
      go (yes h) = h
      go (no h) =
          let all : first_out tolerance sky list azimuths ≡ minutes = omega (arith, h, out_most tolerance sky list azimuths) in
          absurd (omega (arith, e, all_passed date body point tolerance list azimuths all, before_31_below date point list azimuths))

pub every_proposal_judged : EveryProposalJudged
every_proposal_judged date body point tolerance list azimuths =
    (fits date body point tolerance list azimuths, accepted date body point tolerance list azimuths)

pub every_first_named : EveryFirstNamed
every_first_named date body point tolerance list azimuths e =
    let sky = azimuth_on date body point in
    let is = named date body point tolerance list azimuths e in
    let some = some_out date body point tolerance list azimuths e in
    let out = first_out tolerance sky list azimuths in
    record {
      in_day = rw is some;
      out = rw is (λ f. clash (holds_there tolerance sky list azimuths some) (never_out_at tolerance sky list azimuths out f));
      within_before = λ k h. within tolerance sky list azimuths k (fails_before tolerance sky list azimuths k (omega (arith, h, is)));
    }
