-- `judge::first_out` meets its contract. The invariant: the leg is that of the minute before, and no minute so far is out of tolerance.
use mathlib.Core.Bool.{Bool}
use mathlib.Core.List.{List}
use mathlib.Core.Path.{◌∙◌, ◌≡◌, ap, subst⁻¹, sym}
use Prim.Native.Nat.{◌+◌, ◌-◌, ◌<◌, ℕ}
use native.Mathlib.Omega.{arith}
use lib.IntN.{ℤ}
use lib.ListN.{length}
use borrow.Author.Count.{below_more}
use Rattle.arctangent.specs.Direction.{Direction, Reduced}
use Rattle.day.proofs.SearchLaws.{is_first}
use Rattle.day.specs.Curve.{azimuth_from, minute_of, minutes}
use Rattle.sky_vectors.proofs.PlaceLaws.{place_from_in_turns}
use Rattle.turning_points.proofs.ArcLaws.{value_below}
use Rattle.turning_points.proofs.PointLaws.{formed_tests, well_formed}
use Rattle.turning_points.specs.Arc.{OnLeg, value_on}
use Rattle.turning_points.specs.Formed.{WellFormed}
use Rattle.turning_points.specs.Points.{leg_at}
use Rattle.turning_points.specs.declared.arc.Leg.{Leg}
use Rattle.proposal.specs.Verdict.{first_out, is_out, leg_of, out_at, value_at}
use Rattle.proposal.proofs.LegLaws.{leg_start, leg_there, on_leg_of}
use Rattle.proposal.proofs.judge.first_out.Goals as goal
use Rattle.proposal.proofs.judge.first_out.Goals.{After-is_out, After-next_leg-leg, Start}

module _ (s : Start) where
  abbrev list : List ℕ
  list = s.args.points.minutes.now

  abbrev azimuths : List ℤ
  azimuths = s.args.points.azimuths.now

  well : WellFormed list azimuths
  well = well_formed list azimuths s.requires

  abbrev sky : ℕ → Direction
  sky = azimuth_from s.args.course.body s.args.course.runner s.args.course.date s.args.course.days

  abbrev out : ℕ → Bool
  out = out_at s.args.tolerance sky list azimuths

-- a turn
module _ (c : After-next_leg-leg) where
  abbrev start : Start
  start = (goal.at.After-next_leg-leg c).Start

  there : leg_of (list start) c.loop-minute.minute + 1 < length (list start)
  there = leg_there (list start) (azimuths start) (well start) c.loop-minute.minute (omega arith)

-- what the test told of the minute
told : (c : After-is_out) → out (goal.at.After-is_out c).Start c.loop-minute.minute ≡ c.is_out.result
unfolding out_at value_at
told c =
    let s = (goal.at.After-is_out c).Start in
    let value = c.value_on-value.ensures ∙ ap (λ (x : Leg). value_on x c.loop-minute.minute) (c.leg.ensures ∙ ap (leg_at (list s) (azimuths s)) c.next_leg-leg.ensures) in
    sym (c.is_out.ensures ∙ (λ i. is_out s.args.tolerance (c.azimuth-worked.ensures i) (value i)))

pub loop-minute-init : goal.loop-minute-init
loop-minute-init c =
    let s = (goal.at.loop-minute-init c).Start in
    (sym (leg_start (list s) (azimuths s) (well s)), λ m h. absurd (omega (arith, h)))

pub leg-requires : goal.leg-requires
leg-requires c =
    let k = (goal.at.leg-requires c).After-next_leg-leg in
    let s = start k in record {
      azimuths_value = ((formed_tests (list s) (azimuths s) s.requires).2, omega (arith, c.next_leg-leg.ensures, there k, (well s).each_with_azimuth));
      index_in_bounds = omega (arith, c.next_leg-leg.ensures, there k);
    }

pub value_on-value-requires : goal.value_on-value-requires
value_on-value-requires c =
    let s = (goal.at.value_on-value-requires c).Start in
    let m = c.loop-minute.minute in
    subst⁻¹ (λ (leg : Leg). OnLeg leg m) (c.leg.ensures ∙ ap (leg_at (list s) (azimuths s)) c.next_leg-leg.ensures) (on_leg_of (list s) (azimuths s) (well s) m (omega arith))

pub is_out-requires : goal.is_out-requires
is_out-requires c =
    let course = c.args.course in (
      subst⁻¹ Reduced c.azimuth-worked.ensures (place_from_in_turns course.body course.runner (minute_of course.date course.days c.loop-minute.minute)).azimuth_reduced,
      omega (arith, c.value_on-value.ensures, value_below c.leg.result c.loop-minute.minute),
    )

pub returns-then-is_out : goal.returns-then-is_out
unfolding first_out
returns-then-is_out c =
    let k = (goal.at.returns-then-is_out c).After-is_out in
    let s = (goal.at.After-is_out k).Start in
    let minute = c.loop-minute.minute in
    (sym (is_first (out s) minutes minute (omega arith) c.loop-minute.invariant.1 (λ _. told k ∙ c.if-is_out.true)), omega arith)

pub loop-minute-preserved : goal.loop-minute-preserved
loop-minute-preserved c =
    let k = (goal.at.loop-minute-preserved c).After-is_out in
    let minute = c.loop-minute.minute in
    let same : minute ≡ minute + 1 - 1 = omega arith in
    (c.next_leg-leg.ensures ∙ ap (leg_of c.args.points.minutes.now) same, below_more _ _ c.loop-minute.invariant.1 (told k ∙ c.if-is_out.false))

pub returns : goal.returns
unfolding first_out
returns c =
    let s = (goal.at.returns c).Start in
    is_first (out s) minutes minutes (omega arith) (λ m h. c.loop-minute.invariant.1 m (omega (arith, h))) (λ h. absurd (omega (arith, h)))
