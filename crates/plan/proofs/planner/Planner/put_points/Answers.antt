-- `planner::Planner::put_points` meets its contract. The invariant: the minute is the turning point whose turn it is, and both buffers have all before it.
use mathlib.Core.List.{List, ◌++◌}
use mathlib.Core.Path.{◌∙◌, ◌≡◌, ap, refl, subst⁻¹, sym}
use Prim.Native.Nat.{◌+◌, ◌<◌, ◌≤◌, ℕ}
use native.Mathlib.Omega.{arith}
use lib.IntN.{ℤ}
use lib.ListN.{drop, length, set}
use borrow.Author.Count.{below_more}
use Rattle.day.specs.Curve.{each_below, last_minute, minutes}
use Rattle.turning_points.specs.Points.{signed_at}
use Rattle.plan.specs.Plan.{count, farthest, plan_azimuths, plan_minutes, turning}
use Rattle.plan.proofs.DayLaws.{farthest_later, legs_are, turning_in, turning_late, turning_next}
use Rattle.plan.proofs.FillLaws.{Filled, in_all, nothing_yet, one_more}
use Rattle.plan.proofs.planner.Planner.put_points.Goals as goal
use Rattle.plan.proofs.planner.Planner.put_points.Goals.{After-farthest-minute, After-put_point, After-put_point-2, At-loop-minute, In-loop-minute, Start}

-- what the loop knows
module _ (l : At-loop-minute) where
  abbrev start : Start
  start = (goal.at.At-loop-minute l).Start

  abbrev point : ℕ → ℕ
  point = turning start.args.self.tolerance start.args.self.day.now

  abbrev azimuth : ℕ → ℤ
  azimuth i = signed_at start.args.self.day.now (point i)

  minute_in : l.loop-minute.minute ≤ last_minute
  minute_in = omega (arith, l.loop-minute.invariant.0, turning_in start.args.self.tolerance start.args.self.day.now start.args.self.plannable l.loop-minute.index)

  index_in : l.loop-minute.index < minutes
  index_in = omega (arith, minute_in, l.loop-minute.invariant.0, turning_late start.args.self.tolerance start.args.self.day.now start.args.self.plannable l.loop-minute.index l.loop-minute.invariant.1)

  -- with the point whose turn it is
  minutes_more : Filled point start.args.minutes.now (set l.loop-minute.minutes l.loop-minute.index l.loop-minute.minute) (l.loop-minute.index + 1)
  minutes_more = one_more point start.args.minutes.now l.loop-minute.invariant.2 index_in l.loop-minute.invariant.0

  azimuths_more : Filled azimuth start.args.azimuths.now (set l.loop-minute.azimuths l.loop-minute.index (signed_at start.args.self.day.now l.loop-minute.minute)) (l.loop-minute.index + 1)
  azimuths_more = one_more azimuth start.args.azimuths.now l.loop-minute.invariant.3 index_in (ap (signed_at start.args.self.day.now) l.loop-minute.invariant.0)

-- a turn
module _ (c : After-farthest-minute) where
  abbrev put : After-put_point
  put = (goal.at.After-farthest-minute c).After-put_point

  abbrev turn : In-loop-minute
  turn = (goal.at.After-put_point put).In-loop-minute

  abbrev l : At-loop-minute
  l = (goal.at.In-loop-minute turn).At-loop-minute

  not_last : point l l.loop-minute.index < last_minute
  not_last = omega (arith, l.loop-minute.invariant.0, turn.loop-minute-test.true)

-- the last point
module _ (c : After-put_point-2) where
  abbrev last_put : After-put_point-2
  last_put = c

  abbrev end : At-loop-minute
  end = (goal.at.After-put_point-2 last_put).At-loop-minute

  counted : end.loop-minute.index + 1 ≡ count (start end).args.self.tolerance (start end).args.self.day.now
  counted = legs_are (start end).args.self.tolerance (start end).args.self.day.now (start end).args.self.plannable end.loop-minute.index (omega (arith, end.loop-minute.invariant.0, minute_in end, last_put.loop-minute-test.false)) end.loop-minute.invariant.1

pub loop-minute-init : goal.loop-minute-init
loop-minute-init c =
    let a = c.args in
    let first = turning a.self.tolerance a.self.day.now in (
      unfold turning in refl,
      λ i h. absurd (omega (arith, h)),
      nothing_yet first a.minutes.now c.requires.0,
      nothing_yet (λ i. signed_at a.self.day.now (first i)) a.azimuths.now c.requires.1,
    )

pub put_point-requires : goal.put_point-requires
put_point-requires c =
    let l = (goal.at.put_point-requires c).At-loop-minute in record {
      in_day = minute_in l;
      index_in_bounds = (omega (arith, index_in l, l.loop-minute.invariant.2.whole), omega (arith, index_in l, l.loop-minute.invariant.3.whole));
    }

pub farthest-minute-requires : goal.farthest-minute-requires
farthest-minute-requires c =
    let turn = (goal.at.farthest-minute-requires c).In-loop-minute in omega (arith, turn.loop-minute-test.true)

pub overflow_add-index : goal.overflow_add-index
overflow_add-index c = omega (arith, index_in (l (goal.at.overflow_add-index c).After-farthest-minute))

pub loop-minute-smaller : goal.loop-minute-smaller
loop-minute-smaller c =
    let at = l (goal.at.loop-minute-smaller c).After-farthest-minute in
    let k = (start at).args in
    omega (arith, (turn (goal.at.loop-minute-smaller c).After-farthest-minute).loop-minute-test.true, c.farthest-minute.ensures, farthest_later k.self.tolerance k.self.day.now (start at).args.self.plannable at.loop-minute.minute (omega (arith, (turn (goal.at.loop-minute-smaller c).After-farthest-minute).loop-minute-test.true)))

pub loop-minute-preserved : goal.loop-minute-preserved
loop-minute-preserved c =
    let at = l (goal.at.loop-minute-preserved c).After-farthest-minute in
    let k = (start at).args in (
      c.farthest-minute.ensures ∙ ap (farthest k.self.tolerance k.self.day.now) at.loop-minute.invariant.0 ∙ sym (turning_next k.self.tolerance k.self.day.now (start at).args.self.plannable at.loop-minute.index),
      below_more _ _ at.loop-minute.invariant.1 (not_last (goal.at.loop-minute-preserved c).After-farthest-minute),
      subst⁻¹ (λ (list : List ℕ). Filled (point at) k.minutes.now list (at.loop-minute.index + 1)) (put (goal.at.loop-minute-preserved c).After-farthest-minute).put_point.ensures.minutes_after (minutes_more at),
      subst⁻¹ (λ (list : List ℤ). Filled (azimuth at) k.azimuths.now list (at.loop-minute.index + 1)) (put (goal.at.loop-minute-preserved c).After-farthest-minute).put_point.ensures.azimuths_after (azimuths_more at),
    )

pub put_point-requires-2 : goal.put_point-requires-2
put_point-requires-2 c =
    let l = (goal.at.put_point-requires-2 c).At-loop-minute in record {
      in_day = minute_in l;
      index_in_bounds = (omega (arith, index_in l, l.loop-minute.invariant.2.whole), omega (arith, index_in l, l.loop-minute.invariant.3.whole));
    }

pub overflow_add-result : goal.overflow_add-result
overflow_add-result c = omega (arith, index_in (end (goal.at.overflow_add-result c).After-put_point-2))

pub shape_of-minutes : goal.shape_of-minutes
shape_of-minutes c = ap length (last_put (goal.at.shape_of-minutes c).After-put_point-2).put_point-2.ensures.minutes_after ∙ (minutes_more (end (goal.at.shape_of-minutes c).After-put_point-2)).whole ∙ sym (start (end (goal.at.shape_of-minutes c).After-put_point-2)).requires.0

pub shape_of-azimuths : goal.shape_of-azimuths
shape_of-azimuths c = ap length (last_put (goal.at.shape_of-azimuths c).After-put_point-2).put_point-2.ensures.azimuths_after ∙ (azimuths_more (end (goal.at.shape_of-azimuths c).After-put_point-2)).whole ∙ sym (start (end (goal.at.shape_of-azimuths c).After-put_point-2)).requires.1

pub returns : goal.returns
unfolding plan_minutes plan_azimuths
returns c =
    let at = end (goal.at.returns c).After-put_point-2 in
    let k = (start at).args in record {
      value = counted (goal.at.returns c).After-put_point-2;
      minutes_after = (last_put (goal.at.returns c).After-put_point-2).put_point-2.ensures.minutes_after ∙ in_all (point at) k.minutes.now (minutes_more at) ∙ ap (λ (n : ℕ). each_below (point at) n ++ drop n k.minutes.now) (counted (goal.at.returns c).After-put_point-2);
      azimuths_after = (last_put (goal.at.returns c).After-put_point-2).put_point-2.ensures.azimuths_after ∙ in_all (azimuth at) k.azimuths.now (azimuths_more at) ∙ ap (λ (n : ℕ). each_below (azimuth at) n ++ drop n k.azimuths.now) (counted (goal.at.returns c).After-put_point-2);
    }
