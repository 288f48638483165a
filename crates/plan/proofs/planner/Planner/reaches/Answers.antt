-- `planner::Planner::reaches` meets its contract. The invariant: no minute so far is off the leg.
use mathlib.Core.Path.{◌∙◌, ◌≡◌, ap, refl, subst⁻¹, sym}
use Prim.Native.Nat.{◌+◌, ◌<◌}
use native.Mathlib.Omega.{arith}
use lib.Dec.{ltb}
use borrow.Author.Count.{below_more}
use borrow.Author.Tests.{le-ltb, lt-ltb}
use Rattle.turning_points.proofs.ArcLaws.{value_below}
use Rattle.turning_points.proofs.SearchLaws.{somewhere}
use Rattle.turning_points.specs.Arc.{OnLeg, are_opposite, distance, value_on}
use Rattle.turning_points.specs.Points.{azimuth}
use Rattle.turning_points.specs.declared.arc.Leg.{Leg}
use Rattle.plan.specs.Plan.{is_off, reaches}
use Rattle.plan.proofs.DayLaws.{azimuth_in, day_leg, not_after, reached_when}
use Rattle.plan.proofs.planner.Planner.reaches.Goals as goal
use Rattle.plan.proofs.planner.Planner.reaches.Goals.{After-are_opposite, After-distance-apart}

-- whether the ends are opposite
told : (c : After-are_opposite) → are_opposite (azimuth c.args.self.day.now c.args.first) (azimuth c.args.self.day.now c.args.last) ≡ c.are_opposite.result
told c = sym (c.are_opposite.ensures ∙ (λ i. are_opposite (c.azimuth_at.ensures i) (c.azimuth_at-2.ensures i)))

-- what the test told of a minute of the leg
off_is : (c : After-distance-apart) → is_off c.args.self.tolerance c.args.self.day.now c.args.first c.args.last c.loop-minute.minute ≡ ltb c.args.self.tolerance c.distance-apart.result
unfolding is_off
off_is c =
    let a = c.args in
    let m = c.loop-minute.minute in
    let past : a.first < m = omega arith in
    let value = c.value_on.ensures ∙ ap (λ (leg : Leg). value_on leg m) c.straight-leg.ensures in
    let apart = c.distance-apart.ensures ∙ (λ i. distance (value i) (c.azimuth_at-in-loop-minute.ensures i)) in
    rw (lt-ltb a.first m past) (ap (ltb a.self.tolerance) (sym apart))

pub are_opposite-requires : goal.are_opposite-requires
are_opposite-requires c =
    let a = c.args in (
      omega (arith, c.azimuth_at.ensures, azimuth_in a.self.tolerance a.self.day.now c.args.self.plannable a.first (omega arith)),
      omega (arith, c.azimuth_at-2.ensures, azimuth_in a.self.tolerance a.self.day.now c.args.self.plannable a.last (omega arith)),
    )

pub returns-then-are_opposite : goal.returns-then-are_opposite
unfolding reaches
returns-then-are_opposite c = sym (rw (told (goal.at.returns-then-are_opposite c).After-are_opposite ∙ c.if-are_opposite.true) refl)

pub loop-minute-init : goal.loop-minute-init
loop-minute-init c =
    let a = c.args in
    λ m h. not_after a.self.tolerance a.self.day.now c.args.self.plannable a.first a.last m (omega (arith, h))

pub value_on-requires : goal.value_on-requires
value_on-requires c =
    let a = c.args in
    let m = c.loop-minute.minute in
    subst⁻¹ (λ (leg : Leg). OnLeg leg m) c.straight-leg.ensures
    (day_leg a.self.tolerance a.self.day.now c.args.self.plannable a.first a.last m (omega arith) (omega arith) (omega arith) (omega arith))

pub distance-apart-requires : goal.distance-apart-requires
distance-apart-requires c =
    let a = c.args in
    let m = c.loop-minute.minute in (
      omega (arith, c.value_on.ensures, value_below c.straight-leg.result m),
      omega (arith, c.azimuth_at-in-loop-minute.ensures, azimuth_in a.self.tolerance a.self.day.now c.args.self.plannable m (omega arith)),
    )

pub returns-then-is_off : goal.returns-then-is_off
unfolding reaches
returns-then-is_off c =
    let a = c.args in
    let k = (goal.at.returns-then-is_off c).After-distance-apart in
    let off = off_is k ∙ lt-ltb a.self.tolerance c.distance-apart.result c.if-is_off.true in
    sym (rw (told (goal.at.After-distance-apart k).After-are_opposite ∙ c.if-are_opposite.false, somewhere (is_off a.self.tolerance a.self.day.now a.first a.last) (a.last + 1) c.loop-minute.minute (omega arith) off) refl)

pub loop-minute-preserved : goal.loop-minute-preserved
loop-minute-preserved c =
    below_more _ _ c.loop-minute.invariant (off_is (goal.at.loop-minute-preserved c).After-distance-apart ∙ le-ltb c.args.self.tolerance c.distance-apart.result c.if-is_off.false)

pub returns : goal.returns
returns c =
    let a = c.args in
    sym (reached_when a.self.tolerance a.self.day.now c.args.self.plannable a.first a.last (told (goal.at.returns c).After-are_opposite ∙ c.if-are_opposite.false) (λ m h. c.loop-minute.invariant m (omega (arith, h))))
