-- `arc::value_on` meets its contract.
use mathlib.Core.Path.{◌≡◌, sym}
use Prim.Native.Nat.{◌-◌, ◌<◌}
use native.Mathlib.Omega.{arith}
use Rattle.number_rules.specs.Angle.{full_turn}
use Rattle.turning_points.proofs.ArcLaws.{ahead, arc, back_most, behind, clockwise_below, part_most, product_most}
use Rattle.turning_points.proofs.arc.value_on.Goals as goal
use Rattle.turning_points.proofs.arc.value_on.Goals.{After-clockwise-arc, Start}

-- the arc
module _ (c : After-clockwise-arc) where
  abbrev s : Start
  s = (goal.at.After-clockwise-arc c).Start

  arc_is : c.clockwise-arc.result ≡ arc s.args.leg
  arc_is = c.clockwise-arc.ensures

  arc_below : c.clockwise-arc.result < full_turn
  arc_below = omega (arith, arc_is, clockwise_below s.args.leg.start s.args.leg.end)

pub overflow_mul-result : goal.overflow_mul-result
overflow_mul-result c = let k = (goal.at.overflow_mul-result c).After-clockwise-arc in omega (arith, product_most (s k).requires k.clockwise-arc.result (omega (arith, arc_below k)))

pub overflow_add-result : goal.overflow_add-result
overflow_add-result c = let k = (goal.at.overflow_add-result c).After-clockwise-arc in omega (arith, part_most (s k).requires k.clockwise-arc.result, arc_below k, (s k).requires.start_reduced)

pub overflow_sub-back : goal.overflow_sub-back
overflow_sub-back c = omega (arith, arc_below (goal.at.overflow_sub-back c).After-clockwise-arc)

pub overflow_mul-back : goal.overflow_mul-back
overflow_mul-back c = let k = (goal.at.overflow_mul-back c).After-clockwise-arc in omega (arith, product_most (s k).requires (full_turn - k.clockwise-arc.result) (omega arith))

pub overflow_add-back : goal.overflow_add-back
overflow_add-back c = let k = (goal.at.overflow_add-back c).After-clockwise-arc in omega (arith, product_most (s k).requires (full_turn - k.clockwise-arc.result) (omega arith))

pub overflow_sub-result : goal.overflow_sub-result
overflow_sub-result c =
    let k = (goal.at.overflow_sub-result c).After-clockwise-arc in
    rw (arc_is k) (omega (arith, back_most (s k).requires (omega (arith, arc_is k, c.if-forward.false))))

pub returns-then-forward : goal.returns-then-forward
returns-then-forward c =
    let k = (goal.at.returns-then-forward c).After-clockwise-arc in
    rw (arc_is k) (sym (ahead (s k).requires (omega (arith, arc_is k, c.if-forward.true))))

pub returns-else-forward : goal.returns-else-forward
returns-else-forward c =
    let k = (goal.at.returns-else-forward c).After-clockwise-arc in
    rw (arc_is k) (sym (behind (s k).requires (omega (arith, arc_is k, c.if-forward.false))))
