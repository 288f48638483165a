-- `arc::distance` meets its contract.
use native.Mathlib.Omega.{arith}
use Rattle.turning_points.proofs.ArcLaws.{clockwise_below, distance_far, distance_near}
use Rattle.turning_points.proofs.arc.distance.Goals as goal

pub overflow_sub-result : goal.overflow_sub-result
overflow_sub-result c = let a = c.args in omega (arith, c.clockwise-arc.ensures, clockwise_below a.a a.b)

pub returns-then-near : goal.returns-then-near
returns-then-near c =
    let a = c.args in
    let arc = c.clockwise-arc.ensures in
    omega (arith, arc, distance_near a.a a.b (omega (arith, arc)))

pub returns-else-near : goal.returns-else-near
returns-else-near c =
    let a = c.args in
    let arc = c.clockwise-arc.ensures in
    omega (arith, arc, distance_far a.a a.b (omega (arith, arc)))
