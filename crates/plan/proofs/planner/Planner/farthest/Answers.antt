-- `planner::Planner::farthest` meets its contract. The invariant: no minute that is passed is reached.
use mathlib.Core.Path.{◌∙◌, sym}
use Prim.Native.Nat.{◌+◌, ◌-◌}
use native.Mathlib.Omega.{arith}
use Rattle.plan.proofs.DayLaws.{farthest_is, next_reached}
use Rattle.plan.proofs.planner.Planner.farthest.Goals as goal

pub returns-then-reaches : goal.returns-then-reaches
returns-then-reaches c =
    let a = c.args in
    sym (farthest_is a.self.tolerance a.self.day.now c.args.self.plannable a.first c.requires (c.loop-last.last - 1) (omega arith) (omega arith)
    (sym c.reaches.ensures ∙ c.if-reaches.true) (λ e h k. c.loop-last.invariant e (omega (arith, h)) k))

pub returns : goal.returns
returns c =
    let a = c.args in
    sym (farthest_is a.self.tolerance a.self.day.now c.args.self.plannable a.first c.requires (a.first + 1) (omega arith) (omega arith)
    (next_reached a.self.tolerance a.self.day.now c.args.self.plannable a.first c.requires) (λ e h k. c.loop-last.invariant e (omega (arith, h)) k))
