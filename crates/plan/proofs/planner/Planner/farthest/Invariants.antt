use mathlib.Core.Bool.{false}
use mathlib.Core.Path.{◌≡◌}
use Prim.Native.Nat.{◌≤◌, ℕ}
use Rattle.day.specs.Curve.{last_minute}
use Rattle.plan.specs.Plan.{reaches}
use Rattle.plan.proofs.planner.Planner.farthest.Given as goal

abbrev pub invariant-loop-last : goal.invariant-loop-last
invariant-loop-last l = (e : ℕ) → l.last ≤ e → e ≤ last_minute → reaches l.self.tolerance l.self.day.now l.first e ≡ false
