use mathlib.Core.Bool.{false}
use mathlib.Core.Path.{◌≡◌}
use Prim.Native.Nat.{◌<◌, ℕ}
use Rattle.plan.specs.Plan.{is_off}
use Rattle.plan.proofs.planner.Planner.reaches.Given as goal

abbrev pub invariant-loop-minute : goal.invariant-loop-minute
invariant-loop-minute l = (m : ℕ) → m < l.minute → is_off l.self.tolerance l.self.day.now l.first l.last m ≡ false
