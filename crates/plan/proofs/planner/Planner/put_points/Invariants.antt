use mathlib.Core.Path.{◌≡◌}
use Prim.Native.Nat.{◌-◌, ◌<◌, ℕ}
use Rattle.day.specs.Curve.{last_minute}
use Rattle.turning_points.specs.Points.{signed_at}
use Rattle.plan.specs.Plan.{turning}
use Rattle.plan.proofs.FillLaws.{Filled}
use Rattle.plan.proofs.planner.Planner.put_points.Given as goal

abbrev pub invariant-loop-minute : goal.invariant-loop-minute
invariant-loop-minute l =
    (l.minute ≡ turning l.self.tolerance l.self.day.now l.index) × ((i : ℕ) → i < l.index → turning l.self.tolerance l.self.day.now i < last_minute)
    × Filled (turning l.self.tolerance l.self.day.now) l.initial.minutes l.minutes l.index
    × Filled (λ i. signed_at l.self.day.now (turning l.self.tolerance l.self.day.now i)) l.initial.azimuths l.azimuths l.index

abbrev pub decreases-loop-minute : goal.decreases-loop-minute
decreases-loop-minute l = last_minute - l.minute
