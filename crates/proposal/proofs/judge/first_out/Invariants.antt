use mathlib.Core.Bool.{false}
use mathlib.Core.Path.{◌≡◌}
use Prim.Native.Nat.{◌-◌, ◌<◌, ℕ}
use Rattle.day.specs.Curve.{azimuth_from}
use Rattle.proposal.specs.Verdict.{leg_of, out_at}
use Rattle.proposal.proofs.judge.first_out.Given as goal

abbrev pub invariant-loop-minute : goal.invariant-loop-minute
invariant-loop-minute l =
    (l.leg ≡ leg_of l.points.minutes.now (l.minute - 1))
    × ((m : ℕ) → m < l.minute → out_at l.tolerance (azimuth_from l.course.body l.course.runner l.course.date l.course.days) l.points.minutes.now l.points.azimuths.now m ≡ false)
