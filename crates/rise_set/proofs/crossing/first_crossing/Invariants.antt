use mathlib.Core.Bool.{false}
use mathlib.Core.Path.{◌≡◌}
use Prim.Native.Nat.{◌<◌, ℕ}
use Rattle.rise_set.specs.Worked.{crosses_in, up_until}
use Rattle.rise_set.proofs.crossing.first_crossing.Given as goal

abbrev pub invariant-loop-minute : goal.invariant-loop-minute
invariant-loop-minute l =
    (l.before ≡ up_until l.up_before l.curve l.minute) × ((m : ℕ) → m < l.minute → crosses_in l.event l.up_before l.curve m ≡ false)
