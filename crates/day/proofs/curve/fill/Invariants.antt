use mathlib.Core.Path.{◌≡◌}
use Prim.Native.Nat.{◌<◌, ℕ}
use lib.IntN.{pos}
use lib.ListN.{get_or, length}
use Rattle.day.specs.Curve.{minutes}
use Rattle.day.proofs.curve.fill.Given as goal

abbrev pub invariant-loop-minute : goal.invariant-loop-minute
invariant-loop-minute g l = (length l.curve ≡ minutes) × ((m : ℕ) → m < l.minute → goal.F-post g l.at m (get_or l.curve m (pos 0)))
