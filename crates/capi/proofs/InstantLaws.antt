-- An instant that is not refused is within reach.
use mathlib.Core.Path.{◌≡◌, sym}
use Prim.Native.Nat.{◌≤◌}
use lib.Dec.{leb}
use lib.IntN.{nat_abs, ℤ}
use borrow.Author.Tests.{leb-true}
use Rattle.calendar.proofs.RefusalLaws.{passes}
use Rattle.sum_rules.specs.Instant.{furthest}
use Rattle.boundary.specs.Codes.{reach_refusal}

pub near : (n : ℤ) → 0 ≡ reach_refusal n → nat_abs n ≤ furthest
near n e = leb-true _ _ (passes 103 (leb (nat_abs n) furthest) (sym e))
