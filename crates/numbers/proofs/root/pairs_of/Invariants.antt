use mathlib.Core.List.{List}
use mathlib.Core.Path.{◌≡◌}
use Prim.Native.Nat.{◌<◌, ◌≤◌, ℕ}
use lib.ListN.{get_or, length}
use Rattle.numbers.specs.RootDigits.{pair, pairs, taken}
use Rattle.numbers.proofs.root.pairs_of.Given as goal

pub record Marked (x : ℕ) (marked : List ℕ) (front k : ℕ) : Type 0 where
  pub at_most : k ≤ pairs
  pub all : length marked ≡ pairs
  pub in_front : front ≡ taken x k
  pub from : (i : ℕ) → k ≤ i → i < pairs → get_or marked i 0 ≡ pair x i

abbrev pub invariant-loop-k : goal.invariant-loop-k
invariant-loop-k l = Marked l.x l.marked l.front l.k

abbrev pub decreases-loop-k : goal.decreases-loop-k
decreases-loop-k l = l.k
