use Prim.Native.Nat.{◌≤◌, ℕ}
use Rattle.numbers.specs.RootDigits.{taking}
use Rattle.numbers.proofs.root.greatest_digit.Given as goal

pub record Tried (twentyfold rest digit : ℕ) : Type 0 where
  pub at_most : digit ≤ 9
  pub none_greater : (n : ℕ) → taking twentyfold n ≤ rest → n ≤ digit

abbrev pub invariant-loop-digit : goal.invariant-loop-digit
invariant-loop-digit l = Tried l.twentyfold l.rest l.digit

abbrev pub decreases-loop-digit : goal.decreases-loop-digit
decreases-loop-digit l = l.digit
