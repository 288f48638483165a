use Prim.Native.Nat.{◌≤◌}
use Rattle.numbers.specs.RootDigits.{AfterDigit, digits_of, pairs, taken}
use Rattle.numbers.proofs.root.root.Given as goal

abbrev pub invariant-loop-pair : goal.invariant-loop-pair
invariant-loop-pair l = (l.pair-index ≤ pairs) × AfterDigit (taken l.x l.pair-index) l.so_far

-- the digits taken before are those of the root so far
abbrev pub ghost-next_digit : goal.ghost-next_digit
ghost-next_digit a = digits_of a.before
