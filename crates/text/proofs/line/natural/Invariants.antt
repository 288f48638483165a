use mathlib.Core.Path.{◌≡◌}
use mathlib.Core.Bool.{true}
use mathlib.Core.List.{List}
use Prim.Native.Nat.{ℕ}
use lib.ListN.{drop}
use Rattle.text.specs.Line.{all, is_digit, natural, value_after}
use Rattle.text.proofs.line.natural.Given as goal

pub record Partly (word : List ℕ) (value i : ℕ) : Type 0 where
  pub digits : all is_digit (drop i word) ≡ true
  pub same : natural word ≡ value_after value (drop i word)

abbrev pub invariant-loop-digit : goal.invariant-loop-digit
invariant-loop-digit l = Partly l.word l.value l.digit-index
