-- What was printed is read again: the claims, which proofs/RoundTrip.antt proves.
use Rattle.std.specs.Prelude.{Bool, true, List, [], ◌∷◌, ◌++◌, ◌≡◌, ℕ, ltb, ℤ, nat_abs, length}
use Rattle.std.proofs.Math.Option.{some}
use Rattle.text.specs.Decimal.{decimal}
use Rattle.text.specs.Line.{all, line_numbers, number, space, value}

-- at most nine digits
abbrev pub is_short : ℤ → Bool
is_short z = ltb (nat_abs z) 1_000_000_000

-- a number and more of them, with single spaces
unfoldable pub printed : ℤ → List ℤ → List ℕ
printed first [] = decimal first
printed first (next ∷ rest) = decimal first ++ space ∷ printed next rest

-- the value of the digits, however many they are
abbrev pub ValueAgain : Type 0
ValueAgain = (z : ℤ) → value (decimal z) ≡ z

abbrev pub NumberAgain : Type 0
NumberAgain = (z : ℤ) → is_short z ≡ true → number 9 (decimal z) ≡ some z

-- a line of nine numbers, or of any other count
abbrev pub LineAgain : Type 0
LineAgain =
    (first : ℤ) (rest : List ℤ) → all is_short (first ∷ rest) ≡ true
    → line_numbers (length (first ∷ rest)) 9 (printed first rest) ≡ some (first ∷ rest)
