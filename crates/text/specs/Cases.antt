-- Lines as they are typed, with what they are, and numbers as they are printed.
use Rattle.std.specs.Prelude.{List, [], ◌∷◌, ◌≡◌, ℕ, ℤ, negsuc, pos}
use Rattle.std.proofs.Math.Option.{Option, none, some}
use Prim.Native.Char.{code}
use Prim.Native.String.{String, [] as no_more, ◌∷◌ as ◌before◌}
use Rattle.arithmetic.specs.Each.{Each}
use Rattle.text.specs.Decimal.{decimal, decimals}
use Rattle.text.specs.Line.{line_numbers}

-- the bytes of a quoted text, which are ASCII here
unfoldable pub bytes : String → List ℕ
bytes no_more = []
bytes (character before rest) = code character ∷ bytes rest

pub data Case : Type 0 where
  line_of : ℕ → ℕ → String → Option (List ℤ) → Case
  print_of : ℤ → String → Case
  units_of : ℤ → String → Case

abbrev pub Holds : Case → Type 0
Holds (line_of count most line answer) = line_numbers count most (bytes line) ≡ answer
Holds (print_of z line) = decimal z ≡ bytes line
Holds (units_of z line) = decimals z ≡ bytes line

abbrev pub cases : List Case
cases =
    line_of 9 9 "2000 1 2 12 0 0 0 -900 8000000"
    (some (pos 2000 ∷ pos 1 ∷ pos 2 ∷ pos 12 ∷ pos 0 ∷ pos 0 ∷ pos 0 ∷ negsuc 899 ∷ pos 8000000 ∷ [])) ∷
    line_of 3 9 "-0 007 -999999999" (some (pos 0 ∷ pos 7 ∷ negsuc 999999998 ∷ [])) ∷
    line_of 2 9 "1 2 3" none ∷
    line_of 1 9 "" none ∷
    line_of 1 9 " 1" none ∷
    line_of 1 9 "1 " none ∷
    line_of 2 9 "1  2" none ∷
    line_of 2 9 "1\t2" none ∷
    line_of 1 9 "1\r" none ∷
    line_of 1 9 "+1" none ∷
    line_of 1 9 "-" none ∷
    line_of 1 9 "--1" none ∷
    line_of 1 9 "0000000001" none ∷
    line_of 2 10 "0000000001 -1800000000" (some (pos 1 ∷ negsuc 1799999999 ∷ [])) ∷
    line_of 1 10 "00000000001" none ∷
    print_of (pos 0) "0" ∷
    print_of (negsuc 9) "-10" ∷
    print_of (negsuc 9223372036854775807) "-9223372036854775808" ∷
    units_of (pos 0) "0.00000000" ∷
    units_of (negsuc 0) "-0.00000001" ∷
    units_of (pos 19434024073) "194.34024073" ∷
    units_of (negsuc 9223372036854775807) "-92233720368.54775808" ∷ []

-- every one of them holds
abbrev pub CasesHold : Type 0
CasesHold = Each Holds cases
