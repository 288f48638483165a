-- Whole numbers as text, in ASCII bytes.
use Rattle.std.specs.Prelude.{cond, List, [], ◌∷◌, ◌++◌, ℕ, ◌%◌, ◌+◌, ◌/◌, suc, zero, ltb, ℤ, negsuc, pos}
use Rattle.text.specs.Line.{minus}

-- the last digits of n, as many as there is room for, with no zero in front
unfoldable pub last_digits : ℕ → ℕ → List ℕ
last_digits zero n = []
last_digits (suc room) n =
    let before = last_digits room (n / 10) in
    cond (ltb n 10) ((48 + n) ∷ []) (before ++ ((48 + n % 10) ∷ []))

-- room for one digit more than the number itself is always enough
unfoldable pub digits : ℕ → List ℕ
digits n = last_digits (suc n) n

-- a minus sign below zero
unfoldable pub sign : ℤ → List ℕ
sign (pos n) = []
sign (negsuc n) = minus ∷ []

-- a minus sign below zero, and the size
unfoldable pub signed : (ℕ → List ℕ) → ℤ → List ℕ
signed text (pos n) = text n
signed text (negsuc n) = minus ∷ text (suc n)

abbrev pub decimal : ℤ → List ℕ
decimal = signed digits

-- so many digits, the last ones of n, with zeros in front where it has fewer
unfoldable pub padded : ℕ → ℕ → List ℕ
padded zero n = []
padded (suc count) n = padded count (n / 10) ++ ((48 + n % 10) ∷ [])

abbrev pub point : ℕ
point = 46

-- n units of 10⁻⁸, with eight digits behind the point
unfoldable pub with_point : ℕ → List ℕ
with_point n = digits (n / 100_000_000) ++ point ∷ padded 8 n

abbrev pub decimals : ℤ → List ℕ
decimals = signed with_point

-- the most bytes of a text
abbrev pub text_room : ℕ
text_room = 80
