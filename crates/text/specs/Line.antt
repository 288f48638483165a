-- Lines of whole numbers with single spaces (01, "The argument sheet"). A line is the list of its ASCII bytes.
use Rattle.std.specs.Prelude.{Bool, ◌&&◌, cond, false, true, List, [], ◌∷◌, map, ℕ, ◌*◌, ◌+◌, ◌-◌, eqb, leb, ℤ, neg_ℤ, pos, drop, length, take}
use Rattle.std.proofs.Math.Option.{Option, none, some}
use Rattle.std.specs.Prelude.{Option as Found, MatchOption, Some, None, ◌≡◌}

abbrev pub space : ℕ
space = 32

abbrev pub minus : ℕ
minus = 45

-- every entry passes the test
unfoldable pub all : {A : Type 0} → (A → Bool) → List A → Bool
all test [] = true
all test (entry ∷ rest) = test entry && all test rest

-- one byte more at the front of the first word
unfoldable pub longer : ℕ → List (List ℕ) → List (List ℕ)
longer byte [] = (byte ∷ []) ∷ []
longer byte (word ∷ rest) = (byte ∷ word) ∷ rest

-- a line is split at every space, so two spaces have an empty word between them
unfoldable pub words : List ℕ → List (List ℕ)
words [] = [] ∷ []
words (byte ∷ rest) = cond (eqb byte space) ([] ∷ words rest) (longer byte (words rest))

-- `0` to `9`
abbrev pub is_digit : ℕ → Bool
is_digit byte = leb 48 byte && leb byte 57

-- the number whose last digits these are, and whose first digits have the value so far
unfoldable pub value_after : ℕ → List ℕ → ℕ
value_after so_far [] = so_far
value_after so_far (digit ∷ rest) = value_after (so_far * 10 + (digit - 48)) rest

-- 1 digit, up to the most that are allowed
unfoldable pub is_natural : ℕ → List ℕ → Bool
is_natural most word = leb 1 (length word) && (leb (length word) most && all is_digit word)

abbrev pub natural : List ℕ → ℕ
natural word = value_after 0 word

unfoldable pub is_negative : List ℕ → Bool
is_negative [] = false
is_negative (byte ∷ rest) = eqb byte minus

-- optional minus, then the digits
unfoldable pub is_number : ℕ → List ℕ → Bool
is_number most word = cond (is_negative word) (is_natural most (drop 1 word)) (is_natural most word)

-- the value of an optional minus and digits, of which there may be any number
unfoldable pub value : List ℕ → ℤ
value word = cond (is_negative word) (neg_ℤ (pos (natural (drop 1 word)))) (pos (natural word))

unfoldable pub number : ℕ → List ℕ → Option ℤ
number most word = cond (is_number most word) (some (value word)) none

-- every word is a number
unfoldable pub numbers : ℕ → List (List ℕ) → Option (List ℤ)
numbers most list = cond (all (is_number most) list) (some (map value list)) none

-- every word is a number, and there are so many of them
unfoldable pub line_numbers : ℕ → ℕ → List ℕ → Option (List ℤ)
line_numbers count most line = cond (eqb (length (words line)) count) (numbers most (words line)) none

-- the first words, so many of them, are numbers of 1 to 9 digits
unfoldable pub short_numbers : ℕ → List ℕ → Bool
short_numbers count line = all (is_number 9) (take count (words line))

-- nine whole numbers of 1 to 9 digits, line at most 80 bytes
unfoldable pub sheet_numbers : List ℕ → Option (List ℤ)
sheet_numbers line = cond (leb (length line) 80) (line_numbers 9 9 line) none

-- the line's first bytes are these
unfoldable pub begins : List ℕ → List ℕ → Bool
begins [] line = true
begins (byte ∷ rest) [] = false
begins (byte ∷ rest) (first ∷ line) = eqb byte first && begins rest line

-- the numbers as they are handed back: none where the line is another
unfoldable pub answer : Option (List ℤ) → Found (List ℤ)
answer none = None
answer (some list) = Some list

-- the numbers stand in the places that were lent, or the line is another
abbrev pub Filled : {A : Type 0} → Option (List ℤ) → List ℤ → Found A → Type 0
Filled numbers places filled = MatchOption filled (numbers ≡ none) (λ _. numbers ≡ some places)
