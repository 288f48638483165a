-- Cases by hand: a value half way over north, and half way back; a distance over north.
use Rattle.std.specs.Prelude.{List, [], ◌∷◌, ◌≡◌, ℕ}
use Rattle.arithmetic.specs.Each.{Each}
use Rattle.turning_points.specs.Arc.{distance, value_on}
use Rattle.turning_points.specs.declared.arc.Leg.{Leg}

pub data Case : Type 0 where
  value_case : Leg → ℕ → ℕ → Case
  distance_case : ℕ → ℕ → ℕ → Case

abbrev pub Holds : Case → Type 0
Holds (value_case leg m value) = value_on leg m ≡ value
Holds (distance_case a b apart) = distance a b ≡ apart

-- 359.9 and 0.1 degree have 0 between them; from 13 back to 10 in two minutes it is 11 after one: 13 + ⌊-3/2⌋
abbrev pub cases : List Case
cases =
    value_case (record { first = 0; last = 2; start = 35_990_000_000; end = 10_000_000 }) 1 0 ∷
    value_case (record { first = 0; last = 2; start = 10_000_000; end = 35_990_000_000 }) 1 0 ∷
    value_case (record { first = 7; last = 9; start = 10; end = 13 }) 8 11 ∷
    value_case (record { first = 7; last = 9; start = 13; end = 10 }) 8 11 ∷
    value_case (record { first = 0; last = 2; start = 1; end = 35_999_999_998 }) 1 35_999_999_999 ∷
    value_case (record { first = 0; last = 1439; start = 0; end = 17_999_999_999 }) 1439 17_999_999_999 ∷
    value_case (record { first = 0; last = 1439; start = 0; end = 18_000_000_001 }) 1439 18_000_000_001 ∷
    distance_case 35_999_999_999 1 2 ∷ distance_case 1 35_999_999_999 2 ∷ distance_case 0 18_000_000_000 18_000_000_000 ∷ []

-- every one of them holds
abbrev pub CasesHold : Type 0
CasesHold = Each Holds cases
