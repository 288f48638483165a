-- Cases by hand (01, ●) of the middle of two azimuths.
use Rattle.std.specs.Prelude.{List, [], ◌∷◌, ◌≡◌, ℤ, pos}
use Rattle.arithmetic.specs.Each.{Each}
use Rattle.heading.specs.Heading.{MiddleAnswer, middle}

pub data Case : Type 0 where
  middle_of : ℤ → ℤ → MiddleAnswer → Case

abbrev pub Holds : Case → Type 0
Holds (middle_of a b answer) = middle a b ≡ answer

abbrev pub cases : List Case
cases =
    middle_of (pos 35_990_000_000) (pos 10_000_000) (record { refusal = 0; azimuth = 0 }) ∷
    middle_of (pos 10) (pos 13) (record { refusal = 0; azimuth = 11 }) ∷
    middle_of (pos 0) (pos 18_000_000_000) (record { refusal = 14; azimuth = 0 }) ∷ []

-- every one of them holds
abbrev pub CasesHold : Type 0
CasesHold = Each Holds cases
