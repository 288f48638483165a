-- Cases by hand (01, ●) that belong to numbers and angles.
use Rattle.std.specs.Prelude.{◌≡◌, List, [], ◌∷◌, ℤ, pos, negsuc}
use Rattle.arithmetic.specs.Each.{Each}
use Rattle.number_rules.specs.Calendar.{DayAnswer, day_count}
use Rattle.number_rules.specs.Sine.{sine}

pub data Case : Type 0 where
  day : ℤ → ℤ → ℤ → DayAnswer → Case
  sine_of : ℤ → ℤ → Case

abbrev pub Holds : Case → Type 0
Holds (day y m d answer) = day_count y m d ≡ answer
Holds (sine_of x s) = sine x ≡ s

abbrev pub cases : List Case
cases =
    day (pos 1900) (pos 1) (pos 1) (record { refusal = 0; days = negsuc 36_523 }) ∷
    day (pos 2100) (pos 12) (pos 31) (record { refusal = 0; days = pos 36_889 }) ∷
    day (pos 2000) (pos 2) (pos 29) (record { refusal = 0; days = pos 59 }) ∷
    day (pos 1900) (pos 2) (pos 29) (record { refusal = 3; days = pos 0 }) ∷
    sine_of (pos 3_000_000_000) (pos 500_000_000) ∷
    sine_of (pos 27_000_000_000) (negsuc 999_999_999) ∷ []

-- every one of them holds
abbrev pub CasesHold : Type 0
CasesHold = Each Holds cases
