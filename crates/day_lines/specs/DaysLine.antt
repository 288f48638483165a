-- A line of the program `days` (02, Item 1): nine words with single spaces, the answer to it, and what is printed for it.
use Rattle.std.specs.Prelude.{cond, List, [], ◌++◌, ◌∷◌, ◌%◌, ◌/◌, ℕ, eqb, ℤ}
use Rattle.std.proofs.Math.Option.{Option, none, some}
use Rattle.day.specs.Date.{date_from}
use Rattle.rise_set.specs.Answer.{RiseSetNumbers, neither, rise_and_set}
use Rattle.rise_set.specs.Crossing.{CrossingNumbers}
use Rattle.text.specs.Cases.{bytes}
use Rattle.text.specs.Decimal.{padded}
use Rattle.text.specs.Line.{space}
use Rattle.sky.specs.Answer.{Answer}
use Rattle.sky_vectors.specs.declared.geocentric.Body.{Body}
use Rattle.line_answers.specs.BodyLine.{body_line, body_numbers, by_body, point_from}
use Rattle.line_answers.specs.Printed.{answer_line, newline}

-- any other line is refused 16
abbrev pub no_request : Answer RiseSetNumbers
no_request = record { refusal = 16; value = neither }

unfoldable pub days_from : Body → Option (List ℤ) → Answer RiseSetNumbers
days_from body none = no_request
days_from body (some numbers) = rise_and_set (date_from numbers) body (point_from 5 numbers)

-- year month day, UT1 minus UTC and delta-T, of 1 to 9 digits, then longitude, latitude and height
unfoldable pub body_answer : Body → List ℕ → Answer RiseSetNumbers
body_answer body words = days_from body (body_numbers 5 8 words)

-- `sun` or `moon`, then the numbers
unfoldable pub days_answer : List ℕ → Answer RiseSetNumbers
days_answer line = by_body body_answer no_request (body_line line) line

-- ---- what is printed

-- HH:MM
unfoldable pub time_text : ℕ → List ℕ
time_text minute = padded 2 (minute / 60) ++ bytes ":" ++ padded 2 (minute % 60)

-- `-` for none
unfoldable pub crossing_text : CrossingNumbers → List ℕ
crossing_text crossing = cond (eqb crossing.has 0) (bytes "-") (time_text crossing.minute)

-- rise, then set
unfoldable pub rise_set_line : RiseSetNumbers → List ℕ
rise_set_line seen = crossing_text seen.rise ++ space ∷ crossing_text seen.set ++ newline ∷ []

unfoldable pub days_line : List ℕ → List ℕ
days_line line = answer_line rise_set_line (days_answer line)
