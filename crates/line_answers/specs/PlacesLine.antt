-- A line of the program `places`: thirteen words with single spaces, the answer to it, and what is printed for it.
use Rattle.std.specs.Prelude.{Bool, cond, List, [], ◌∷◌, ◌++◌, ℕ, ℤ, None}
use Rattle.std.proofs.Math.Option.{Option, none, some}
use Rattle.text.specs.Cases.{bytes}
use Rattle.text.specs.Decimal.{decimals}
use Rattle.text.specs.Line.{space}
use Rattle.sky.specs.Answer.{Answer, PlaceNumbers, nowhere, place}
use Rattle.line_answers.specs.BodyLine.{body_line, body_numbers, by_body, point_from}
use Rattle.line_answers.specs.Printed.{answer_line, newline}
use Rattle.request.specs.Request.{start_from}
use Rattle.sky_vectors.specs.declared.geocentric.Body.{Body}

-- any other line is refused 16
abbrev pub no_request : Answer PlaceNumbers
no_request = record { refusal = 16; value = nowhere }

-- the place without air, or the first of 1 to 9
unfoldable pub place_from : Body → Option (List ℤ) → Answer PlaceNumbers
place_from body none = no_request
place_from body (some numbers) = place (start_from numbers) body (point_from 9 numbers) None

-- the sheet's nine numbers, of 1 to 9 digits, then longitude, latitude and height
unfoldable pub body_answer : Body → List ℕ → Answer PlaceNumbers
body_answer body words = place_from body (body_numbers 9 12 words)

-- `sun` or `moon`, then the numbers
unfoldable pub places_answer : List ℕ → Answer PlaceNumbers
places_answer line = by_body body_answer no_request (body_line line) line

-- ---- what is printed

-- an azimuth in degrees, or the word `none`
unfoldable pub azimuth_text : Bool → ℤ → List ℕ
azimuth_text has azimuth = cond has (decimals azimuth) (bytes "none")

-- azimuth and elevation in degrees
unfoldable pub place_line : PlaceNumbers → List ℕ
place_line seen = azimuth_text seen.has_azimuth seen.azimuth ++ space ∷ decimals seen.elevation ++ newline ∷ []

-- what is printed for a line
unfoldable pub places_line : List ℕ → List ℕ
places_line line = answer_line place_line (places_answer line)
