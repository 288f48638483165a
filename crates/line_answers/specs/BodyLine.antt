-- A line of `places` or `days`: `sun` or `moon`, then numbers with single spaces.
use Rattle.std.specs.Prelude.{cond, List, ℕ, ◌*◌, ◌+◌, ℤ, drop, Option as Found, Some, None, Result, Ok, Err}
use Rattle.std.proofs.Math.Option.{Option, none, some}
use Rattle.calendar.specs.declared.refusal.Refusal.{Refusal}
use Rattle.calendar.specs.declared.refusal.Refusal.TheVariants.{NotALine}
use Rattle.sum_rules.specs.Table.{column}
use Rattle.text.specs.Cases.{bytes}
use Rattle.text.specs.Line.{begins, line_numbers, short_numbers}
use Rattle.sky_vectors.specs.declared.geocentric.Body.{Body}
use Rattle.sky_vectors.specs.declared.geocentric.Body.TheVariants.{Moon, Sun}
use Rattle.sky_vectors.specs.declared.station.Point.{Point}

-- the body, and where its numbers begin
unfoldable pub body_line : List ℕ → Found (Body × ℕ)
body_line line = cond (begins (bytes "sun ") line) (Some (Sun, 4)) (cond (begins (bytes "moon ") line) (Some (Moon, 5)) None)

-- what is answered to a body and the rest of its line, or to any other line
abbrev pub by_body : {A : Type 0} → (Body → List ℕ → A) → A → Found (Body × ℕ) → List ℕ → A
by_body rule other (Some of) line = rule of.0 (drop of.1 line)
by_body rule other None line = other

-- so many numbers: the first of them of 1 to 9 digits, and all of 1 to 10, since a longitude has up to ten
unfoldable pub body_numbers : ℕ → ℕ → List ℕ → Option (List ℤ)
body_numbers short count words = cond (short_numbers short words) (line_numbers count 10 words) none

-- a body and its numbers; any other line is refused 16
abbrev pub asked : Body → Option (List ℤ) → Result (Body × List ℤ) Refusal
asked body none = Err NotALine
asked body (some numbers) = Ok (body, numbers)

unfoldable pub body_request : ℕ → ℕ → List ℕ → Result (Body × List ℤ) Refusal
body_request short count line = by_body (λ body words. asked body (body_numbers short count words)) (Err NotALine) (body_line line) line

-- longitude, latitude and height, from one of the numbers on
unfoldable pub point_from : ℕ → List ℤ → Point
point_from first numbers = record { longitude = column numbers first; latitude = column numbers (first + 1); height = column numbers (first + 2) }

-- no request is longer: a body and its space, twelve numbers of a sign and ten digits, and the spaces between these
abbrev pub longest_request : ℕ
longest_request = 5 + (12 * 11 + 11)
