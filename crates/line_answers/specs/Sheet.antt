-- The argument sheet (01, the section of that name): the answer to a line, and what is printed for it.
use Rattle.std.specs.Prelude.{List, [], ◌∷◌, ◌++◌, ℕ, ℤ, pos, Result}
use Rattle.std.proofs.Math.Option.{Option, none, some}
use Rattle.sum_rules.specs.Moon.{argument}
use Rattle.sum_rules.specs.MoonTerms.{L'}
use Rattle.sum_rules.specs.Sidereal.{mean}
use Rattle.sum_rules.specs.declared.instant.Instant.{Instant}
use Rattle.text.specs.Line.{sheet_numbers}
use Rattle.text.specs.RoundTrip.{printed}
use Rattle.calendar.specs.declared.refusal.Refusal.{Refusal}
use Rattle.calendar.specs.Refusal.{first}
use Rattle.sky.specs.Answer.{Answer, answered, judged}
use Rattle.request.specs.Request.{instant, start_from, start_refusals}
use Rattle.request.specs.declared.start.Start.{Start}
use Rattle.line_answers.specs.Printed.{answer_line, newline}
use Rattle.line_answers.specs.declared.sheet.Arguments.{Arguments}

-- TT, L' and mean sidereal
unfoldable pub arguments : Instant → Arguments
arguments moment = record { tt = moment.tt; longitude = argument L' moment.tt; sidereal = pos (mean moment.ut) }

-- zeros, where refused
abbrev pub no_arguments : Arguments
no_arguments = record { tt = pos 0; longitude = pos 0; sidereal = pos 0 }

-- the answer in 01's numbers
abbrev pub row_answer : Result Arguments Refusal → Answer Arguments
row_answer = answered (λ found. found) no_arguments

-- the first of 1 to 6, otherwise the arguments
unfoldable pub start_row : Start → Answer Arguments
start_row start = judged (first (start_refusals start)) no_arguments (arguments (instant start))

-- nine whole numbers; any other line is refused 16
unfoldable pub row_from : Option (List ℤ) → Answer Arguments
row_from none = record { refusal = 16; value = no_arguments }
row_from (some numbers) = start_row (start_from numbers)

-- the answer to a line
unfoldable pub sheet_row : List ℕ → Answer Arguments
sheet_row line = row_from (sheet_numbers line)

-- ---- what is printed

-- the three numbers with single spaces
unfoldable pub arguments_line : Arguments → List ℕ
arguments_line found = printed found.tt (found.longitude ∷ found.sidereal ∷ []) ++ newline ∷ []

-- what is printed for a line
unfoldable pub sheet_line : List ℕ → List ℕ
sheet_line line = answer_line arguments_line (sheet_row line)
