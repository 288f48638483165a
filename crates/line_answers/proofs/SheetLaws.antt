-- The rows of lines that were read and of those that were not, and the text of a row.
use mathlib.Core.List.{List, [], ◌∷◌, ◌++◌, append_assoc}
use mathlib.Core.Option.{Option, none, some}
use mathlib.Core.Path.{◌≡◌, ap, refl}
use lib.IntN.{ℤ}
use Rattle.std.specs.Prelude.{None, Result, Some}
use Rattle.calendar.specs.Refusal.{OneAnswer}
use Rattle.calendar.specs.declared.refusal.Refusal.{Refusal}
use Rattle.text.specs.Decimal.{decimal}
use Rattle.text.specs.Line.{answer, space}
use Rattle.text.specs.RoundTrip.{printed}
use Rattle.sky.proofs.AnswerLaws.{one_answered}
use Rattle.sky.specs.Answer.{Answer}
use Rattle.line_answers.specs.declared.sheet.Arguments.{Arguments}
use Rattle.line_answers.specs.Printed.{newline}
use Rattle.request.specs.Request.{start_from}
use Rattle.line_answers.specs.Sheet.{arguments_line, no_arguments, row_answer, row_from, start_row}

pub not_read : (numbers : Option (List ℤ)) → None ≡ answer numbers → record { refusal = 16; value = no_arguments } ≡ row_from numbers
unfolding answer row_from
not_read none e = refl
not_read (some list) e = absurd (cc)

pub was_read : (numbers : Option (List ℤ)) {list : List ℤ} → Some list ≡ answer numbers → start_row (start_from list) ≡ row_from numbers
unfolding answer row_from
was_read none e = absurd (cc)
was_read (some other) {list} e = let same : list ≡ other = cc in ap (λ (l : List ℤ). start_row (start_from l)) same

pub one_row : {found : Result Arguments Refusal} {rule : Answer Arguments} → row_answer found ≡ rule → OneAnswer row_answer rule found
one_row = one_answered (λ x y same. same)

-- three numbers, each with the byte after it
pub fields_line : (found : Arguments)
    → decimal found.tt ++ (space ∷ []) ++ decimal found.longitude ++ (space ∷ []) ++ decimal found.sidereal ++ (newline ∷ []) ≡ arguments_line found
unfolding arguments_line printed
fields_line found = simp append_assoc
