-- Which of two strips bears a date, and its azimuth octets (02, Item 6: "Near midnight the watch has two strips").
use Rattle.std.specs.Borrow.{Bor}
use Rattle.std.specs.Prelude.{Result, Bool, ◌&&◌, ◌||◌, cond, List, [], ◌∷◌, ℕ, eqb, ℤ}
use Rattle.calendar.specs.Refusal.{◌unless◌, first}
use Rattle.calendar.specs.declared.refusal.Refusal.{Refusal}
use Rattle.sky.specs.Answer.{Answer, answered, judged}
use Rattle.strip.specs.Checks.{same}
use Rattle.strip.specs.Format.{azimuth_part, fields, header_in}
use Rattle.strip.specs.declared.header.Header.{Header}
use Rattle.strip_reader.specs.Reading.{read_refusals}
use Rattle.strip_reader.specs.declared.lookup.Bearer.{Bearer}
use Rattle.strip_reader.specs.declared.lookup.Bearer.TheVariants.{First, Second}

-- whether a strip bears the date asked for
unfoldable pub bears : Header → ℤ → ℤ → ℤ → Bool
bears header year month day = same header.year year && (same header.month month && same header.day day)

abbrev pub bears_in : List ℕ → ℤ → ℤ → ℤ → Bool
bears_in octets year month day = bears (header_in (fields octets)) year month day

-- the first strip's refusal, then the second's, then 27 for a date in neither
abbrev pub find_refusals : List ℕ → List ℕ → ℤ → ℤ → ℤ → List ℕ
find_refusals one two year month day =
    first (read_refusals one) ∷ first (read_refusals two) ∷ 27 unless (bears_in one year month day || bears_in two year month day) ∷ []

-- 1 for the first strip, 2 for the second: the first if both bear the date
unfoldable pub which : List ℕ → List ℕ → ℤ → ℤ → ℤ → Answer ℕ
which one two year month day = judged (first (find_refusals one two year month day)) 0 (cond (bears_in one year month day) 1 2)

abbrev pub strip_number : Bearer → ℕ
strip_number First = 1
strip_number Second = 2

abbrev pub found_answer : Result Bearer Refusal → Answer ℕ
found_answer = answered strip_number 0

-- the azimuth octets of the one that is found; a refusal comes with an empty part
abbrev pub part_of : Answer ℕ → List ℕ → List ℕ → List ℕ
part_of found one two = cond (eqb found.refusal 0) (azimuth_part (cond (eqb found.value 1) one two)) []

-- what is handed back: the refusal, 0 where there is none, and the part
abbrev pub found_part : Result (Bor (List ℕ)) Refusal → Answer (List ℕ)
found_part = answered (λ part. part.now) []
