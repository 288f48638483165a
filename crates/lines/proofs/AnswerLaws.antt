-- An input that is read in parts is answered as the whole of it, and the bytes of a line that are are enough.
-- What is printed and the line that is left go byte by byte, so they split wherever the input is cut.
-- A line that is longer than what is is refused, and so is what is of it: both have the same answer, whatever byte comes next.
use mathlib.Core.Bool.{Bool, cond, false, true}
use mathlib.Core.List.{List, [], ◌∷◌, ◌++◌, append_assoc, append-nil}
use mathlib.Core.Option.{Option, none}
use mathlib.Core.Path.{◌∙◌, ◌≡◌, ap, refl, sym}
use Prim.Native.Nat.{◌<◌, ◌≤◌, ℕ}
use native.Mathlib.Nat.{not-suc-le-zero}
use native.Mathlib.Omega.{arith}
use lib.Dec.{eqb, leb}
use lib.IntN.{ℤ}
use lib.ListN.{length, length-append}
use lib.Seq.{length-take-le, take_all, take-append-le, take_at}
use borrow.Author.Tests.{eq-eqb, eqb-false, eqb-true, leb-false, leb-true, ne_eqb}
use Rattle.text.proofs.LineLaws.{too_long_line}
use Rattle.day_lines.proofs.DaysLineLaws.{too_long_days}
use Rattle.day_lines.specs.DaysLine.{days_line, rise_set_line}
use Rattle.day_lines.specs.DaysLine as Days
use Rattle.line_answers.proofs.PlacesLineLaws.{too_long_places}
use Rattle.line_answers.specs.PlacesLine.{no_request, place_line, places_line}
use Rattle.line_answers.specs.Printed.{answer_line, newline}
use Rattle.line_answers.specs.Sheet.{arguments_line, row_from, sheet_line, sheet_row}
use Rattle.lines.specs.Lines.{Answered, Stepped, answers, kept, last_answer, left, line_after, line_answer, line_room, printed_at}
use Rattle.lines.specs.declared.answers.Turn.{Turn}
use Rattle.lines.specs.declared.line.Form.{Form}
use Rattle.lines.specs.declared.line.Form.TheVariants as Forms

-- ---- parts

pub answers_parts : (form : Form) (line first rest : List ℕ)
    → answers form line (first ++ rest) ≡ answers form line first ++ answers form (left line first) rest
unfolding answers left
answers_parts form line [] rest = refl
answers_parts form line (byte ∷ first) rest =
    ap (λ (r : List ℕ). printed_at form line byte ++ r) (answers_parts form (line_after line byte) first rest)
    ∙ sym (append_assoc (printed_at form line byte) (answers form (line_after line byte) first) (answers form (left (line_after line byte) first) rest))

pub left_parts : (line first rest : List ℕ) → left line (first ++ rest) ≡ left (left line first) rest
unfolding left
left_parts line [] rest = refl
left_parts line (byte ∷ first) rest = left_parts (line_after line byte) first rest

one_byte : (form : Form) (line : List ℕ) (byte : ℕ) → answers form line (byte ∷ []) ≡ printed_at form line byte
unfolding answers
one_byte form line byte = append-nil (printed_at form line byte)

one_left : (line : List ℕ) (byte : ℕ) → left line (byte ∷ []) ≡ line_after line byte
unfolding left
one_left line byte = refl

-- ---- a newline, and any other byte
module _ (form : Form) (line : List ℕ) {byte : ℕ} where
  pub at_newline : byte ≡ newline → (printed_at form line byte ≡ line_answer form line) × (line_after line byte ≡ [])
  unfolding printed_at line_after
  at_newline e = (simp (eq-eqb byte newline e), simp (eq-eqb byte newline e))

  pub at_other : (byte ≡ newline → ⊥) → (printed_at form line byte ≡ []) × (line_after line byte ≡ line ++ byte ∷ [])
  unfolding printed_at line_after
  at_other isn't = (simp (ne_eqb byte newline isn't), simp (ne_eqb byte newline isn't))

-- ---- a line that is longer than what is of it

-- what holds of a short line and of a long one
by_length : (line : List ℕ) {P : Type 0} → (length line ≤ line_room → P) → (line_room < length line → P) → P
by_length line {P} short long = by_test (leb (length line) line_room) refl
  where
    by_test : (b : Bool) → leb (length line) line_room ≡ b → P
    by_test true e = short (leb-true (length line) line_room e)
    by_test false e = long (leb-false (length line) line_room e)

kept_length : (line : List ℕ) → line_room < length line → length (kept line) ≡ line_room
kept_length line h = length-take-le line_room line (omega arith)

-- all lines that are too long have the same answer
long_sheet : (line : List ℕ) → line_room ≤ length line → sheet_line line ≡ answer_line arguments_line (row_from none)
unfolding sheet_line sheet_row
long_sheet line h = ap (λ (numbers : Option (List ℤ)). answer_line arguments_line (row_from numbers)) (too_long_line line (omega arith))

long_places : (line : List ℕ) → line_room ≤ length line → places_line line ≡ answer_line place_line no_request
unfolding places_line
long_places line h = ap (answer_line place_line) (too_long_places line h)

long_days : (line : List ℕ) → line_room ≤ length line → days_line line ≡ answer_line rise_set_line Days.no_request
unfolding days_line
long_days line h = ap (answer_line rise_set_line) (too_long_days line h)

module _ (line : List ℕ) (long : line_room < length line) where
  kept_long : (form : Form) → line_answer form (kept line) ≡ line_answer form line
  unfolding line_answer
  kept_long Forms.Sheet = long_sheet (kept line) (omega (arith, kept_length line long)) ∙ sym (long_sheet line (omega arith))
  kept_long Forms.Places = long_places (kept line) (omega (arith, kept_length line long)) ∙ sym (long_places line (omega arith))
  kept_long Forms.Days = long_days (kept line) (omega (arith, kept_length line long)) ∙ sym (long_days line (omega arith))

kept_line : (form : Form) (line : List ℕ) → line_answer form (kept line) ≡ line_answer form line
kept_line form line = by_length line (λ short. ap (line_answer form) (take_all line_room line short)) (λ long. kept_long line long form)

kept_printed : (form : Form) (line : List ℕ) (byte : ℕ) → printed_at form (kept line) byte ≡ printed_at form line byte
unfolding printed_at
kept_printed form line byte = ap (λ (answer : List ℕ). cond (eqb byte newline) answer []) (kept_line form line)

kept_longer : (line : List ℕ) (byte : ℕ) → kept (kept line ++ byte ∷ []) ≡ kept (line ++ byte ∷ [])
kept_longer line byte =
    by_length line (λ short. ap (λ (l : List ℕ). kept (l ++ byte ∷ [])) (take_all line_room line short))
    (λ long. take_at (kept line) (byte ∷ []) line_room (kept_length line long) ∙ sym (take-append-le line_room line (byte ∷ []) (omega arith)))

kept_after : (line : List ℕ) (byte : ℕ) → kept (line_after (kept line) byte) ≡ kept (line_after line byte)
unfolding line_after
kept_after line byte = by_test (eqb byte newline)
  where
    by_test : (b : Bool) → kept (cond b [] (kept line ++ byte ∷ [])) ≡ kept (cond b [] (line ++ byte ∷ []))
    by_test true = refl
    by_test false = kept_longer line byte

module _ (form : Form) where
  pub kept_last : (line : List ℕ) → last_answer form (kept line) ≡ last_answer form line
  unfolding last_answer
  kept_last [] = refl
  kept_last (byte ∷ rest) = kept_line form (byte ∷ rest)

  pub some_last : (line : List ℕ) → 0 < length line → line_answer form line ≡ last_answer form line
  unfolding last_answer
  some_last [] h = absurd (not-suc-le-zero h)
  some_last (byte ∷ rest) h = refl

-- a slice that tells that it is empty, or that it is not
pub no_bytes : (s : List ℕ) → eqb (length s) 0 ≡ true → s ≡ []
no_bytes [] e = refl
no_bytes (byte ∷ rest) e = absurd (omega (arith, eqb-true (length (byte ∷ rest)) 0 e))

pub some_bytes : (s : List ℕ) → eqb (length s) 0 ≡ false → 0 < length s
some_bytes s e = omega (arith, eqb-false (length s) 0 e)

-- ---- what the program does

pub answered_none : (form : Form) (line out : List ℕ) → Answered form line [] out (record { line = line; used = 0 })
unfolding answers left
answered_none form line out = record { used_within = omega arith; printed = λ whole e. refl; line = λ whole e. e }

pub answered_more : {form : Form} {before : List ℕ} {chunk entry exit : List ℕ} {turn next : Turn} {byte : ℕ} → Answered form before chunk entry turn
    → Stepped form turn byte entry exit next → Answered form before (chunk ++ byte ∷ []) exit next
answered_more {form} {chunk} {byte} a s =
    record {
      used_within = omega (arith, s.used_within, a.used_within, length-append chunk (byte ∷ []));
      printed =
          λ whole e.
          s.printed ∙ (λ i. a.printed whole e i ++ printed_at form (a.line whole e i) byte)
          ∙ ap (λ (r : List ℕ). answers form whole chunk ++ r) (kept_printed form (left whole chunk) byte ∙ sym (one_byte form (left whole chunk) byte))
          ∙ sym (answers_parts form whole chunk (byte ∷ []));
      line =
          λ whole e.
          s.line ∙ ap (λ (l : List ℕ). kept (line_after l byte)) (a.line whole e) ∙ kept_after (left whole chunk) byte
          ∙ ap kept (sym (left_parts whole chunk (byte ∷ []) ∙ one_left (left whole chunk) byte));
    }
