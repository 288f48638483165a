-- A line that begins with a body: where its numbers begin, what was read of them, and that a long line has none.
use mathlib.Core.Bool.{Bool, cond, false, true}
use mathlib.Core.List.{List}
use mathlib.Core.Option.{Option, none, some}
use mathlib.Core.Path.{◌≡◌, ap, refl, subst}
use Prim.Native.Nat.{◌<◌, ◌≤◌, ℕ}
use native.Mathlib.Omega.{arith}
use lib.IntN.{ℤ}
use lib.ListN.{drop, length, length-drop}
use Rattle.std.specs.Prelude.{Err, None, Ok, Option as Found, Result, Some}
use Rattle.calendar.specs.declared.refusal.Refusal.{Refusal}
use Rattle.calendar.specs.declared.refusal.Refusal.TheVariants.{NotALine}
use Rattle.text.proofs.LineLaws.{begins_within}
use Rattle.text.proofs.WordLaws.{long_line}
use Rattle.text.specs.Cases.{bytes}
use Rattle.text.specs.Line.{answer, begins, short_numbers}
use Rattle.sky_vectors.specs.declared.geocentric.Body.{Body}
use Rattle.sky_vectors.specs.declared.geocentric.Body.TheVariants.{Moon, Sun}
use Rattle.line_answers.specs.BodyLine.{asked, body_line, body_numbers, body_request, by_body, longest_request}

-- where the numbers begin: within the line, and no later than behind `moon `
abbrev At : List ℕ → Found (Body × ℕ) → Type 0
At line (Some of) = (of.1 ≤ length line) × (of.1 ≤ 5)
At line None = Unit {0}

begins_at : (line : List ℕ) → At line (body_line line)
unfolding body_line bytes
begins_at line = go (begins (bytes "sun ") line) (begins (bytes "moon ") line) refl refl
  where
    go : (sun moon : Bool) → begins (bytes "sun ") line ≡ sun → begins (bytes "moon ") line ≡ moon → At line (cond sun (Some (Sun, 4)) (cond moon (Some (Moon, 5)) None))
    go true moon e f = (begins_within (bytes "sun ") line e, omega arith)
    go false true e f = (begins_within (bytes "moon ") line f, omega arith)
    go false false e f = tt

pub start_within : (line : List ℕ) {body : Body} {start : ℕ} → body_line line ≡ Some (body, start) → start ≤ length line
start_within line e = (subst (At line) e (begins_at line)).0

-- what was read of the numbers
pub asked_none : (body : Body) (numbers : Option (List ℤ)) → None ≡ answer numbers → asked body numbers ≡ Err NotALine
unfolding answer
asked_none body none e = refl
asked_none body (some list) e = absurd (cc)

pub asked_some : (body : Body) (numbers : Option (List ℤ)) {list : List ℤ} → Some list ≡ answer numbers → asked body numbers ≡ Ok (body, list)
unfolding answer
asked_some body none e = absurd (cc)
asked_some body (some other) {list} e = let same : other ≡ list = cc in ap (λ (l : List ℤ). Ok (body, l)) same

-- a line that was asked about, by the rule of a program
abbrev pub to : {A : Type 0} → (Body → List ℤ → A) → (Refusal → A) → Result (Body × List ℤ) Refusal → A
to rule refused (Ok of) = rule of.0 of.1
to rule refused (Err refusal) = refused refusal

module _ {A : Type 0} (rule : Body → List ℤ → A) (refused : Refusal → A) (given : Body → Option (List ℤ) → A)
    (at_none : (body : Body) → given body none ≡ refused NotALine) (at_some : (body : Body) (list : List ℤ) → given body (some list) ≡ rule body list) where
  numbers_are : (body : Body) (numbers : Option (List ℤ)) → given body numbers ≡ to rule refused (asked body numbers)
  numbers_are body none = at_none body
  numbers_are body (some list) = at_some body list

  pub by_request : (short count : ℕ) (line : List ℕ)
      → by_body (λ body words. given body (body_numbers short count words)) (refused NotALine) (body_line line) line ≡ to rule refused (body_request short count line)
  unfolding body_request
  by_request short count line = go (body_line line)
    where
      go : (of : Found (Body × ℕ)) → by_body (λ body words. given body (body_numbers short count words)) (refused NotALine) of line
          ≡ to rule refused (by_body (λ body words. asked body (body_numbers short count words)) (Err NotALine) of line)
      go None = refl
      go (Some of) = numbers_are of.0 (body_numbers short count (drop of.1 line))

-- a long line has no numbers
pub long_numbers : (short count : ℕ) → count ≤ 12 → (words : List ℕ) → 143 < length words → body_numbers short count words ≡ none
unfolding body_numbers
long_numbers short count few words h = rw (long_line count few words h) (either (short_numbers short words))
  where
    either : (p : Bool) → ◌≡◌ {A = Option (List ℤ)} (cond p none none) none
    either true = refl
    either false = refl

module _ {A : Type 0} (rule : Body → List ℕ → A) (other : A) (long : (body : Body) (words : List ℕ) → 143 < length words → rule body words ≡ other) where
  pub too_long : (line : List ℕ) → longest_request < length line → by_body rule other (body_line line) line ≡ other
  too_long line h = go (body_line line) (begins_at line)
    where
      go : (of : Found (Body × ℕ)) → At line of → by_body rule other of line ≡ other
      go (Some of) at = long of.0 (drop of.1 line) (omega (arith, length-drop of.1 line, at.1))
      go None at = refl
