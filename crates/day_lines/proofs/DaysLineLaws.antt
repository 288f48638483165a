-- A line of `days`: what was read of it, its length, and its text.
use mathlib.Core.Bool.{Bool, cond, false, true}
use mathlib.Core.List.{List, [], ◌++◌, ◌∷◌, append_assoc}
use mathlib.Core.Path.{◌≡◌, refl}
use Prim.Native.Nat.{◌%◌, ◌/◌, ◌<◌, ◌≤◌, ℕ}
use native.Mathlib.Omega.{arith}
use lib.Dec.{eqb, lit<}
use lib.IntN.{pos, ℤ}
use lib.ListN.{length, length-append, take}
use lib.Seq.{get_or-take}
use Rattle.std.specs.Prelude.{Result}
use Rattle.calendar.specs.Refusal.{number}
use Rattle.calendar.specs.declared.refusal.Refusal.{Refusal}
use Rattle.day.specs.Date.{date_from}
use Rattle.rise_set.specs.Answer.{RiseSetNumbers, neither, rise_and_set}
use Rattle.rise_set.specs.Crossing.{CrossingNumbers}
use Rattle.text.proofs.DecimalLaws.{padded_length}
use Rattle.text.specs.Cases.{bytes}
use Rattle.text.specs.Line.{space}
use Rattle.sky.specs.Answer.{Answer}
use Rattle.sky_vectors.specs.declared.geocentric.Body.{Body}
use Rattle.line_answers.proofs.BodyLineLaws.{by_request, long_numbers, to, too_long}
use Rattle.line_answers.specs.BodyLine.{body_request, longest_request, point_from}
use Rattle.line_answers.specs.Printed.{newline}
use Rattle.day_lines.specs.DaysLine.{body_answer, crossing_text, days_answer, days_from, no_request, rise_set_line, time_text}

-- the answer to what was asked
abbrev pub answer_to : Result (Body × List ℤ) Refusal → Answer RiseSetNumbers
answer_to = to (λ body numbers. rise_and_set (date_from numbers) body (point_from 5 numbers)) (λ refusal. record { refusal = number refusal; value = neither })

pub days_are : (line : List ℕ) → days_answer line ≡ answer_to (body_request 5 8 line)
unfolding days_answer body_answer days_from
days_are line =
    by_request (λ body numbers. rise_and_set (date_from numbers) body (point_from 5 numbers)) (λ refusal. record { refusal = number refusal; value = neither }) days_from (λ body. refl)
    (λ body list. refl) 5 8 line

-- the five numbers of a date
pub date_is : (numbers : List ℤ) → date_from (take 5 numbers) ≡ date_from numbers
date_is numbers i =
    record {
      year = get_or-take 5 numbers 0 (pos 0) (lit< tt) i;
      month = get_or-take 5 numbers 1 (pos 0) (lit< tt) i;
      day = get_or-take 5 numbers 2 (pos 0) (lit< tt) i;
      ut1 = get_or-take 5 numbers 3 (pos 0) (lit< tt) i;
      delta_t = get_or-take 5 numbers 4 (pos 0) (lit< tt) i;
    }

-- ---- a line that is longer than any request
long_body : (body : Body) (words : List ℕ) → 143 < length words → body_answer body words ≡ no_request
unfolding body_answer days_from
long_body body words h = rw (long_numbers 5 8 (omega arith) words h) refl

pub too_long_days : (line : List ℕ) → longest_request < length line → days_answer line ≡ no_request
unfolding days_answer
too_long_days line h = too_long body_answer no_request long_body line h

-- ---- the texts
time_length : (minute : ℕ) → length (time_text minute) ≡ 5
unfolding time_text bytes
time_length minute = simp length-append (omega (arith, padded_length 2 (minute / 60), padded_length 2 (minute % 60)))

pub crossing_most : (crossing : CrossingNumbers) → length (crossing_text crossing) ≤ 5
unfolding crossing_text bytes
crossing_most crossing = go (eqb crossing.has 0)
  where
    go : (b : Bool) → length (cond b (bytes "-") (time_text crossing.minute)) ≤ 5
    go true = omega arith
    go false = omega (arith, time_length crossing.minute)

-- two crossings, each with the byte after it
pub times_line : (seen : RiseSetNumbers) → crossing_text seen.rise ++ (space ∷ []) ++ crossing_text seen.set ++ (newline ∷ []) ≡ rise_set_line seen
unfolding rise_set_line
times_line seen = simp append_assoc
