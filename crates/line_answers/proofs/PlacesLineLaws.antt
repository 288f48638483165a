-- A line of `places`: what was read of it, and its length.
use mathlib.Core.List.{List, [], ◌∷◌, ◌++◌, append_assoc}
use mathlib.Core.Path.{◌∙◌, ◌≡◌, ap, refl}
use Prim.Native.Nat.{◌<◌, ℕ}
use native.Mathlib.Omega.{arith}
use native.Mathlib.Nat.{add-zero}
use lib.Dec.{lit<}
use lib.IntN.{pos, ℤ}
use lib.ListN.{drop, get_or, length, take}
use lib.Seq.{get_or-drop, get_or-take}
use Rattle.std.specs.Prelude.{None, Result}
use Rattle.calendar.specs.declared.refusal.Refusal.{Refusal}
use Rattle.calendar.specs.Refusal.{number}
use Rattle.text.specs.Decimal.{decimals}
use Rattle.text.specs.Line.{space}
use Rattle.sky.specs.Answer.{Answer, PlaceNumbers, nowhere, place}
use Rattle.sky_vectors.specs.Station as Station
use Rattle.line_answers.specs.BodyLine.{body_request, longest_request, point_from}
use Rattle.line_answers.specs.PlacesLine.{azimuth_text, body_answer, no_request, place_from, place_line, places_answer}
use Rattle.line_answers.specs.Printed.{newline}
use Rattle.request.specs.Request.{start_from}
use Rattle.sky_vectors.specs.declared.geocentric.Body.{Body}
use Rattle.line_answers.proofs.BodyLineLaws.{by_request, long_numbers, to, too_long}

-- the answer to what was asked
abbrev pub answer_to : Result (Body × List ℤ) Refusal → Answer PlaceNumbers
answer_to = to (λ body numbers. place (start_from numbers) body (point_from 9 numbers) None) (λ refusal. record { refusal = number refusal; value = nowhere })

pub places_are : (line : List ℕ) → places_answer line ≡ answer_to (body_request 9 12 line)
unfolding places_answer body_answer place_from
places_are line =
    by_request (λ body numbers. place (start_from numbers) body (point_from 9 numbers) None) (λ refusal. record { refusal = number refusal; value = nowhere }) place_from (λ body. refl)
    (λ body list. refl) 9 12 line

-- nine numbers of a start, and those of a point behind them
pub start_is : (numbers : List ℤ) → start_from (take 9 numbers) ≡ start_from numbers
unfolding start_from
start_is numbers i =
    record {
      year = get_or-take 9 numbers 0 (pos 0) (lit< tt) i;
      month = get_or-take 9 numbers 1 (pos 0) (lit< tt) i;
      day = get_or-take 9 numbers 2 (pos 0) (lit< tt) i;
      hour = get_or-take 9 numbers 3 (pos 0) (lit< tt) i;
      minute = get_or-take 9 numbers 4 (pos 0) (lit< tt) i;
      second = get_or-take 9 numbers 5 (pos 0) (lit< tt) i;
      fraction = get_or-take 9 numbers 6 (pos 0) (lit< tt) i;
      ut1 = get_or-take 9 numbers 7 (pos 0) (lit< tt) i;
      delta_t = get_or-take 9 numbers 8 (pos 0) (lit< tt) i;
    }

pub point_is : (first : ℕ) (numbers : List ℤ) → Station.point_from (drop first numbers) ≡ point_from first numbers
unfolding point_from
point_is first numbers i =
    record {
      longitude = (get_or-drop first numbers 0 (pos 0) ∙ ap (λ (n : ℕ). get_or numbers n (pos 0)) (add-zero first)) i;
      latitude = get_or-drop first numbers 1 (pos 0) i;
      height = get_or-drop first numbers 2 (pos 0) i;
    }

-- a line that is longer than any request
long_body : (body : Body) (words : List ℕ) → 143 < length words → body_answer body words ≡ no_request
unfolding body_answer place_from
long_body body words h = rw (long_numbers 9 12 (omega arith) words h) refl

pub too_long_places : (line : List ℕ) → longest_request < length line → places_answer line ≡ no_request
unfolding places_answer
too_long_places line h = too_long body_answer no_request long_body line h

-- two angles, each with the byte after it
pub angles_line : (seen : PlaceNumbers)
    → azimuth_text seen.has_azimuth seen.azimuth ++ (space ∷ []) ++ decimals seen.elevation ++ (newline ∷ []) ≡ place_line seen
unfolding place_line
angles_line seen = simp append_assoc
