-- Old strips. The air byte is a field by itself, which no check but 22 sees; what it says is measured air that passes checks 10 and 11 by computation.
use mathlib.Core.List.{List, ◌++◌, ◌∷◌, append_assoc}
use mathlib.Core.Path.{◌∙◌, ◌≡◌, ap, refl, sym}
use Prim.Native.Nat.{ℕ}
use lib.Ieee as Ieee
use Rattle.calendar.proofs.RefusalLaws.{last_passed}
use Rattle.calendar.specs.Refusal.{first}
use Rattle.octets.specs.Octets.{number_after, parted}
use Rattle.refraction.specs.Air.{air_refusals}
use Rattle.request.specs.Request.{instant, point_refusals, start_refusals}
use Rattle.request.specs.declared.start.Start.{Start}
use Rattle.sky.proofs.AnswerLaws.{judged_refusal, judged_value}
use Rattle.sky.specs.Answer.{Answer, judged, request_refusals, shown_place}
use Rattle.sky.specs.Shown.{nothing_shown, shown}
use Rattle.sky_vectors.specs.Place.{place_at}
use Rattle.sky_vectors.specs.declared.station.Point.{Point}
use Rattle.strip.specs.Air.{air_in, carried_over, request_air}
use Rattle.strip.specs.Checks.{is_date, is_point}
use Rattle.strip.specs.Format.{fields, header_in, strip_in}
use Rattle.strip.specs.declared.air.StripAir.{StripAir}
use Rattle.strip.specs.declared.header.Header.{Header}
use Rattle.strip_reader.specs.CarriedOver.{ReadWithMark, ShownAsBefore, StillRead, with_air}
use Rattle.strip_reader.specs.Reading.{length_agrees, no_header, read, read_refusals}
use Rattle.strip_reader.proofs.ReadLaws.{decoded_refusal, decoded_value}

-- ---- the checks, and what is said
same_checks : (high low version : ℕ) (rest : List ℕ) → first (read_refusals (high ∷ low ∷ version ∷ 1 ∷ rest)) ≡ first (read_refusals (high ∷ low ∷ version ∷ 0 ∷ rest))
unfolding length_agrees fields header_in parted number_after is_date is_point
same_checks high low version rest = refl

same_strip : (high low version : ℕ) (rest : List ℕ) → strip_in (high ∷ low ∷ version ∷ 1 ∷ rest) ≡ with_air carried_over (strip_in (high ∷ low ∷ version ∷ 0 ∷ rest))
unfolding fields header_in parted number_after
same_strip high low version rest = refl

pub still_read : StillRead
still_read high low version rest =
    let old = high ∷ low ∷ version ∷ 1 ∷ rest in
    let without = high ∷ low ∷ version ∷ 0 ∷ rest in
    let same = decoded_refusal old ∙ same_checks high low version rest ∙ sym (decoded_refusal without) in
    (same, λ e. decoded_value old e ∙ same_strip high low version rest ∙ ap (with_air carried_over) (sym (decoded_value without (sym same ∙ e))))

-- ---- the air
pub read_with_mark : ReadWithMark
unfolding read header_in
read_with_mark octets e one =
    let accepted = sym (judged_refusal (first (read_refusals octets)) no_header (header_in (fields octets))) ∙ e in
    ap (λ (a : Answer Header). a.value.air) (judged_value (first (read_refusals octets)) no_header (header_in (fields octets)) accepted) ∙ ap air_in one

-- ---- the shown place
air_passes : first (air_refusals (request_air carried_over)) ≡ 0
unfolding first air_refusals Ieee.le Ieee.of_int
air_passes = refl

never_by_air : (start : Start) (point : Point) → first (request_refusals start point (request_air carried_over)) ≡ first (start_refusals start ++ point_refusals point)
never_by_air start point =
    let by_air = air_refusals (request_air carried_over) in
    ap first (sym (append_assoc (start_refusals start) (point_refusals point) by_air)) ∙ last_passed (start_refusals start ++ point_refusals point) by_air air_passes

pub shown_as_before : ShownAsBefore
unfolding shown_place
shown_as_before octets e one start body point =
    ap (λ (air : StripAir). shown_place start body point (request_air air)) (read_with_mark octets e one)
    ∙ ap (λ (refusal : ℕ). judged refusal nothing_shown (shown (request_air carried_over) (place_at body point (instant start)))) (never_by_air start point)
