-- What the reader answers (02, Item 6: "Refusals of the reader, in order"): a strip, or the first refusal.
use Rattle.std.specs.Prelude.{Err, None, Ok, Option, Result, Some, Bool, ◌&&◌, cond, List, [], ◌++◌, ◌∷◌, ◌*◌, ◌+◌, ◌-◌, ◌/◌, ℕ, eqb, leb, ltb, pos, ℤ, get_or, length}
use Rattle.calendar.specs.Refusal.{◌unless◌, first}
use Rattle.calendar.specs.declared.refusal.Refusal.{Refusal}
use Rattle.sky.specs.Answer.{Answer, answered, judged}
use Rattle.sky_vectors.specs.declared.geocentric.Body.TheVariants.{Sun}
use Rattle.strip.specs.Checks.{absent, are_azimuths, full_turn, header_refusals, steps}
use Rattle.strip.specs.Format.{Strip, azimuth_part, azimuth_size, azimuths_in, fields, header_follows, header_in, length_size, strip_in, strip_of, version}
use Rattle.strip.specs.declared.air.StripAir.TheVariants as Airs
use Rattle.strip.specs.declared.header.Header.{Header}
use Rattle.strip_reader.specs.declared.reader.StepRefusal.{StepRefusal}
use Rattle.strip_reader.specs.declared.reader.StepRefusal.TheVariants.{NoAzimuth, NoStep}

-- the length that a strip states, of all that follows
abbrev pub stated : List ℕ → ℕ
stated octets = get_or (fields octets) 0 0

-- 20: length under 16, not the buffer's own less 2 (or a buffer under 2)
unfoldable pub length_agrees : List ℕ → Bool
length_agrees octets = leb length_size (length octets) && (leb header_follows (stated octets) && eqb (stated octets) (length octets - length_size))

-- 20 at odds with the step, judged only once 21 to 25 have passed; 26, of the azimuth octets
abbrev pub part_refusals : List ℕ → ℕ → ℤ → List ℕ
part_refusals part length step =
    20 unless eqb length (header_follows + azimuth_size * steps step)
    ∷ 26 unless are_azimuths (azimuths_in part)
    ∷ []

-- the same, of a whole strip
abbrev pub step_refusals : List ℕ → ℕ → ℤ → List ℕ
step_refusals octets length step = part_refusals (azimuth_part octets) length step

-- 22: air or body byte, each 0 or 1
abbrev pub are_codes : ℕ → ℕ → Bool
are_codes air body = leb air 1 && leb body 1

-- 20, 21 version, 22, 23 to 25, then 20 and 26
abbrev pub read_refusals : List ℕ → List ℕ
read_refusals octets =
    let numbers = fields octets in
    let header = header_in numbers in
    20 unless length_agrees octets
    ∷ 21 unless eqb (get_or numbers 1 0) version
    ∷ 22 unless are_codes (get_or numbers 2 0) (get_or numbers 3 0)
    ∷ (header_refusals header ++ step_refusals octets (stated octets) header.step)

-- ---- the answer

-- a refused answer carries zeros
abbrev pub no_header : Header
no_header = record { air = Airs.None; body = Sun; year = pos 0; month = pos 0; day = pos 0; longitude = pos 0; latitude = pos 0; step = pos 0 }

abbrev pub no_strip : Strip
no_strip = strip_of no_header []

-- WHAT OCTETS SAY: a strip, or the first refusal
unfoldable pub decode : List ℕ → Answer Strip
decode octets = judged (first (read_refusals octets)) no_strip (strip_in octets)

-- the same by its header alone
unfoldable pub read : List ℕ → Answer Header
read octets = judged (first (read_refusals octets)) no_header (header_in (fields octets))

abbrev pub read_answer : Result Header Refusal → Answer Header
read_answer = answered (λ header. header) no_header

-- ---- the azimuth of a step by its index, in any azimuth octets

abbrev pub azimuth_of : ℕ → Result (Option ℕ) StepRefusal
azimuth_of n = cond (ltb n full_turn) (Ok (Some n)) (cond (eqb n absent) (Ok None) (Err NoAzimuth))

unfoldable pub azimuth_at : List ℕ → ℕ → Result (Option ℕ) StepRefusal
azimuth_at part step = cond (ltb step (length part / azimuth_size)) (azimuth_of (get_or (azimuths_in part) step 0)) (Err NoStep)
