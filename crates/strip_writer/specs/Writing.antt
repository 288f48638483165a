-- What the writer answers, and leaves in its buffer (02, Item 6: "The writer checks what it is handed likewise", as Item 9 mends it).
use Rattle.std.specs.Prelude.{Result, cond, List, [], ◌++◌, ◌∷◌, ℕ, eqb, leb, drop, length}
use Rattle.calendar.specs.Refusal.{◌unless◌, first}
use Rattle.calendar.specs.declared.refusal.Refusal.{Refusal}
use Rattle.sky.specs.Answer.{Answer, answered, judged}
use Rattle.strip.specs.Air.{is_none}
use Rattle.strip.specs.Checks.{are_azimuths, header_refusals, steps}
use Rattle.strip.specs.Format.{Strip, encode, strip_size}

-- 20 wrong number of azimuths, 26, 32 carried-over or any measured air
abbrev pub own_refusals : Strip → List ℕ
own_refusals strip =
    20 unless eqb (length strip.azimuths) (steps strip.header.step)
    ∷ 26 unless are_azimuths strip.azimuths
    ∷ 32 unless is_none strip.header.air
    ∷ []

-- 23 to 25, as the reader has them, then the writer's own
abbrev pub strip_refusals : Strip → List ℕ
strip_refusals strip = header_refusals strip.header ++ own_refusals strip

-- just before 28 for a small buffer
abbrev pub write_refusals : Strip → ℕ → List ℕ
write_refusals strip room = strip_refusals strip ++ (28 unless leb (strip_size (length strip.azimuths)) room ∷ [])

-- how many octets are written into a buffer of so many, or the first refusal
unfoldable pub write : Strip → ℕ → Answer ℕ
write strip room = judged (first (write_refusals strip room)) 0 (strip_size (length strip.azimuths))

abbrev pub write_answer : Result ℕ Refusal → Answer ℕ
write_answer = answered (λ count. count) 0

-- what the buffer holds afterwards: the strip, and its rest as it was; where refused, all as it was
abbrev pub left_in : Strip → List ℕ → List ℕ
left_in strip before = cond (eqb (write strip (length before)).refusal 0) (encode strip ++ drop (length (encode strip)) before) before
