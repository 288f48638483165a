-- The answer to a request for a day's azimuths: Item 1's request, with a step and a buffer of so many entries.
use Rattle.std.specs.Prelude.{Result, cond, List, [], ◌++◌, ◌∷◌, ℕ, eqb, leb, ℤ, drop, length}
use Rattle.calendar.specs.Refusal.{◌unless◌, first}
use Rattle.calendar.specs.declared.refusal.Refusal.{Refusal}
use Rattle.day.specs.Date.{day_refusals}
use Rattle.day.specs.declared.date.Date.{Date}
use Rattle.sky.specs.Answer.{Answer, answered, judged}
use Rattle.sky_vectors.specs.declared.geocentric.Body.{Body}
use Rattle.sky_vectors.specs.declared.station.Point.{Point}
use Rattle.strip.specs.Checks.{is_step, steps}
use Rattle.day_azimuths.specs.Azimuths.{worked}

-- 25 step, 28 a small buffer
abbrev pub step_refusals : ℤ → ℕ → List ℕ
step_refusals step room = 25 unless is_step step ∷ 28 unless leb (steps step) room ∷ []

-- 1 to 3, 5 to 9, then these
abbrev pub azimuths_refusals : Date → Point → ℤ → ℕ → List ℕ
azimuths_refusals date point step room = day_refusals date point ++ step_refusals step room

-- how many azimuths are written, or the first refusal
unfoldable pub day_azimuths : Date → Point → ℤ → ℕ → Answer ℕ
day_azimuths date point step room = judged (first (azimuths_refusals date point step room)) 0 (steps step)

abbrev pub azimuths_answer : Result ℕ Refusal → Answer ℕ
azimuths_answer = answered (λ count. count) 0

-- what the buffer holds afterwards: the azimuths, and its rest as it was; where refused, all as it was
abbrev pub left_in : Date → Body → Point → ℤ → List ℕ → List ℕ
left_in date body point step before =
    cond (eqb (day_azimuths date point step (length before)).refusal 0) (worked date body point step ++ drop (steps step) before) before
