-- The exports over strips: 02's answers, as C is handed them.
use Rattle.std.specs.Prelude.{cond, List, [], ◌++◌, ◌∷◌, ℕ, eqb, Err, Float, None, Ok, Option, Result, Some, ℤ, drop, length}
use Rattle.boundary.specs.Codes.{body_of, body_refusal, no_step}
use Rattle.boundary.specs.Given.{header_code_refusal, header_from}
use Rattle.sky_vectors.specs.Station.{point_from}
use Rattle.boundary.specs.Lent.{measured_values}
use Rattle.calendar.specs.Refusal.{strip_number}
use Rattle.calendar.specs.declared.refusal.StripRefusal.TheVariants as Strips
use Rattle.day.specs.Date.{date_from}
use Rattle.day_azimuths.specs.Answer.{day_azimuths}
use Rattle.day_azimuths.specs.Azimuths.{worked}
use Rattle.sky.specs.Answer.{Answer}
use Rattle.strip.specs.Checks.{absent, steps}
use Rattle.strip.specs.Format.{Strip, azimuth_part, encode, header_size, strip_of}
use Rattle.strip.specs.declared.header.Header.{Header}
use Rattle.strip_reader.specs.declared.reader.StepRefusal.{StepRefusal}
use Rattle.strip_reader.specs.declared.reader.StepRefusal.TheVariants.{NoAzimuth, NoStep}
use Rattle.strip_writer.specs.Writing.{write}
use Rattle.capi.specs.Answers.{formed, written_one}

-- ---- written

abbrev pub strip_from : List ℤ → List ℕ → Strip
strip_from numbers azimuths = strip_of (header_from numbers) azimuths

-- the refusal of a code, or the writer's answer
abbrev pub coded_write : List ℤ → List ℕ → List ℕ → Answer ℕ
coded_write numbers azimuths before = formed (header_code_refusal numbers) 0 (write (strip_from numbers azimuths) (length before))

-- the buffer after the call: the strip, and its rest as it was; where refused, all as it was
abbrev pub octets_left : List ℤ → List ℕ → List ℕ → List ℕ
octets_left numbers azimuths before =
    let octets = encode (strip_from numbers azimuths) in
    written_one (coded_write numbers azimuths before).refusal (octets ++ drop (length octets) before) before

-- ---- read

-- the pressure and the temperature of a strip's air
abbrev pub header_measured : Header → List Float
header_measured header = measured_values header.air

-- 106 where there is no such step, 26 for a number that is no azimuth
abbrev pub azimuth_refusal : Result (Option ℕ) StepRefusal → ℕ
azimuth_refusal (Ok azimuth) = 0
azimuth_refusal (Err NoStep) = no_step
azimuth_refusal (Err NoAzimuth) = strip_number Strips.Azimuth

abbrev pub azimuth_number : Result (Option ℕ) StepRefusal → ℕ
azimuth_number (Ok (Some n)) = n
azimuth_number (Ok None) = absent
azimuth_number (Err refusal) = 0

-- ---- looked up: which strip, where its azimuth octets begin, and how many there are
abbrev pub part_values : List ℕ → List ℕ → ℕ → List ℕ
part_values one two n = n ∷ header_size ∷ length (azimuth_part (cond (eqb n 1) one two)) ∷ []

-- ---- a day's azimuths
abbrev pub coded_azimuths : List ℤ → ℕ → List ℤ → ℤ → List ℕ → Answer ℕ
coded_azimuths date body point step before = formed (body_refusal body) 0 (day_azimuths (date_from date) (point_from point) step (length before))

abbrev pub day_azimuths_left : List ℤ → ℕ → List ℤ → ℤ → List ℕ → List ℕ
day_azimuths_left date body point step before =
    written_one (coded_azimuths date body point step before).refusal (worked (date_from date) (body_of body) (point_from point) step ++ drop (steps step) before) before
