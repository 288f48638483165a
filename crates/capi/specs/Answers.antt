-- The exports over a request: 01's answers, as C is handed them. A refused call gives its number and writes nothing.
use Rattle.std.specs.Prelude.{cond, List, [], ◌∷◌, ℕ, eqb, Err, Float, Ok, Result, pos, ℤ, length}
use Rattle.calendar.specs.Refusal.{first}
use Rattle.sum_rules.specs.declared.instant.Instant.{Instant}
use Rattle.sky.specs.Answer.{Answer, PlaceNumbers, judged, nowhere, place, shown_place}
use Rattle.batch.specs.Batch.{BatchAnswer, azimuth_at, batch, elevation_at, left_in}
use Rattle.request.specs.Request.{instant, start_from, start_refusals}
use Rattle.sky.specs.Shown.{ShownNumbers, nothing_shown}
use Rattle.boundary.specs.Codes.{air_of, body_of, body_refusal, code_refusal}
use Rattle.boundary.specs.Fault.{Told, fault_number}
use Rattle.boundary.specs.declared.fault.Fault.{Fault}
use Rattle.boundary.specs.declared.fault.Fault.TheVariants.{Late}
use Rattle.sky_vectors.specs.Station.{point_from}

-- what stands behind a reference after the call: the value, or what stood there where refused
abbrev pub written_one : {A : Type 0} → ℕ → A → A → A
written_one refusal value before = cond (eqb refusal 0) value before

-- the same by what is told of the answer's value: the numbers of an array, or a flag
abbrev pub written : {A B : Type 0} → (A → B) → Answer A → B → B
written told answer before = written_one answer.refusal (told answer.value) before

-- the same of the export's inner function, before it is written: the value told by its numbers, or a fault with the answer's number
abbrev pub Answered : {A B : Type 0} → (A → B) → Answer A → Result B Fault → Type 0
Answered told answer result = Told (λ value. value) answer.refusal (told answer.value) result

-- the refusal of a code, with zeros, or the answer to the request
abbrev pub formed : {A : Type 0} → ℕ → A → Answer A → Answer A
formed refusal zeros answer = cond (eqb refusal 0) answer (record { refusal = refusal; value = zeros })

abbrev pub coded_place : List ℤ → ℕ → List ℤ → ℕ → Float → Float → Answer PlaceNumbers
coded_place start body point air pressure temperature =
    formed (code_refusal body air) nowhere (place (start_from start) (body_of body) (point_from point) (air_of air pressure temperature))

abbrev pub coded_shown_place : List ℤ → ℕ → List ℤ → ℕ → Float → Float → Answer ShownNumbers
coded_shown_place start body point air pressure temperature =
    formed (code_refusal body air) nothing_shown (shown_place (start_from start) (body_of body) (point_from point) (air_of air pressure temperature))

abbrev pub coded_batch : List ℤ → ℕ → List ℤ → List ℕ → List ℤ → List ℤ → BatchAnswer
coded_batch start body point offsets azimuths elevations =
    let refusal = body_refusal body in
    cond (eqb refusal 0) (batch (start_from start) (point_from point) offsets (length azimuths) (length elevations)) (record { refusal = refusal; index = 0; count = 0 })

-- a count, or a fault, which may be a late offset's
abbrev pub batch_told : Result ℕ Fault → BatchAnswer
batch_told (Ok count) = record { refusal = 0; index = 0; count = count }
batch_told (Err (Late index)) = record { refusal = 13; index = index; count = 0 }
batch_told (Err fault) = record { refusal = fault_number fault; index = 0; count = 0 }

-- each buffer after the call
abbrev pub azimuths_left : List ℤ → ℕ → List ℤ → List ℕ → List ℤ → List ℤ → List ℤ
azimuths_left start body point offsets azimuths elevations =
    left_in (coded_batch start body point offsets azimuths elevations) (azimuth_at (body_of body) (point_from point) (instant (start_from start))) offsets azimuths

abbrev pub elevations_left : List ℤ → ℕ → List ℤ → List ℕ → List ℤ → List ℤ → List ℤ
elevations_left start body point offsets azimuths elevations =
    left_in (coded_batch start body point offsets azimuths elevations) (elevation_at (body_of body) (point_from point) (instant (start_from start))) offsets elevations

-- index and count of a batch that is accepted or late; any other refusal writes nothing
abbrev pub told_of_batch : BatchAnswer → List ℕ → List ℕ
told_of_batch answer before = cond (eqb answer.refusal 0) (0 ∷ answer.count ∷ []) (cond (eqb answer.refusal 13) (answer.index ∷ 0 ∷ []) before)

-- UT and TT of a start
abbrev pub started : List ℤ → Answer Instant
started numbers =
    let start = start_from numbers in
    judged (first (start_refusals start)) (record { ut = pos 0; tt = pos 0 }) (instant start)

abbrev pub instant_values : Instant → List ℤ
instant_values i = i.ut ∷ i.tt ∷ []
