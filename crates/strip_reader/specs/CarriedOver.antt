-- THE CLAIMS on old strips (02, Item 9: "Strips that hold air byte 1 are still read").
use Rattle.std.specs.Prelude.{List, ◌++◌, ◌∷◌, ◌≡◌, ℕ, Some, pos}
use Rattle.calendar.specs.Refusal.{first}
use Rattle.request.specs.Request.{instant, point_refusals, start_refusals}
use Rattle.request.specs.declared.start.Start.{Start}
use Rattle.sky.specs.Answer.{Answer, judged, shown_place}
use Rattle.sky.specs.Shown.{ShownNumbers, nothing_shown, shown}
use Rattle.sky_vectors.specs.Place.{place_at}
use Rattle.sky_vectors.specs.declared.geocentric.Body.{Body}
use Rattle.sky_vectors.specs.declared.station.Point.{Point}
use Rattle.strip.specs.Air.{carried_over, measured_at, request_air}
use Rattle.strip.specs.Format.{Strip, air_byte, strip_of}
use Rattle.strip.specs.declared.air.StripAir.{StripAir}
use Rattle.strip.specs.declared.air.StripAir.TheVariants.{CarriedOver}
use Rattle.strip_reader.specs.Reading.{decode, read}

-- what a strip says, but for its air
abbrev pub with_air : StripAir → Strip → Strip
with_air air strip =
    let header = strip.header in
    strip_of
    (record {
      air = air;
      body = header.body;
      year = header.year;
      month = header.month;
      day = header.day;
      longitude = header.longitude;
      latitude = header.latitude;
      step = header.step;
    })
    strip.azimuths

-- with air byte 1 a strip is refused as it would be with 0, and for nothing else, and says the same but for its air; before that byte stand the length's two and the version
abbrev pub StillRead : Type 0
StillRead =
    (high low version : ℕ) (rest : List ℕ)
    → let old = decode (high ∷ low ∷ version ∷ 1 ∷ rest) in
    let without = decode (high ∷ low ∷ version ∷ 0 ∷ rest) in
    (old.refusal ≡ without.refusal) × (old.refusal ≡ 0 → old.value ≡ with_air carried_over without.value)

-- the reader answers measured air at 1010 mbar and 10 °C with a mark that it was carried over
abbrev pub ReadWithMark : Type 0
ReadWithMark = (octets : List ℕ) → (read octets).refusal ≡ 0 → air_byte octets ≡ 1 → (read octets).value.air ≡ CarriedOver (measured_at (pos 1010) (pos 10))

-- the shown place in standard air as it was (01: "standard means measured at 1010 and 10"), which no check of the air refused
abbrev pub standard_shown_place : Start → Body → Point → Answer ShownNumbers
standard_shown_place start body point =
    judged (first (start_refusals start ++ point_refusals point)) nothing_shown
    (shown (Some (measured_at (pos 1010) (pos 10))) (place_at body point (instant start)))

-- the shown place must have the same bits as before
abbrev pub ShownAsBefore : Type 0
ShownAsBefore =
    (octets : List ℕ) → (read octets).refusal ≡ 0 → air_byte octets ≡ 1
    → (start : Start) (body : Body) (point : Point) → shown_place start body point (request_air (read octets).value.air) ≡ standard_shown_place start body point
