-- THE CLAIMS (02, Item 6, as Item 9 mends it): reading what was written gives the same strip; writing what was read gives the same bytes, for strips without air byte 1.
use Rattle.std.specs.Prelude.{true, List, ◌≡◌, ◌<◌, ℕ, get_or, length}
use Rattle.calendar.specs.Refusal.{first}
use Rattle.octets.specs.Octets.{is_octet}
use Rattle.strip.specs.Format.{Strip, air_byte, azimuth_part, encode, strip_size}
use Rattle.strip_reader.specs.Reading.{azimuth_at, azimuth_of, decode, read}
use Rattle.text.specs.Line.{all}
use Rattle.strip_writer.specs.Writing.{strip_refusals, write}

-- a strip that the writer's checks pass is read as the same strip
abbrev pub StripAgain : Type 0
StripAgain = (strip : Strip) → first (strip_refusals strip) ≡ 0 → decode (encode strip) ≡ record { refusal = 0; value = strip }

-- octets that the reader's checks pass, without air byte 1, are a strip that the writer's pass, and are written again
abbrev pub OctetsAgain : Type 0
OctetsAgain =
    (octets : List ℕ) → all is_octet octets ≡ true → (decode octets).refusal ≡ 0 → (air_byte octets ≡ 1 → ⊥)
    → (first (strip_refusals (decode octets).value) ≡ 0) × (encode (decode octets).value ≡ octets)

-- with air byte 1 they are a strip that the writer refuses by 32, whatever room there is
abbrev pub CarriedOverRefused : Type 0
CarriedOverRefused =
    (octets : List ℕ) (room : ℕ) → (decode octets).refusal ≡ 0 → air_byte octets ≡ 1 → write (decode octets).value room ≡ record { refusal = 32; value = 0 }

-- the writer never writes 1
abbrev pub NeverOne : Type 0
NeverOne = (strip : Strip) → air_byte (encode strip) ≡ 0

-- what the reader answers is the header of what the octets say, with the same refusal
abbrev pub HeaderRead : Type 0
HeaderRead = (octets : List ℕ) → ((read octets).refusal ≡ (decode octets).refusal) × ((read octets).value ≡ (decode octets).value.header)

-- a strip has the size that its number of azimuths says
abbrev pub SizeAgain : Type 0
SizeAgain = (strip : Strip) → length (encode strip) ≡ strip_size (length strip.azimuths)

-- in the azimuth octets of a strip that is read, the azimuth of each step is the strip's
abbrev pub EveryAzimuthRead : Type 0
EveryAzimuthRead =
    (octets : List ℕ) → (decode octets).refusal ≡ 0 → (step : ℕ) → step < length (decode octets).value.azimuths
    → azimuth_at (azimuth_part octets) step ≡ azimuth_of (get_or (decode octets).value.azimuths step 0)
