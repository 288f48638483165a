-- A day strip and its octets (02, Item 6: "The strip, all numbers big-endian, has ..", with the air of Item 9).
use Rattle.std.specs.Prelude.{cond, List, [], ◌++◌, ◌∷◌, ◌≡◌, ◌*◌, ◌+◌, ◌-◌, ◌/◌, ℕ, eqb, nat_abs, pos, drop, get_or, length}
use Rattle.octets.specs.Octets.{alike, complement, from_complement, joined, parted, total}
use Rattle.sky_vectors.specs.declared.geocentric.Body.{Body}
use Rattle.sky_vectors.specs.declared.geocentric.Body.TheVariants.{Moon, Sun}
use Rattle.strip.specs.Air.{air_in, written_air}
use Rattle.strip.specs.declared.header.Header.{Header}

-- air, body, date, point and step, and one azimuth per step from minute 0, in 10⁻⁷ degree
pub record Strip : Type 0 where
  pub header : Header
  pub azimuths : List ℕ

abbrev pub strip_of : Header → List ℕ → Strip
strip_of header azimuths = record { header = header; azimuths = azimuths }

-- ---- the octet of a body

-- 0 Sun, 1 Moon
abbrev pub body_byte : Body → ℕ
body_byte Sun = 0
body_byte Moon = 1

abbrev pub body_in : ℕ → Body
body_in byte = cond (eqb byte 0) Sun Moon

-- ---- the layout

-- a two-byte length of all that follows, then version, air and body, year in two bytes, month, day, longitude and latitude in four bytes each, step
abbrev pub header_widths : List ℕ
header_widths = 2 ∷ 1 ∷ 1 ∷ 1 ∷ 2 ∷ 1 ∷ 1 ∷ 4 ∷ 4 ∷ 1 ∷ []

abbrev pub field_count : ℕ
field_count = 10

-- the octets of the length, and of an azimuth
abbrev pub length_size : ℕ
length_size = 2

abbrev pub azimuth_size : ℕ
azimuth_size = 4

-- the octets of the header, and those that its length counts
abbrev pub header_size : ℕ
header_size = 18

abbrev pub HeaderSize : Type 0
HeaderSize = (length header_widths ≡ field_count) × (total header_widths ≡ header_size)

abbrev pub header_follows : ℕ
header_follows = header_size - length_size

abbrev pub version : ℕ
version = 1

-- the ten numbers of a header with so many azimuths behind it; longitude and latitude in two's complement
unfoldable pub header_numbers : Header → ℕ → List ℕ
header_numbers header count =
    (header_follows + azimuth_size * count)
    ∷ version
    ∷ written_air
    ∷ body_byte header.body
    ∷ nat_abs header.year
    ∷ nat_abs header.month
    ∷ nat_abs header.day
    ∷ complement 4 header.longitude
    ∷ complement 4 header.latitude
    ∷ nat_abs header.step
    ∷ []

-- what ten numbers say
unfoldable pub header_in : List ℕ → Header
header_in numbers =
    record {
      air = air_in (get_or numbers 2 0);
      body = body_in (get_or numbers 3 0);
      year = pos (get_or numbers 4 0);
      month = pos (get_or numbers 5 0);
      day = pos (get_or numbers 6 0);
      longitude = from_complement 4 (get_or numbers 7 0);
      latitude = from_complement 4 (get_or numbers 8 0);
      step = pos (get_or numbers 9 0);
    }

-- ---- a strip's octets, and what octets say

-- the header's, then four for each azimuth
unfoldable pub encode : Strip → List ℕ
encode strip =
    let count = length strip.azimuths in
    joined header_widths (header_numbers strip.header count) ++ joined (alike count azimuth_size) strip.azimuths

-- how many octets a strip with so many azimuths has
abbrev pub strip_size : ℕ → ℕ
strip_size count = header_size + azimuth_size * count

-- the ten numbers that stand in front
unfoldable pub fields : List ℕ → List ℕ
fields octets = parted header_widths octets

-- the air byte among them
abbrev pub air_byte : List ℕ → ℕ
air_byte octets = get_or (fields octets) 2 0

-- the azimuth octets, which stand behind the header
abbrev pub azimuth_part : List ℕ → List ℕ
azimuth_part octets = drop header_size octets

-- as many azimuths as there are whole ones
unfoldable pub azimuths_in : List ℕ → List ℕ
azimuths_in part = parted (alike (length part / azimuth_size) azimuth_size) part

abbrev pub strip_in : List ℕ → Strip
strip_in octets = strip_of (header_in (fields octets)) (azimuths_in (azimuth_part octets))
