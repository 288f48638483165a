-- Reading what was written, and writing what was read. A strip that the writer's checks pass has numbers that fit their widths, so its fields and its azimuths come back; octets that the reader's checks pass have as many azimuths
-- as the step wants, so that every octet belongs to a field, and are a strip that passes all of the writer's checks but that of the air, which octet 0 passes and octet 1 does not.
use mathlib.Core.Bool.{Bool, ◌&&◌, cond, false, true}
use mathlib.Core.List.{List, [], ◌++◌, ◌∷◌}
use mathlib.Core.Path.{◌∙◌, ◌≡◌, ap, ap₂, refl, sym}
use Prim.Native.Nat.{◌*◌, ◌+◌, ◌-◌, ◌/◌, ◌<◌, ◌^◌, ◌≤◌, suc, zero, ℕ}
use native.Mathlib.Omega.{arith}
use lib.Dec.{eqb, leb}
use lib.IntN.{nat_abs}
use lib.ListN.{drop, get_or, length, length-drop, take, take-append-drop}
use lib.Seq.{drop_at, length-take-le}
use borrow.Author.Tests.{eq-eqb, eqb-true, le-leb, leb-true, lt-ltb}
use Rattle.calendar.proofs.RefusalLaws.{first_one, none, none_append, passed_first, passes, refused_first}
use Rattle.calendar.specs.Refusal.{◌unless◌, first}
use Rattle.octets.proofs.FieldLaws.{fit_at, joined_again, left_octets, off, parted_again, parted_append, parted_fit, taken_octets, total_alike}
use Rattle.octets.proofs.NumberLaws.{complement_again, complement_small, signed_again}
use Rattle.octets.specs.Again.{fit}
use Rattle.octets.specs.Octets.{alike, big_endian, complement, is_octet, joined, number_after, parted, total}
use Rattle.sky.proofs.AnswerLaws.{answered_with, refused_with}
use Rattle.sky.specs.Answer.{Answer}
use Rattle.sky_vectors.specs.declared.geocentric.Body.{Body}
use Rattle.sky_vectors.specs.declared.geocentric.Body.TheVariants.{Moon, Sun}
use Rattle.strip.proofs.AzimuthLaws.{count_in}
use Rattle.strip.proofs.CheckLaws.{Passes, azimuth_small, header_passes}
use Rattle.strip.specs.Air.{air_in, is_none, written_air}
use Rattle.strip.specs.Checks.{are_azimuths, header_refusals, is_azimuth, steps}
use Rattle.strip.specs.Format.{Strip, air_byte, azimuth_part, azimuth_size, azimuths_in, body_byte, body_in, encode, fields, header_follows, header_in, header_numbers, header_size, header_widths, strip_in, strip_of, strip_size, version}
use Rattle.strip.specs.declared.air.StripAir.{StripAir}
use Rattle.strip.specs.declared.air.StripAir.TheVariants.{CarriedOver, Measured, None}
use Rattle.strip.specs.declared.header.Header.{Header}
use Rattle.strip_reader.proofs.ReadLaws.{decoded_refusal, decoded_value, header_there, length_test, stated_is}
use Rattle.strip_reader.specs.Reading.{are_codes, azimuth_at, azimuth_of, decode, length_agrees, no_header, no_strip, read, read_refusals, stated, step_refusals}
use Rattle.text.proofs.LineLaws.{first_of, second_of}
use Rattle.text.specs.Line.{all}
use Rattle.strip_writer.specs.RoundTrip.{CarriedOverRefused, EveryAzimuthRead, HeaderRead, NeverOne, OctetsAgain, StripAgain}
use Rattle.strip_writer.specs.Writing.{own_refusals, strip_refusals, write}
use Rattle.strip_writer.proofs.WriteLaws.{air_none, azimuths_good, count_is, few, head, head_length, header_none, header_size_is, size_again, tail}

-- ---- the octets of air and body
air_again : (air : StripAir) → is_none air ≡ true → air_in written_air ≡ air
air_again None e = refl
air_again (Measured air) e = absurd (off e)
air_again (CarriedOver air) e = absurd (off e)

body_again : (body : Body) → body_in (body_byte body) ≡ body
body_again Sun = refl
body_again Moon = refl

body_small : (body : Body) → body_byte body ≤ 1
body_small Sun = omega arith
body_small Moon = omega arith

byte_of_body : (byte : ℕ) → byte ≤ 1 → body_byte (body_in byte) ≡ byte
byte_of_body zero h = refl
byte_of_body (suc zero) h = refl
byte_of_body (suc (suc byte)) h = absurd (omega (arith, h))

-- ---- azimuths fit their octets
azimuths_fit : (list : List ℕ) → all is_azimuth list ≡ true → fit (alike (length list) azimuth_size) list ≡ true
unfolding all fit
azimuths_fit [] e = refl
azimuths_fit (a ∷ rest) e =
    ap₂ ◌&&◌ (lt-ltb a (256 ^ 4) (azimuth_small a (first_of (is_azimuth a) (all is_azimuth rest) e))) (azimuths_fit rest (second_of (is_azimuth a) (all is_azimuth rest) e))

-- ---- a strip that was written
module _ (strip : Strip) (e : first (strip_refusals strip) ≡ 0) where
  abbrev count : ℕ
  count = length strip.azimuths

  abbrev numbers : List ℕ
  numbers = header_numbers strip.header count

  good : Passes strip.header
  good = header_passes strip.header (header_none strip e)

  byte_small : body_byte strip.header.body ≤ 1
  byte_small = body_small strip.header.body

  numbers_fit : fit header_widths numbers ≡ true
  unfolding fit header_numbers
  numbers_fit =
      ap₂ ◌&&◌ (lt-ltb (header_follows + azimuth_size * count) (256 ^ 2) (omega (arith, few strip e)))
      (ap₂ ◌&&◌ (lt-ltb (body_byte strip.header.body) (256 ^ 1) (omega (arith, byte_small)))
      (ap₂ ◌&&◌ (lt-ltb (nat_abs strip.header.year) (256 ^ 2) (omega (arith, good.year.most_is)))
      (ap₂ ◌&&◌ (lt-ltb (nat_abs strip.header.month) (256 ^ 1) (omega (arith, good.month.most_is)))
      (ap₂ ◌&&◌ (lt-ltb (nat_abs strip.header.day) (256 ^ 1) (omega (arith, good.day.most_is)))
      (ap₂ ◌&&◌ (lt-ltb (complement 4 strip.header.longitude) (256 ^ 4) (complement_small 4 strip.header.longitude good.longitude))
      (ap₂ ◌&&◌ (lt-ltb (complement 4 strip.header.latitude) (256 ^ 4) (complement_small 4 strip.header.latitude good.latitude))
      (ap₂ ◌&&◌ (lt-ltb (nat_abs strip.header.step) (256 ^ 1) (omega (arith, good.step.most_is))) refl)))))))

  fields_back : fields (encode strip) ≡ numbers
  unfolding fields encode
  fields_back =
      parted_append header_widths (head strip) (tail strip) (omega (arith, head_length strip, header_size_is.1)) ∙ parted_again header_widths numbers numbers_fit

  header_back : header_in numbers ≡ strip.header
  unfolding header_in header_numbers
  header_back i =
      record {
        air = air_again strip.header.air (air_none strip e) i;
        body = body_again strip.header.body i;
        year = sym good.year.is i;
        month = sym good.month.is i;
        day = sym good.day.is i;
        longitude = signed_again 4 strip.header.longitude good.longitude i;
        latitude = signed_again 4 strip.header.latitude good.latitude i;
        step = sym good.step.is i;
      }

  part_back : azimuth_part (encode strip) ≡ tail strip
  unfolding encode
  part_back = drop_at (head strip) (tail strip) header_size (head_length strip)

  tail_count : length (tail strip) / azimuth_size ≡ count
  tail_count = omega (arith, sym (ap length part_back) ∙ length-drop header_size (encode strip), size_again strip)

  azimuths_back : azimuths_in (azimuth_part (encode strip)) ≡ strip.azimuths
  unfolding azimuths_in are_azimuths
  azimuths_back =
      ap azimuths_in part_back ∙ ap (λ (n : ℕ). parted (alike n azimuth_size) (tail strip)) tail_count
      ∙ parted_again (alike count azimuth_size) strip.azimuths (azimuths_fit strip.azimuths (azimuths_good strip e))

  length_good : length_agrees (encode strip) ≡ true
  unfolding header_numbers
  length_good =
      sym (length_test (encode strip) (omega (arith, size_again strip)))
      ∙ eq-eqb (stated (encode strip)) (length (encode strip) - 2) (omega (arith, ap (λ (list : List ℕ). get_or list 0 0) fields_back, size_again strip))

  -- the reader's checks, by what they are made on
  abbrev checked : Bool → List ℕ → Header → List ℕ → ℕ
  checked agrees list header azimuths =
      first
      (20 unless agrees
      ∷ 21 unless eqb (get_or list 1 0) version
      ∷ 22 unless are_codes (get_or list 2 0) (get_or list 3 0)
      ∷ (header_refusals header
      ++ (20 unless eqb (get_or list 0 0) (header_follows + azimuth_size * steps header.step) ∷ 26 unless are_azimuths azimuths ∷ [])))

  written_passes : checked true numbers strip.header strip.azimuths ≡ 0
  unfolding header_numbers
  written_passes =
      let front = 20 unless true ∷ 21 unless eqb version version ∷ 22 unless are_codes written_air (body_byte strip.header.body) ∷ [] in
      let front_passes : first front ≡ 0 = unfold first in simp (le-leb (body_byte strip.header.body) 1 byte_small) in
      let by_header = header_refusals strip.header in
      let by_step = 20 unless eqb (header_follows + azimuth_size * count) (header_follows + azimuth_size * steps strip.header.step) ∷ 26 unless are_azimuths strip.azimuths ∷ [] in
      let last : first by_step ≡ 0 = unfold first in
      simp (eq-eqb (header_follows + azimuth_size * count) (header_follows + azimuth_size * steps strip.header.step) (ap (λ (n : ℕ). header_follows + azimuth_size * n) (count_is strip e)), azimuths_good strip e) in
      passed_first front (by_header ++ by_step) front_passes ∙ passed_first by_header by_step (header_none strip e) ∙ last

  read_passes : first (read_refusals (encode strip)) ≡ 0
  read_passes = (λ i. checked (length_good i) (fields_back i) ((ap header_in fields_back ∙ header_back) i) (azimuths_back i)) ∙ written_passes

  strip_same : strip_in (encode strip) ≡ strip
  strip_same = λ i. strip_of ((ap header_in fields_back ∙ header_back) i) (azimuths_back i)

  decoded : decode (encode strip) ≡ record { refusal = 0; value = strip }
  unfolding decode
  decoded = sym (answered_with no_strip (strip_in (encode strip)) read_passes (sym strip_same))

pub strip_again : StripAgain
strip_again strip e = decoded strip e

-- the air octet stands in its place whatever the other numbers are
pub never_one : NeverOne
unfolding encode joined header_numbers big_endian fields parted number_after
never_one strip = refl

-- ---- octets that were read
module _ (octets : List ℕ) (e : first (read_refusals octets) ≡ 0) where
  abbrev said : Strip
  said = strip_in octets

  abbrev found : List ℕ
  found = fields octets

  abbrev part : List ℕ
  part = azimuth_part octets

  abbrev by_header : List ℕ
  by_header = header_refusals said.header

  abbrev by_step : List ℕ
  by_step = step_refusals octets (stated octets) said.header.step

  abbrev after_length : (20 unless length_agrees octets ≡ 0) × (first (drop 1 (read_refusals octets)) ≡ 0)
  after_length = none (20 unless length_agrees octets) (drop 1 (read_refusals octets)) e

  abbrev after_version : (21 unless eqb (get_or found 1 0) version ≡ 0) × (first (drop 2 (read_refusals octets)) ≡ 0)
  after_version = none (21 unless eqb (get_or found 1 0) version) (drop 2 (read_refusals octets)) after_length.1

  abbrev after_codes : (22 unless are_codes (get_or found 2 0) (get_or found 3 0) ≡ 0) × (first (by_header ++ by_step) ≡ 0)
  after_codes = none (22 unless are_codes (get_or found 2 0) (get_or found 3 0)) (by_header ++ by_step) after_version.1

  abbrev after_header : (first by_header ≡ 0) × (first by_step ≡ 0)
  after_header = none_append by_header by_step after_codes.1

  abbrev after_step : (20 unless eqb (stated octets) (header_follows + azimuth_size * steps said.header.step) ≡ 0) × (first (drop 1 by_step) ≡ 0)
  after_step = none (20 unless eqb (stated octets) (header_follows + azimuth_size * steps said.header.step)) (drop 1 by_step) after_header.1

  agrees : length_agrees octets ≡ true
  agrees = passes 19 (length_agrees octets) after_length.0

  version_is : get_or found 1 0 ≡ version
  version_is = eqb-true (get_or found 1 0) version (passes 20 (eqb (get_or found 1 0) version) after_version.0)

  codes : are_codes (get_or found 2 0) (get_or found 3 0) ≡ true
  codes = passes 21 (are_codes (get_or found 2 0) (get_or found 3 0)) after_codes.0

  air_small : get_or found 2 0 ≤ 1
  air_small = leb-true (get_or found 2 0) 1 (first_of (leb (get_or found 2 0) 1) (leb (get_or found 3 0) 1) codes)

  read_body_small : get_or found 3 0 ≤ 1
  read_body_small = leb-true (get_or found 3 0) 1 (second_of (leb (get_or found 2 0) 1) (leb (get_or found 3 0) 1) codes)

  stated_wanted : stated octets ≡ header_follows + azimuth_size * steps said.header.step
  stated_wanted =
      eqb-true (stated octets) (header_follows + azimuth_size * steps said.header.step)
      (passes 19 (eqb (stated octets) (header_follows + azimuth_size * steps said.header.step)) after_step.0)

  read_azimuths_good : are_azimuths said.azimuths ≡ true
  read_azimuths_good = passes 25 (are_azimuths said.azimuths) (none (26 unless are_azimuths said.azimuths) [] after_step.1).0

  abbrev read_count : ℕ
  read_count = length said.azimuths

  part_length : length part ≡ azimuth_size * steps said.header.step
  part_length = let n = steps said.header.step in length-drop header_size octets ∙ omega (arith, stated_is octets agrees, header_there octets agrees, stated_wanted)

  read_count_is : read_count ≡ steps said.header.step
  read_count_is = let n = steps said.header.step in omega (arith, count_in part, part_length)

  -- the writer's checks pass, but for that of the air
  by_air_alone : first (strip_refusals said) ≡ 32 unless is_none said.header.air
  by_air_alone =
      let by_air = 32 unless is_none said.header.air in
      let last : first (own_refusals said) ≡ first (by_air ∷ []) = unfold first in simp (eq-eqb read_count (steps said.header.step) read_count_is, read_azimuths_good) in
      passed_first by_header (own_refusals said) after_header.0 ∙ last ∙ first_one by_air

  refused_by_air : air_byte octets ≡ 1 → first (strip_refusals said) ≡ 32
  unfolding header_in
  refused_by_air one = by_air_alone ∙ ap (λ (byte : ℕ). 32 unless is_none (air_in byte)) one

  -- where the air octet is not 1 the air is none
  air_zero : (air_byte octets ≡ 1 → ⊥) → air_byte octets ≡ written_air
  air_zero not_one = omega (arith, air_small, not_one)

  writable : (air_byte octets ≡ 1 → ⊥) → first (strip_refusals said) ≡ 0
  unfolding header_in
  writable not_one = by_air_alone ∙ ap (λ (byte : ℕ). 32 unless is_none (air_in byte)) (air_zero not_one)

  -- every octet belongs to a field
  module _ (small : all is_octet octets ≡ true) where
    abbrev front : List ℕ
    front = take header_size octets

    front_length : length front ≡ total header_widths
    front_length = length-take-le header_size octets (header_there octets agrees) ∙ sym header_size_is.1

    found_is : found ≡ parted header_widths front
    unfolding fields
    found_is =
        ap (parted header_widths) (sym (take-append-drop header_size octets)) ∙ parted_append header_widths front part (omega (arith, front_length))

    found_fit : fit header_widths found ≡ true
    found_fit = ap (fit header_widths) found_is ∙ parted_fit header_widths front front_length (taken_octets header_size octets small)

    numbers_same : (air_byte octets ≡ 1 → ⊥) → header_numbers said.header read_count ≡ found
    unfolding header_numbers header_in fields parted
    numbers_same not_one i =
        first_same i ∷ sym version_is i
        ∷ sym (air_zero not_one) i
        ∷ byte_of_body (get_or found 3 0) read_body_small i
        ∷ get_or found 4 0 ∷ get_or found 5 0 ∷ get_or found 6 0
        ∷ complement_again 4 (get_or found 7 0) (fit_at header_widths found found_fit 7 (omega arith)) i
        ∷ complement_again 4 (get_or found 8 0) (fit_at header_widths found found_fit 8 (omega arith)) i
        ∷ get_or found 9 0 ∷ []
      where
        first_same : header_follows + azimuth_size * read_count ≡ get_or found 0 0
        first_same = let n = steps said.header.step in omega (arith, read_count_is, stated_wanted)

    front_back : (air_byte octets ≡ 1 → ⊥) → joined header_widths (header_numbers said.header read_count) ≡ front
    front_back not_one =
        ap (joined header_widths) (numbers_same not_one ∙ found_is) ∙ joined_again header_widths front front_length (taken_octets header_size octets small)

    part_same : joined (alike read_count azimuth_size) said.azimuths ≡ part
    unfolding azimuths_in
    part_same =
        ap (λ (n : ℕ). joined (alike n azimuth_size) said.azimuths) (count_in part)
        ∙ joined_again (alike (length part / azimuth_size) azimuth_size) part
        (sym (total_alike (length part / azimuth_size) azimuth_size ∙ whole)) (left_octets header_size octets small)
      where
        whole : azimuth_size * (length part / azimuth_size) ≡ length part
        whole = let n = steps said.header.step in omega (arith, part_length)

    octets_same : (air_byte octets ≡ 1 → ⊥) → encode said ≡ octets
    unfolding encode
    octets_same not_one = ap₂ ◌++◌ (front_back not_one) part_same ∙ take-append-drop header_size octets

pub header_read : HeaderRead
unfolding read decode
header_read octets = by_test (eqb (first (read_refusals octets)) 0)
  where
    by_test : (p : Bool)
        → ((cond {A = Answer Header} p (record { refusal = 0; value = (strip_in octets).header }) (record { refusal = first (read_refusals octets); value = no_header })).refusal
        ≡ (cond {A = Answer Strip} p (record { refusal = 0; value = strip_in octets }) (record { refusal = first (read_refusals octets); value = no_strip })).refusal)
        × ((cond {A = Answer Header} p (record { refusal = 0; value = (strip_in octets).header }) (record { refusal = first (read_refusals octets); value = no_header })).value
        ≡ (cond {A = Answer Strip} p (record { refusal = 0; value = strip_in octets }) (record { refusal = first (read_refusals octets); value = no_strip })).value.header)
    by_test true = (refl, refl)
    by_test false = (refl, refl)

pub octets_again : OctetsAgain
octets_again octets small e not_one =
    let passes = sym (decoded_refusal octets) ∙ e in
    let same = decoded_value octets e in
    (ap (λ (s : Strip). first (strip_refusals s)) same ∙ writable octets passes not_one, ap encode same ∙ octets_same octets passes small not_one)

pub carried_over_refused : CarriedOverRefused
unfolding write
carried_over_refused octets room e one =
    let size = strip_size (length (strip_in octets).azimuths) in
    let by_air = refused_by_air octets (sym (decoded_refusal octets) ∙ e) one in
    let is = refused_first (strip_refusals (strip_in octets)) (28 unless leb size room ∷ []) by_air (λ none. omega (arith, none)) in
    ap (λ (s : Strip). write s room) (decoded_value octets e) ∙ sym (refused_with 0 size is (λ none. omega (arith, none)))

pub every_azimuth_read : EveryAzimuthRead
unfolding azimuth_at
every_azimuth_read octets e step h =
    let same = decoded_value octets e in
    let part = azimuth_part octets in
    let within : step < length part / azimuth_size = omega (arith, h, ap (λ (s : Strip). length s.azimuths) same, count_in part) in
    simp (lt-ltb step (length part / azimuth_size) within) (ap (λ (s : Strip). azimuth_of (get_or s.azimuths step 0)) (sym same))
