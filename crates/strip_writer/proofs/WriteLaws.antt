-- The writer: what its checks say where they pass, how many octets a strip has, and what is left in the buffer.
use mathlib.Core.Bool.{true}
use mathlib.Core.List.{List, [], ◌++◌, ◌∷◌}
use mathlib.Core.Path.{◌∙◌, ◌≡◌, ap₂, refl, sym}
use Prim.Native.Nat.{◌*◌, ◌+◌, ◌≤◌, ℕ}
use native.Mathlib.Nat.{zero-add}
use native.Mathlib.Omega.{arith}
use lib.Dec.{eqb, leb}
use lib.ListN.{length, length-append, length-replicate}
use borrow.Author.Tests.{eqb-true, leb-true, ne_eqb}
use Rattle.calendar.proofs.RefusalLaws.{none, none_append, passes}
use Rattle.std.specs.Prelude.{Result}
use Rattle.calendar.specs.declared.refusal.Refusal.{Refusal}
use Rattle.calendar.specs.Refusal.{OneAnswer, ◌unless◌, first}
use Rattle.day.specs.Curve.{minutes}
use Rattle.octets.proofs.FieldLaws.{joined_length, total_alike}
use Rattle.octets.proofs.PutLaws.{put_twice, put_whole}
use Rattle.octets.specs.Octets.{alike, joined, total}
use Rattle.octets.specs.Put.{Put}
use Rattle.sky.proofs.AnswerLaws.{judged_refusal, one_answered}
use Rattle.sky.specs.Answer.{Answer}
use Rattle.strip.proofs.CheckLaws.{steps_most}
use Rattle.strip.specs.Air.{is_none}
use Rattle.strip.specs.Checks.{are_azimuths, header_refusals, steps}
use Rattle.strip.specs.Format.{HeaderSize, Strip, azimuth_size, encode, header_numbers, header_size, header_widths, strip_size}
use Rattle.strip_writer.specs.RoundTrip.{SizeAgain}
use Rattle.strip_writer.specs.Writing.{left_in, own_refusals, strip_refusals, write, write_answer, write_refusals}

-- ---- one answer and no other
pub one_writing : {found : Result ℕ Refusal} {rule : Answer ℕ} → write_answer found ≡ rule → OneAnswer write_answer rule found
one_writing = one_answered (λ x y same. same)

-- ---- checks that pass
module _ (strip : Strip) (e : first (strip_refusals strip) ≡ 0) where
  abbrev by_header : List ℕ
  by_header = header_refusals strip.header

  abbrev by_count : ℕ
  by_count = 20 unless eqb (length strip.azimuths) (steps strip.header.step)

  abbrev by_azimuth : ℕ
  by_azimuth = 26 unless are_azimuths strip.azimuths

  abbrev by_air : ℕ
  by_air = 32 unless is_none strip.header.air

  abbrev after_header : (first by_header ≡ 0) × (first (own_refusals strip) ≡ 0)
  after_header = none_append by_header (own_refusals strip) e

  abbrev after_count : (by_count ≡ 0) × (first (by_azimuth ∷ by_air ∷ []) ≡ 0)
  after_count = none by_count (by_azimuth ∷ by_air ∷ []) after_header.1

  abbrev after_azimuth : (by_azimuth ≡ 0) × (first (by_air ∷ []) ≡ 0)
  after_azimuth = none by_azimuth (by_air ∷ []) after_count.1

  pub header_none : first by_header ≡ 0
  header_none = after_header.0

  pub count_is : length strip.azimuths ≡ steps strip.header.step
  count_is = eqb-true (length strip.azimuths) (steps strip.header.step) (passes 19 (eqb (length strip.azimuths) (steps strip.header.step)) after_count.0)

  pub azimuths_good : are_azimuths strip.azimuths ≡ true
  azimuths_good = passes 25 (are_azimuths strip.azimuths) after_azimuth.0

  pub air_none : is_none strip.header.air ≡ true
  air_none = passes 31 (is_none strip.header.air) (none by_air [] after_azimuth.1).0

  pub few : length strip.azimuths ≤ minutes
  few = omega (arith, count_is, steps_most strip.header.step)

module _ (strip : Strip) (room : ℕ) (e : first (write_refusals strip room) ≡ 0) where
  abbrev by_room : ℕ
  by_room = 28 unless leb (strip_size (length strip.azimuths)) room

  abbrev after_strip : (first (strip_refusals strip) ≡ 0) × (first (by_room ∷ []) ≡ 0)
  after_strip = none_append (strip_refusals strip) (by_room ∷ []) e

  pub strip_passes : first (strip_refusals strip) ≡ 0
  strip_passes = after_strip.0

  pub has_room : strip_size (length strip.azimuths) ≤ room
  has_room = leb-true (strip_size (length strip.azimuths)) room (passes 27 (leb (strip_size (length strip.azimuths)) room) (none by_room [] after_strip.1).0)

-- ---- how many octets there are
pub header_size_is : HeaderSize
unfolding total
header_size_is = (refl, refl)

module _ (strip : Strip) where
  abbrev count : ℕ
  count = length strip.azimuths

  abbrev pub head : List ℕ
  head = joined header_widths (header_numbers strip.header count)

  abbrev pub tail : List ℕ
  tail = joined (alike count azimuth_size) strip.azimuths

  pub head_length : length head ≡ header_size
  unfolding header_numbers
  head_length = joined_length header_widths (header_numbers strip.header count) refl ∙ header_size_is.1

  tail_length : length tail ≡ azimuth_size * count
  tail_length = joined_length (alike count azimuth_size) strip.azimuths (sym (length-replicate {A = ℕ} count azimuth_size)) ∙ total_alike count azimuth_size

  encode_length : length (encode strip) ≡ strip_size count
  unfolding encode
  encode_length = length-append head tail ∙ ap₂ ◌+◌ head_length tail_length

  -- ---- what is left in the buffer
  module _ (before : List ℕ) where
    refusal_is : (write strip (length before)).refusal ≡ first (write_refusals strip (length before))
    unfolding write
    refusal_is = judged_refusal (first (write_refusals strip (length before))) 0 (strip_size count)

    pub all_written : first (write_refusals strip (length before)) ≡ 0 → {middle after : List ℕ} {next last : ℕ} → Put before 0 head middle next → Put middle next tail after last
        → (last ≡ strip_size count) × (after ≡ left_in strip before)
    unfolding encode
    all_written e {last = last} p q =
        let size : length (head ++ tail) ≡ strip_size count = encode_length in
        let whole = put_whole (put_twice p q) refl (omega (arith, size, has_room strip (length before) e)) in
        ((put_twice p q).behind ∙ zero-add (length (head ++ tail)) ∙ size, whole ∙ sym (simp (refusal_is ∙ e)))

    pub nothing_written : {n : ℕ} → first (write_refusals strip (length before)) ≡ n → (n ≡ 0 → ⊥) → before ≡ left_in strip before
    nothing_written {n} is refuses = sym (simp (ne_eqb (write strip (length before)).refusal 0 (λ e. refuses (sym is ∙ (sym refusal_is ∙ e)))))

pub size_again : SizeAgain
size_again strip = encode_length strip
