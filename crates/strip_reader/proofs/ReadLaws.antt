-- The reader's checks: the length, and one answer and no other.
use mathlib.Core.Bool.{Bool, ◌&&◌, false, true}
use mathlib.Core.List.{List}
use mathlib.Core.Path.{◌∙◌, ◌≡◌, ap, refl, sym}
use Prim.Native.Nat.{◌-◌, ◌<◌, ◌≤◌, ℕ}
use native.Mathlib.Omega.{arith}
use lib.Dec.{eqb, leb}
use lib.ListN.{length}
use borrow.Author.Tests.{eqb-true, le-leb, leb-true}
use Rattle.std.specs.Prelude.{Err, Ok, Result}
use Rattle.calendar.specs.Refusal.{OneAnswer, first, number}
use Rattle.calendar.specs.declared.refusal.Refusal.{Refusal}
use Rattle.sky.proofs.AnswerLaws.{judged_refusal, judged_value, not_refused, one_answered}
use Rattle.sky.specs.Answer.{Answer}
use Rattle.strip.specs.Format.{Strip, fields, header_follows, header_in, header_size, length_size, strip_in}
use Rattle.strip.specs.declared.header.Header.{Header}
use Rattle.text.proofs.LineLaws.{first_of, second_of}
use Rattle.strip_reader.specs.Reading.{decode, length_agrees, no_header, no_strip, read, read_answer, read_refusals, stated}

-- of octets that hold a header the length is judged by one test
pub length_test : (octets : List ℕ) → header_size ≤ length octets → eqb (stated octets) (length octets - length_size) ≡ length_agrees octets
unfolding length_agrees
length_test octets h = by_test (eqb (stated octets) (length octets - length_size)) refl
  where
    by_test : (p : Bool) → eqb (stated octets) (length octets - length_size) ≡ p
        → p ≡ (leb length_size (length octets) && (leb header_follows (stated octets) && eqb (stated octets) (length octets - length_size)))
    by_test true e =
        let is : stated octets ≡ length octets - length_size = eqb-true (stated octets) (length octets - length_size) e in
        sym (simp (le-leb length_size (length octets) (omega arith), le-leb header_follows (stated octets) (omega (arith, is)), e))
    by_test false e = sym (simp (le-leb length_size (length octets) (omega arith), e) (no_both (leb header_follows (stated octets))))
      where
        no_both : (a : Bool) → (a && false) ≡ false
        no_both true = refl
        no_both false = refl

-- what a length that agrees says
module _ (octets : List ℕ) (e : length_agrees octets ≡ true) where
  abbrev has_length : Bool
  has_length = leb length_size (length octets)

  abbrev has_header : Bool
  has_header = leb header_follows (stated octets)

  abbrev is_own : Bool
  is_own = eqb (stated octets) (length octets - length_size)

  both : (has_header && is_own) ≡ true
  unfolding length_agrees
  both = second_of has_length (has_header && is_own) e

  pub stated_is : stated octets ≡ length octets - length_size
  stated_is = eqb-true (stated octets) (length octets - length_size) (second_of has_header is_own both)

  pub stated_least : header_follows ≤ stated octets
  stated_least = leb-true header_follows (stated octets) (first_of has_header is_own both)

  pub header_there : header_size ≤ length octets
  header_there = omega (arith, stated_is, stated_least)

-- fewer octets are no strip
pub too_few : (octets : List ℕ) → length octets < header_size → length_agrees octets ≡ false
too_few octets h = by_test (length_agrees octets) refl
  where
    by_test : (p : Bool) → length_agrees octets ≡ p → p ≡ false
    by_test true e = absurd (omega (arith, header_there octets e))
    by_test false e = refl

-- what an answer of the reader tells
module _ (octets : List ℕ) where
  pub read_passed : {header : Header} → read_answer (Ok header) ≡ read octets → (first (read_refusals octets) ≡ 0) × (header ≡ header_in (fields octets))
  unfolding read
  read_passed e = not_refused (first (read_refusals octets)) no_header (header_in (fields octets)) e

  pub read_refused : (refusal : Refusal) → read_answer (Err refusal) ≡ read octets → first (read_refusals octets) ≡ number refusal
  unfolding read
  read_refused refusal e = sym (ap (λ (a : Answer Header). a.refusal) e ∙ judged_refusal (first (read_refusals octets)) no_header (header_in (fields octets)))

-- what octets say, where they are a strip
module _ (octets : List ℕ) where
  pub decoded_refusal : (decode octets).refusal ≡ first (read_refusals octets)
  unfolding decode
  decoded_refusal = judged_refusal (first (read_refusals octets)) no_strip (strip_in octets)

  pub decoded_value : (decode octets).refusal ≡ 0 → (decode octets).value ≡ strip_in octets
  unfolding decode
  decoded_value e = ap (λ (a : Answer Strip). a.value) (judged_value (first (read_refusals octets)) no_strip (strip_in octets) (sym decoded_refusal ∙ e))

-- ---- one answer
pub one_reading : {found : Result Header Refusal} {rule : Answer Header} → read_answer found ≡ rule → OneAnswer read_answer rule found
one_reading = one_answered (λ x y same. same)
