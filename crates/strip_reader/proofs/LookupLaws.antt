-- The lookup, case by case, and that both strips hold a header where one is found.
use mathlib.Core.Bool.{Bool, cond, false, true}
use mathlib.Core.List.{List, []}
use mathlib.Core.Path.{◌∙◌, ◌≡◌, refl, sym}
use Prim.Native.Nat.{◌≤◌, ℕ}
use native.Mathlib.Omega.{arith}
use lib.IntN.{ℤ}
use lib.ListN.{drop, length}
use borrow.Author.Tests.{ne_eqb}
use Rattle.std.specs.Prelude.{Err, Ok, Result}
use Rattle.calendar.proofs.RefusalLaws.{never_none, none, passes}
use Rattle.calendar.specs.Refusal.{OneAnswer, ◌unless◌, first, number}
use Rattle.calendar.specs.declared.refusal.Refusal.{Refusal}
use Rattle.calendar.specs.declared.refusal.Refusal.TheVariants as Of
use Rattle.calendar.specs.declared.refusal.StripRefusal.TheVariants as Strips
use Rattle.sky.proofs.AnswerLaws.{answered_with, one_answered, judged_refusal, refused_with}
use Rattle.sky.specs.Answer.{Answer}
use Rattle.strip.specs.Format.{header_size}
use Rattle.strip_reader.specs.Lookup.{bears_in, find_refusals, found_answer, part_of, strip_number, which}
use Rattle.strip_reader.specs.Reading.{length_agrees, read_refusals}
use Rattle.strip_reader.specs.declared.lookup.Bearer.{Bearer}
use Rattle.strip_reader.specs.declared.lookup.Bearer.TheVariants.{First, Second}
use Rattle.strip_reader.proofs.ReadLaws.{header_there}

-- a strip that is read holds a header
there : (octets : List ℕ) → first (read_refusals octets) ≡ 0 → header_size ≤ length octets
there octets e = header_there octets (passes 19 (length_agrees octets) (none (20 unless length_agrees octets) (drop 1 (read_refusals octets)) e).0)

-- ---- one answer and no other
number_tells : (x y : Bearer) → strip_number x ≡ strip_number y → x ≡ y
number_tells First First same = refl
number_tells First Second same = absurd (omega (arith, same))
number_tells Second First same = absurd (omega (arith, same))
number_tells Second Second same = refl

pub one_found : {found : Result Bearer Refusal} {rule : Answer ℕ} → found_answer found ≡ rule → OneAnswer found_answer rule found
one_found = one_answered number_tells

-- a refusal comes with an empty part
pub empty_part : (r : Refusal) (one two : List ℕ) → [] ≡ part_of (found_answer (Err r)) one two
empty_part r one two = simp (ne_eqb (number r) 0 (never_none r))

module _ (one two : List ℕ) (year month day : ℤ) where
  abbrev in_one : Bool
  in_one = bears_in one year month day

  abbrev in_two : Bool
  in_two = bears_in two year month day

  refused : (r : Refusal) → first (find_refusals one two year month day) ≡ number r → found_answer (Err r) ≡ which one two year month day
  unfolding which
  refused r is = refused_with 0 (cond in_one 1 2) is (never_none r)

  pub by_first : (r : Refusal) → first (read_refusals one) ≡ number r → found_answer (Err r) ≡ which one two year month day
  by_first r e = refused r (unfold first in simp (e, ne_eqb (number r) 0 (never_none r)))

  module _ (a : first (read_refusals one) ≡ 0) where
    pub by_second : (r : Refusal) → first (read_refusals two) ≡ number r → found_answer (Err r) ≡ which one two year month day
    by_second r e = refused r (unfold first in simp (a, e, ne_eqb (number r) 0 (never_none r)))

    module _ (b : first (read_refusals two) ≡ 0) where
      pub is_first : in_one ≡ true → found_answer (Ok First) ≡ which one two year month day
      unfolding which
      is_first t =
          let none_applies : first (find_refusals one two year month day) ≡ 0 = unfold first in simp (a, b, t) in
          answered_with 0 (cond in_one 1 2) none_applies (simp t)

      pub is_second : in_one ≡ false → in_two ≡ true → found_answer (Ok Second) ≡ which one two year month day
      unfolding which
      is_second f t =
          let none_applies : first (find_refusals one two year month day) ≡ 0 = unfold first in simp (a, b, f, t) in
          answered_with 0 (cond in_one 1 2) none_applies (simp f)

      pub is_neither : in_one ≡ false → in_two ≡ false → found_answer (Err (Of.Strip Strips.NotFound)) ≡ which one two year month day
      is_neither f g = refused (Of.Strip Strips.NotFound) (unfold first in simp (a, b, f, g))

  -- ---- where one is found
  module _ (e : (which one two year month day).refusal ≡ 0) where
    all_pass : first (find_refusals one two year month day) ≡ 0
    unfolding which
    all_pass = sym (judged_refusal (first (find_refusals one two year month day)) 0 (cond in_one 1 2)) ∙ e

    abbrev one_passes : (first (read_refusals one) ≡ 0) × (first (drop 1 (find_refusals one two year month day)) ≡ 0)
    one_passes = none (first (read_refusals one)) (drop 1 (find_refusals one two year month day)) all_pass

    abbrev two_passes : (first (read_refusals two) ≡ 0) × (first (drop 2 (find_refusals one two year month day)) ≡ 0)
    two_passes = none (first (read_refusals two)) (drop 2 (find_refusals one two year month day)) one_passes.1

    pub first_there : header_size ≤ length one
    first_there = there one one_passes.0

    pub second_there : header_size ≤ length two
    second_there = there two two_passes.0
