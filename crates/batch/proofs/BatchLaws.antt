-- The laws of a batch: the search for a late instant, the writing of a buffer, and what keeps every sample within reach.
use mathlib.Core.Bool.{Bool, cond, false, true}
use mathlib.Core.List.{List, [], ◌∷◌, append_assoc, map, map-append}
use mathlib.Core.Path.{◌∙◌, ◌≡◌, ap, refl, subst, subst⁻¹, sym}
use Prim.Native.Nat.{◌*◌, ◌+◌, ◌-◌, ◌/◌, ◌<◌, ◌^◌, ◌≤◌, suc, zero, zero-le, ℕ}
use native.Mathlib.Nat.{le_of_lt, le_trans, lt_of_lt_of_le}
use native.Mathlib.Numerals.{add-one, one-add}
use native.Mathlib.Omega.{arith}
use lib.Dec.{leb→le, ltb}
use lib.IntN.{◌*ℤ◌, ◌+ℤ◌, nat_abs, pos, ℤ}
use lib.ListN.{get_or, length, length-map, set, take}
use lib.Seq.{drop-cons, length-take-le, set_at, take-suc}
use lib.Signed.{◌<ℤ◌, ◌≤ℤ◌, lt_z_no, mag}
use mir.Syntax.{w64}
use mir.Val.{of_z, to_z}
use mir.ValLaws.{to_z-of_z}
use Rattle.arithmetic.proofs.Difference.{#◌, ◌⊞◌, ◌⊠◌, by_le, by_lt, to_le, ⟨◌⟩}
use Rattle.arithmetic.proofs.Integers.{solveℤ}
use Rattle.arithmetic.proofs.Solver.{◌:+◌, ◌:-◌, x0, x1, x2, x3, x4, x5}
use Rattle.number_rules.proofs.CalendarLaws.{day_after_last_is}
use Rattle.numbers.proofs.Machine.{not_holds}
use Rattle.number_rules.specs.Calendar.{day_count, day_number, days_from_2000, days_to_month, days_to_year, leap, month_length, year_length}
use Rattle.request.proofs.RequestLaws.{accepted}
use Rattle.batch.specs.Batch.{BatchAnswer, EndsWith2100, batch_answer, filled, first_late, is_late, last_moment, later}
use Rattle.calendar.specs.Refusal.{OneAnswer, first}
use Rattle.calendar.specs.declared.refusal.Refusal.{Refusal}
use Rattle.calendar.proofs.RefusalLaws.{never_late, never_none, number_tells, one_answer}
use Rattle.request.specs.Request.{date, elapsed, instant, start_refusals, utc}
use Rattle.sky_vectors.specs.SkyRange.{Reachable}
use Rattle.batch.specs.declared.samples.BatchRefusal.{BatchRefusal}
use Rattle.batch.specs.declared.samples.BatchRefusal.TheVariants.{Late, Request}
use borrow.Author.Tests.{ltb-false, ltb-true}
use Rattle.std.specs.Prelude.{Err, None, Ok, Result, Some, position}
use Rattle.std.specs.List.{position_or_len}
use Rattle.std.proofs.lemmas.List.Recursion.{is_position_or_len}
use Rattle.request.specs.declared.start.Start.{Start}
use Rattle.sum_rules.proofs.AcceptedInstants.{clock_small, terrestrial_near, universal_near}
use Rattle.sum_rules.specs.Instant.{Accepted, day, furthest}

-- ---- the last moment
pub last_is : last_moment ≡ pos (36_890 * day - 1)
unfolding last_moment utc elapsed day_count days_from_2000 day_number days_to_year days_to_month month_length year_length leap
last_is = refl

pub ends_with_2100 : EndsWith2100
ends_with_2100 = ap (λ (z : ℤ). z +ℤ pos 1) last_is ∙ ap (λ (z : ℤ). pos day *ℤ z) (sym day_after_last_is)

-- ---- the search
pub late_most : (start : ℤ) (offsets : List ℕ) → first_late start offsets ≤ length offsets
unfolding first_late
late_most start [] = zero-le
late_most start (offset ∷ rest) = go (is_late start offset) (late_most start rest)
  where
    go : (b : Bool) → first_late start rest ≤ length rest → cond b 0 (suc (first_late start rest)) ≤ suc (length rest)
    go true h = zero-le
    go false h = omega (arith, h)

pub all_in_time : (start : ℤ) (offsets : List ℕ) → first_late start offsets ≡ length offsets
    → (i : ℕ) → i < length offsets → is_late start (get_or offsets i 0) ≡ false
unfolding first_late
all_in_time start [] e i h = absurd (omega (arith, h))
all_in_time start (offset ∷ rest) e zero h = go (is_late start offset) refl e
  where
    go : (b : Bool) → is_late start offset ≡ b → cond b 0 (suc (first_late start rest)) ≡ suc (length rest) → is_late start offset ≡ false
    go true is e = absurd (omega (arith, e))
    go false is e = is
all_in_time start (offset ∷ rest) e (suc i) h = all_in_time start rest (go (is_late start offset) e) i (omega (arith, h))
  where
    go : (b : Bool) → cond b 0 (suc (first_late start rest)) ≡ suc (length rest) → first_late start rest ≡ length rest
    go true e = absurd (omega (arith, e))
    go false e = omega (arith, e)

-- what a search gave: the first bad index, or none
module _ (start : ℤ) (offsets : List ℕ) where
  first_is : first_late start offsets ≡ position_or_len (is_late start) offsets
  unfolding first_late
  first_is = is_position_or_len (first_late start) (is_late start) refl (λ offset rest. rw one-add) offsets

  pub found_late : (i : ℕ) → position (is_late start) offsets ≡ Some i → (first_late start offsets ≡ i) × (i < length offsets)
  found_late i e = go (position_or_len (is_late start) offsets) (length offsets) (ltb (position_or_len (is_late start) offsets) (length offsets)) refl first_is e
    where
      go : (n m : ℕ) (b : Bool) → ltb n m ≡ b → first_late start offsets ≡ n → cond b (Some n) None ≡ Some i → (first_late start offsets ≡ i) × (i < m)
      go n m true within is e = let same : n ≡ i = cc in (is ∙ same, omega (arith, ltb-true n m within, same))
      go n m false within is e = cc

  pub found_none : position (is_late start) offsets ≡ None → first_late start offsets ≡ length offsets
  found_none e = go (position_or_len (is_late start) offsets) (ltb (position_or_len (is_late start) offsets) (length offsets)) refl first_is e
    where
      go : (n : ℕ) (b : Bool) → ltb n (length offsets) ≡ b → first_late start offsets ≡ n → cond b (Some n) None ≡ None → first_late start offsets ≡ length offsets
      go n true within is e = cc
      go n false within is e = omega (arith, ltb-false n (length offsets) within, is, late_most start offsets)

-- ---- the writing
module _ (entry : ℕ → ℤ) (offsets : List ℕ) (before : List ℤ) where
  pub filled_none : before ≡ filled entry (take 0 offsets) before
  unfolding filled
  filled_none = refl

  filled_more : (i : ℕ) → i < length offsets → length offsets ≤ length before
      → set (filled entry (take i offsets) before) i (entry (get_or offsets i 0)) ≡ filled entry (take (i + 1) offsets) before
  unfolding filled
  filled_more i h fits =
      let n : length (take i offsets) ≡ i = length-take-le i offsets (le_of_lt h) in
      let m : length (take (suc i) offsets) ≡ suc i = length-take-le (suc i) offsets h in
      let here : i < length before = lt_of_lt_of_le h fits in
      rw (
        add-one,
        m,
        n,
        drop-cons before i (pos 0) here,
        set_at (map entry (take i offsets)) _ _ _ i (length-map (take i offsets) entry ∙ n),
        take-suc offsets i 0,
        map-append,
        append_assoc,
      )

  -- one turn, from a buffer that is filled so far and a value as the machine holds it
  pub stored : {now : List ℤ} {v : ℤ} (i : ℕ) → i < length offsets → length offsets ≤ length before
      → now ≡ filled entry (take i offsets) before → mag v < 2 ^ 63 → v ≡ entry (get_or offsets i 0)
      → set now i (to_z w64 (of_z w64 v)) ≡ filled entry (take (i + 1) offsets) before
  stored {now} {v} i h fits so_far range is = rw (to_z-of_z w64 v (record { sfits = range }), so_far, is) (filled_more i h fits)

-- ---- what keeps every sample within reach
pub sample_accepted : (s : Start) (offset : ℕ) → first (start_refusals s) ≡ 0 → is_late (utc s) offset ≡ false
    → Accepted (date s).days (elapsed s +ℤ pos offset) s.ut1 s.delta_t
unfolding utc is_late
sample_accepted s offset e in_time =
    let start = accepted s e in
    let after = to_le (# 0) ⟨ elapsed s ⟩ start.from_midnight in
    let last = subst (λ (z : ℤ). (pos day *ℤ (date s).days +ℤ elapsed s +ℤ pos offset) ≤ℤ z) last_is (lt_z_no (not_holds in_time)) in
    let sum = # day ⊠ ⟨ (date s).days ⟩ ⊞ ⟨ elapsed s ⟩ ⊞ # offset in
    let late = to_le sum (# (36_890 * day - 1)) last in
    record {
      not_early = start.not_early;
      from_midnight = by_le (# 0) (⟨ elapsed s ⟩ ⊞ # offset) (omega (arith, after));
      not_late =
          subst⁻¹ (λ (z : ℤ). (pos day *ℤ (date s).days +ℤ (elapsed s +ℤ pos offset)) <ℤ (pos day *ℤ z)) day_after_last_is
          (by_lt (# day ⊠ ⟨ (date s).days ⟩ ⊞ (⟨ elapsed s ⟩ ⊞ # offset)) (# day ⊠ # 36_890) (omega (arith, late)));
      ut1_small = start.ut1_small;
      delta_small = start.delta_small;
    }

pub sample_reachable : (s : Start) (offset : ℕ) → first (start_refusals s) ≡ 0 → is_late (utc s) offset ≡ false → Reachable (later (instant s) offset)
unfolding instant
sample_reachable s offset e in_time =
    let a = sample_accepted s offset e in_time in
    let d = pos day *ℤ (date s).days in
    let list = d ∷ elapsed s ∷ pos (day / 2) ∷ s.ut1 ∷ pos offset ∷ s.delta_t ∷ [] in
    record {
      ut_near = subst (λ (z : ℤ). nat_abs z ≤ furthest) (solveℤ (x0 :- x2 :+ (x1 :+ x4) :+ x3) ((x0 :- x2 :+ x1 :+ x3) :+ x4) list tt) (universal_near a);
      tt_near =
          subst (λ (z : ℤ). nat_abs z ≤ furthest) (solveℤ (x0 :- x2 :+ (x1 :+ x4) :+ x3 :+ x5) ((x0 :- x2 :+ x1 :+ x3 :+ x5) :+ x4) list tt) (terrestrial_near a);
    }

pub utc_small : (s : Start) → first (start_refusals s) ≡ 0 → nat_abs (utc s) ≤ 2 ^ 60
unfolding utc
utc_small s e = le_trans (clock_small (accepted s e)) (leb→le (36_890 * day) (2 ^ 60) tt)

-- ---- a batch's answer is told from any other by its numbers
refusal_same : {x y : BatchAnswer} → x ≡ y → x.refusal ≡ y.refusal
refusal_same same = ap (λ (a : BatchAnswer). a.refusal) same

batch_tells : (x y : Result ℕ BatchRefusal) → batch_answer x ≡ batch_answer y → x ≡ y
batch_tells (Ok m) (Ok n) same = ap (λ (a : BatchAnswer). Ok a.count) same
batch_tells (Ok m) (Err (Request r)) same = absurd (never_none r (sym (refusal_same same)))
batch_tells (Ok m) (Err (Late i)) same = absurd (omega (arith, refusal_same same))
batch_tells (Err (Request r)) (Ok n) same = absurd (never_none r (refusal_same same))
batch_tells (Err (Request r)) (Err (Request s)) same = ap (λ (r : Refusal). Err (Request r)) (number_tells r s (refusal_same same))
batch_tells (Err (Request r)) (Err (Late i)) same = absurd (never_late r (refusal_same same))
batch_tells (Err (Late i)) (Ok n) same = absurd (omega (arith, refusal_same same))
batch_tells (Err (Late i)) (Err (Request r)) same = absurd (never_late r (sym (refusal_same same)))
batch_tells (Err (Late i)) (Err (Late j)) same = ap (λ (a : BatchAnswer). Err (Late a.index)) same

pub one_batch : {found : Result ℕ BatchRefusal} {rule : BatchAnswer} → batch_answer found ≡ rule → OneAnswer batch_answer rule found
one_batch = one_answer batch_tells
