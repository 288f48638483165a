-- A list without one entry, and a proposal without one inner point: it is well formed too.
use mathlib.Core.Bool.{true}
use mathlib.Core.List.{List, ◌++◌}
use mathlib.Core.Path.{◌∙◌, ◌≡◌, ap, sym}
use Prim.Native.Nat.{◌+◌, ◌-◌, ◌<◌, ◌≤◌, suc, ℕ}
use native.Mathlib.Decide.{dec_lt}
use native.Mathlib.Omega.{arith}
use lib.IntN.{pos, ℤ}
use lib.ListN.{get_or-append, drop, get_or, length, length-append, length-drop, take}
use lib.Seq.{get_or-append-add, get_or-drop, get_or-take, length-take-le}
use Rattle.heading.specs.Heading.{is_reduced}
use Rattle.turning_points.specs.Formed.{WellFormed}
use Rattle.turning_points.specs.Points.{at, signed_at}
use Rattle.plan.specs.Claims.{without}

module _ {A : Type 0} (list : List A) (i : ℕ) (h : i < length list) where
  front : length (take i list) ≡ i
  front = length-take-le i list (omega arith)

  pub without_length : length (without i list) ≡ length list - 1
  unfolding without
  without_length = length-append (take i list) (drop (suc i) list) ∙ (rw (front, length-drop (suc i) list) (omega arith))

  pub without_before : (j : ℕ) (none : A) → j < i → get_or (without i list) j none ≡ get_or list j none
  unfolding without
  without_before j none l = get_or-append (take i list) (drop (suc i) list) none j (omega (arith, front)) ∙ get_or-take i list j none l

  pub without_after : (j : ℕ) (none : A) → i ≤ j → get_or (without i list) j none ≡ get_or list (j + 1) none
  unfolding without
  without_after j none l =
      let here : length (take i list) + (j - i) ≡ j = omega (arith, front) in
      let next : suc i + (j - i) ≡ j + 1 = omega arith in
      ap (λ (k : ℕ). get_or (take i list ++ drop (suc i) list) k none) (sym here)
      ∙ get_or-append-add (take i list) (drop (suc i) list) (j - i) none
      ∙ get_or-drop (suc i) list (j - i) none
      ∙ ap (λ (k : ℕ). get_or list k none) next

module _ (list : List ℕ) (azimuths : List ℤ) (f : WellFormed list azimuths) (i : ℕ) (inner : 0 < i) (h : i + 1 < length list) where
  in_azimuths : i < length azimuths
  in_azimuths = omega (arith, f.each_with_azimuth)

  pub minutes_left : length (without i list) ≡ length list - 1
  minutes_left = without_length list i (omega arith)

  pub azimuths_left : length (without i azimuths) ≡ length list - 1
  azimuths_left = without_length azimuths i in_azimuths ∙ ap (λ (n : ℕ). n - 1) (sym f.each_with_azimuth)

  pub minute_before : (j : ℕ) → j < i → at (without i list) j ≡ at list j
  minute_before j l = without_before list i (omega arith) j 0 l

  pub minute_after : (j : ℕ) → i ≤ j → at (without i list) j ≡ at list (j + 1)
  minute_after j l = without_after list i (omega arith) j 0 l

  pub azimuth_before : (j : ℕ) → j < i → signed_at (without i azimuths) j ≡ signed_at azimuths j
  azimuth_before j l = without_before azimuths i in_azimuths j (pos 0) l

  pub azimuth_after : (j : ℕ) → i ≤ j → signed_at (without i azimuths) j ≡ signed_at azimuths (j + 1)
  azimuth_after j l = without_after azimuths i in_azimuths j (pos 0) l

  pub well_formed_without : WellFormed (without i list) (without i azimuths)
  well_formed_without =
      record {
        each_with_azimuth = minutes_left ∙ sym azimuths_left;
        at_least = omega (arith, minutes_left);
        at_most = omega (arith, minutes_left, f.at_most);
        starts = minute_before 0 inner ∙ f.starts;
        ends = ap (at (without i list)) last ∙ minute_after (length list - 2) (omega arith) ∙ ap (at list) next ∙ f.ends;
        rises = λ k l. rises k (omega (arith, l, minutes_left)) (dec_lt k i) (dec_lt (k + 1) i);
        reduced = λ k l. reduced k (omega (arith, l, azimuths_left)) (dec_lt k i);
      }
    where
      last : length (without i list) - 1 ≡ length list - 2
      last = omega (arith, minutes_left)

      next : length list - 2 + 1 ≡ length list - 1
      next = omega arith

      rises : (k : ℕ) → k + 2 < length list → Dec (k < i) → Dec (k + 1 < i) → at (without i list) k < at (without i list) (k + 1)
      rises k l (yes a) (yes b) = rw (minute_before k a, minute_before (k + 1) b) (f.rises k (omega arith))
      rises k l (yes a) (no b) =
          rw (minute_before k a, minute_after (k + 1) (omega arith)) (omega (arith, f.rises k (omega arith), f.rises (k + 1) (omega arith)))
      rises k l (no a) b = rw (minute_after k (omega arith), minute_after (k + 1) (omega arith)) (f.rises (k + 1) (omega arith))

      reduced : (k : ℕ) → k + 1 < length list → Dec (k < i) → is_reduced (signed_at (without i azimuths) k) ≡ true
      reduced k l (yes a) = ap is_reduced (azimuth_before k a) ∙ f.reduced k (omega (arith, f.each_with_azimuth))
      reduced k l (no a) = ap is_reduced (azimuth_after k (omega arith)) ∙ f.reduced (k + 1) (omega (arith, f.each_with_azimuth))
