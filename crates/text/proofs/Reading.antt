-- A line that is being read: so many words were found, all of them numbers, with their values kept.
use mathlib.Core.Bool.{Bool, ◌&&◌, false, true}
use mathlib.Core.List.{List, [], ◌∷◌, ◌++◌, map, map-append}
use mathlib.Core.Option.{none, some}
use mathlib.Core.Path.{◌∙◌, ◌≡◌, ap, ap₂, refl, sym}
use Prim.Native.Nat.{◌+◌, ◌<◌, ◌≤◌, suc, zero, ℕ}
use native.Mathlib.Nat.{not-suc-le-zero}
use native.Mathlib.Numerals.{add-one}
use native.Mathlib.Omega.{arith}
use lib.IntN.{ℤ}
use lib.ListN.{get_or, length, length-set, set, take}
use lib.Seq.{take-suc, take-suc-set, take_all}
use Rattle.text.specs.Line.{all, is_number, line_numbers, value, words}
use Rattle.text.proofs.WordLaws.{all_append, all_numbers, other_count, other_word}

pub record Reading (line : List ℕ) (most found : ℕ) (values : List ℤ) : Type 0 where
  pub good : all (is_number most) (take found (words line)) ≡ true
  pub kept : take found values ≡ map value (take found (words line))
  pub within : found ≤ length values

pub begun : (line : List ℕ) (most : ℕ) (values : List ℤ) → Reading line most 0 values
unfolding all
begun line most values = record { good = refl; kept = refl; within = omega arith }

-- one entry that fails is enough
fails_at : {A : Type 0} (test : A → Bool) (s : List A) (i : ℕ) (d : A) → i < length s → test (get_or s i d) ≡ false → all test s ≡ false
unfolding all
fails_at test [] i d h e = absurd (not-suc-le-zero h)
fails_at test (entry ∷ rest) zero d h e = ap (λ (p : Bool). p && all test rest) e
fails_at test (entry ∷ rest) (suc i) d h e = ap (λ (p : Bool). test entry && p) (fails_at test rest i d (omega arith) e) ∙ none_of (test entry)
  where
    none_of : (p : Bool) → (p && false) ≡ false
    none_of true = refl
    none_of false = refl

module _ {line : List ℕ} {most found : ℕ} {values : List ℤ} (r : Reading line most found values) where
  -- one word more
  module _ (word : List ℕ) (h : found < length (words line)) (is : word ≡ get_or (words line) found word) where
    pub too_many : found ≡ length values → line_numbers (length values) most line ≡ none
    too_many l = other_count (length values) most line (λ e. omega (arith, e))

    pub no_number : is_number most word ≡ false → line_numbers (length values) most line ≡ none
    no_number e = other_word (length values) most line (fails_at (is_number most) (words line) found word h (ap (is_number most) (sym is) ∙ e))

    next : take (found + 1) (words line) ≡ take found (words line) ++ (word ∷ [])
    next =
        ap (λ (n : ℕ). take n (words line)) (add-one found) ∙ take-suc (words line) found word h
        ∙ ap (λ (w : List ℕ). take found (words line) ++ (w ∷ [])) (sym is)

    module _ (e : is_number most word ≡ true) (l : found < length values) (v : ℤ) (same : v ≡ value word) where
      stored : take (found + 1) (set values found v) ≡ map value (take (found + 1) (words line))
      stored =
          ap (λ (n : ℕ). take n (set values found v)) (add-one found) ∙ take-suc-set values found v l
          ∙ (λ i. r.kept i ++ (same i ∷ [])) ∙ sym (map-append value (take found (words line)) (word ∷ [])) ∙ ap (map value) (sym next)

      pub one_more : Reading line most (found + 1) (set values found v)
      unfolding all
      one_more =
          record {
            good = ap (all (is_number most)) next ∙ all_append (is_number most) (take found (words line)) (word ∷ []) ∙ ap₂ (λ (p q : Bool). p && (q && true)) r.good e;
            kept = stored;
            within = omega (arith, length-set values found v);
          }

  -- at the end of the line
  module _ (h : found ≡ length (words line)) where
    pub too_few : found < length values → line_numbers (length values) most line ≡ none
    too_few l = other_count (length values) most line (λ e. omega (arith, e))

    pub all_read : length values ≤ found → line_numbers (length values) most line ≡ some values
    all_read l =
        let whole = take_all found (words line) (omega (arith, h)) in
        all_numbers (length values) most line (omega (arith, h, r.within)) (ap (all (is_number most)) (sym whole) ∙ r.good)
        ∙ ap some (ap (map value) (sym whole) ∙ sym r.kept ∙ take_all found values l)
