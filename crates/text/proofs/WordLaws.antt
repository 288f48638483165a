-- The words of a line, one after the other.
use mathlib.Core.Bool.{Bool, ◌&&◌, cond, false, true}
use mathlib.Core.List.{List, [], ◌∷◌, ◌++◌, map}
use mathlib.Core.Option.{Option, none, some}
use mathlib.Core.Path.{◌∙◌, ◌≡◌, ap, refl, sym}
use Prim.Native.Nat.{◌*◌, ◌+◌, ◌<◌, ◌≤◌, suc, ℕ}
use native.Mathlib.Nat.{not-suc-le-zero}
use native.Mathlib.Omega.{arith}
use lib.Dec.{eqb}
use lib.IntN.{ℤ}
use lib.ListN.{drop, length, length-drop}
use borrow.Author.Tests.{eq-eqb, ne_eqb}
use Rattle.text.specs.Line.{all, is_negative, is_number, line_numbers, longer, numbers, space, value, words}
use Rattle.text.proofs.LineLaws.{few_digits, first_of, number_bare, number_behind, second_of}

pub all_append : {A : Type 0} (test : A → Bool) (xs ys : List A) → all test (xs ++ ys) ≡ (all test xs && all test ys)
unfolding all
all_append test [] ys = refl
all_append test (x ∷ xs) ys = ap (λ (p : Bool). test x && p) (all_append test xs ys) ∙ sym (and_assoc (test x) (all test xs) (all test ys))
  where
    and_assoc : (a b c : Bool) → ((a && b) && c) ≡ (a && (b && c))
    and_assoc true b c = refl
    and_assoc false b c = refl

-- the numbers of a line, case by case
module _ (count most : ℕ) (s : List ℕ) where
  pub other_count : (length (words s) ≡ count → ⊥) → line_numbers count most s ≡ none
  unfolding line_numbers
  other_count h = simp (ne_eqb (length (words s)) count h)

  pub other_word : all (is_number most) (words s) ≡ false → line_numbers count most s ≡ none
  unfolding line_numbers numbers
  other_word e =
      ap (λ (p : Bool). cond (eqb (length (words s)) count) (cond p (some (map value (words s))) none) none) e
      ∙ either (eqb (length (words s)) count)
    where
      either : (p : Bool) → ◌≡◌ {A = Option (List ℤ)} (cond p none none) none
      either true = refl
      either false = refl

  pub all_numbers : length (words s) ≡ count → all (is_number most) (words s) ≡ true → line_numbers count most s ≡ some (map value (words s))
  unfolding line_numbers numbers
  all_numbers h e = simp (eq-eqb (length (words s)) count h, e)

-- ---- no line of twelve numbers is longer than 143 bytes

-- the bytes of the words, and one more for each
unfoldable bytes_in : List (List ℕ) → ℕ
bytes_in [] = 0
bytes_in (word ∷ rest) = suc (length word + bytes_in rest)

longer_bytes : (byte : ℕ) (list : List (List ℕ)) → 0 < bytes_in list → bytes_in (longer byte list) ≡ suc (bytes_in list)
unfolding bytes_in longer
longer_bytes byte [] h = absurd (not-suc-le-zero h)
longer_bytes byte (word ∷ rest) h = omega arith

words_bytes : (s : List ℕ) → bytes_in (words s) ≡ suc (length s)
unfolding bytes_in words
words_bytes [] = refl
words_bytes (byte ∷ rest) = by_test (eqb byte space) (words_bytes rest)
  where
    by_test : (p : Bool) → bytes_in (words rest) ≡ suc (length rest) → bytes_in (cond p ([] ∷ words rest) (longer byte (words rest))) ≡ suc (suc (length rest))
    by_test true e = omega (arith, e)
    by_test false e = longer_bytes byte (words rest) (omega (arith, e)) ∙ ap suc e

number_most : (s : List ℕ) → is_number 10 s ≡ true → length s ≤ 11
number_most s e = by_sign (is_negative s) refl
  where
    by_sign : (p : Bool) → is_negative s ≡ p → length s ≤ 11
    by_sign true n = omega (arith, few_digits 10 (drop 1 s) (sym (number_behind s n 10) ∙ e), length-drop 1 s)
    by_sign false n = omega (arith, few_digits 10 s (sym (number_bare s n 10) ∙ e))

numbers_most : (list : List (List ℕ)) → all (is_number 10) list ≡ true → bytes_in list ≤ 12 * length list
unfolding bytes_in all
numbers_most [] e = omega arith
numbers_most (word ∷ rest) e =
    omega (
      arith,
      number_most word (first_of (is_number 10 word) (all (is_number 10) rest) e),
      numbers_most rest (second_of (is_number 10 word) (all (is_number 10) rest) e),
    )

pub long_line : (count : ℕ) → count ≤ 12 → (s : List ℕ) → 143 < length s → line_numbers count 10 s ≡ none
long_line count few s h = by_test (all (is_number 10) (words s)) refl
  where
    by_test : (p : Bool) → all (is_number 10) (words s) ≡ p → line_numbers count 10 s ≡ none
    by_test true e = other_count count 10 s (λ n. omega (arith, numbers_most (words s) e, words_bytes s, n))
    by_test false e = other_word count 10 s e
