-- A line from a place on: its first byte, its first word, the value of its digits.
use mathlib.Core.Bool.{Bool, ◌&&◌, cond, false, true}
use mathlib.Core.List.{List, [], ◌∷◌}
use mathlib.Core.Option.{none}
use mathlib.Core.Path.{◌∙◌, ◌≡◌, ap, refl, subst, subst⁻¹, sym}
use Prim.Native.Nat.{◌*◌, ◌+◌, ◌-◌, ◌<◌, ◌^◌, ◌≤◌, ℕ}
use native.Mathlib.Nat.{le_refl, le_trans, lt_of_lt_of_le, mul_assoc, mul-le-mul_right, pow-le-pow_right, pow-succ'}
use native.Mathlib.Numerals.{add-one}
use native.Mathlib.Omega.{arith}
use lib.Dec.{T, eqb, leb}
use lib.IntN.{neg_ℤ, pos}
use lib.ListN.{drop, drop_of_length-le, get_or, length, length-drop, take}
use lib.Seq.{drop-cons, take_all}
use borrow.Author.Tests.{le-leb, leb-true, lt-leb}
use Rattle.text.specs.Line.{all, begins, is_digit, is_natural, is_negative, is_number, line_numbers, natural, sheet_numbers, value, value_after}

-- both of two tests
pub first_of : (a b : Bool) → (a && b) ≡ true → a ≡ true
first_of true b e = refl
first_of false b e = e

pub second_of : (a b : Bool) → (a && b) ≡ true → b ≡ true
second_of true b e = e
second_of false b e = absurd (subst T (sym e) tt)

module _ (s : List ℕ) (i : ℕ) (h : i < length s) where
  pub at_place : drop i s ≡ get_or s i 0 ∷ drop (i + 1) s
  at_place = drop-cons s i 0 h ∙ ap (λ (n : ℕ). get_or s i 0 ∷ drop n s) (sym (add-one i))

  all_at : (test : ℕ → Bool) → all test (drop i s) ≡ (test (get_or s i 0) && all test (drop (i + 1) s))
  unfolding all
  all_at test = ap (all test) at_place

  pub all_fails : (test : ℕ → Bool) → test (get_or s i 0) ≡ false → all test (drop i s) ≡ false
  all_fails test e = all_at test ∙ ap (λ (p : Bool). p && all test (drop (i + 1) s)) e

  pub all_goes_on : (test : ℕ → Bool) → test (get_or s i 0) ≡ true → all test (drop i s) ≡ all test (drop (i + 1) s)
  all_goes_on test e = all_at test ∙ ap (λ (p : Bool). p && all test (drop (i + 1) s)) e

  -- what is known of the rest, where all of it passes
  pub passes_here : (test : ℕ → Bool) → all test (drop i s) ≡ true → test (get_or s i 0) ≡ true
  passes_here test e = first_of (test (get_or s i 0)) (all test (drop (i + 1) s)) (sym (all_at test) ∙ e)

  pub passes_after : (test : ℕ → Bool) → all test (drop i s) ≡ true → all test (drop (i + 1) s) ≡ true
  passes_after test e = second_of (test (get_or s i 0)) (all test (drop (i + 1) s)) (sym (all_at test) ∙ e)

  pub value_at : (n : ℕ) → value_after n (drop i s) ≡ value_after (n * 10 + (get_or s i 0 - 48)) (drop (i + 1) s)
  unfolding value_after
  value_at n = ap (value_after n) at_place

-- a slice from a place to the end
pub to_end : (s : List ℕ) (i : ℕ) → take (length s - i) (drop i s) ≡ drop i s
to_end s i = take_all (length s - i) (drop i s) (simp length-drop (le_refl (length s - i)))

-- past the end
module _ (s : List ℕ) (i : ℕ) (h : length s ≤ i) where
  pub all_over : (test : ℕ → Bool) → all test (drop i s) ≡ true
  unfolding all
  all_over test = ap (all test) (drop_of_length-le s h)

  pub value_over : (n : ℕ) → value_after n (drop i s) ≡ n
  unfolding value_after
  value_over n = ap (value_after n) (drop_of_length-le s h)

-- the first bytes
pub begins_within : (first line : List ℕ) → begins first line ≡ true → length first ≤ length line
unfolding begins
begins_within [] line e = omega arith
begins_within (byte ∷ rest) [] e = absurd (subst⁻¹ T e tt)
begins_within (byte ∷ rest) (other ∷ line) e = omega (arith, begins_within rest line (second_of (eqb byte other) (begins rest line) e))

pub digit_least : (byte : ℕ) → is_digit byte ≡ true → 48 ≤ byte
digit_least byte e = leb-true 48 byte (first_of (leb 48 byte) (leb byte 57) e)

pub digit_most : (byte : ℕ) → is_digit byte ≡ true → byte ≤ 57
digit_most byte e = leb-true byte 57 (second_of (leb 48 byte) (leb byte 57) e)

-- more digits make no number smaller
pub value_grows : (n : ℕ) (s : List ℕ) → n ≤ value_after n s
unfolding value_after
value_grows n [] = le_refl n
value_grows n (digit ∷ rest) = le_trans (omega arith) (value_grows (n * 10 + (digit - 48)) rest)

value_below : (n : ℕ) (s : List ℕ) → all is_digit s ≡ true → value_after n s < (n + 1) * 10 ^ length s
unfolding value_after all
value_below n [] e = omega arith
value_below n (digit ∷ rest) e =
    let k = 10 ^ length rest in
    let high : digit ≤ 57 = digit_most digit (first_of (is_digit digit) (all is_digit rest) e) in
    let next : (n * 10 + (digit - 48) + 1) * k ≤ (n + 1) * 10 * k = mul-le-mul_right k (omega arith) in
    lt_of_lt_of_le (value_below (n * 10 + (digit - 48)) rest (second_of (is_digit digit) (all is_digit rest) e))
    (subst (λ (m : ℕ). (n * 10 + (digit - 48) + 1) * k ≤ m) (mul_assoc (n + 1) 10 k ∙ ap (λ (p : ℕ). (n + 1) * p) (sym (pow-succ' 10 (length rest)))) next)

module _ (most : ℕ) (s : List ℕ) (e : is_natural most s ≡ true) where
  abbrev few : Bool
  few = leb (length s) most

  no_more : (few && all is_digit s) ≡ true
  unfolding is_natural
  no_more = second_of (leb 1 (length s)) (few && all is_digit s) e

  pub few_digits : length s ≤ most
  few_digits = leb-true (length s) most (first_of few (all is_digit s) no_more)

  pub all_digits : all is_digit s ≡ true
  all_digits = second_of few (all is_digit s) no_more

-- 1 digit, up to the most, test by test
module _ (most : ℕ) (s : List ℕ) where
  pub too_short : length s < 1 → false ≡ is_natural most s
  unfolding is_natural
  too_short h = simp (lt-leb 1 (length s) h)

  pub too_long : 1 ≤ length s → most < length s → false ≡ is_natural most s
  unfolding is_natural
  too_long l h = simp (le-leb 1 (length s) l, lt-leb (length s) most h)

  pub right_length : 1 ≤ length s → length s ≤ most → all is_digit s ≡ is_natural most s
  unfolding is_natural
  right_length l h = simp (le-leb 1 (length s) l, le-leb (length s) most h)

some_digit : (most : ℕ) (s : List ℕ) → is_natural most s ≡ true → 1 ≤ length s
unfolding is_natural
some_digit most s e = leb-true 1 (length s) (first_of (leb 1 (length s)) (leb (length s) most && all is_digit s) e)

pub natural_below : (s : List ℕ) → is_natural 10 s ≡ true → natural s < 10_000_000_000
natural_below s e =
    let most : 10 ^ length s ≤ 10 ^ 10 = pow-le-pow_right (omega arith) (few_digits 10 s e) in
    omega (arith, value_below 0 s (all_digits 10 s e))

-- what is a number stays one where more digits are allowed
module _ (few most : ℕ) (h : few ≤ most) where
  natural_wider : (s : List ℕ) → is_natural few s ≡ true → is_natural most s ≡ true
  natural_wider s e = sym (right_length most s (some_digit few s e) (omega (arith, few_digits few s e))) ∙ all_digits few s e

  pub number_wider : (s : List ℕ) → is_number few s ≡ true → is_number most s ≡ true
  unfolding is_number
  number_wider s = by_sign (is_negative s)
    where
      by_sign : (p : Bool) → cond p (is_natural few (drop 1 s)) (is_natural few s) ≡ true → cond p (is_natural most (drop 1 s)) (is_natural most s) ≡ true
      by_sign true = natural_wider (drop 1 s)
      by_sign false = natural_wider s

-- a number by its sign
module _ (s : List ℕ) (e : is_negative s ≡ true) where
  pub number_behind : (most : ℕ) → is_number most s ≡ is_natural most (drop 1 s)
  unfolding is_number
  number_behind most = ap (λ (p : Bool). cond p (is_natural most (drop 1 s)) (is_natural most s)) e

  pub value_behind : value s ≡ neg_ℤ (pos (natural (drop 1 s)))
  unfolding value
  value_behind = ap (λ (p : Bool). cond p (neg_ℤ (pos (natural (drop 1 s)))) (pos (natural s))) e

module _ (s : List ℕ) (e : is_negative s ≡ false) where
  pub number_bare : (most : ℕ) → is_number most s ≡ is_natural most s
  unfolding is_number
  number_bare most = ap (λ (p : Bool). cond p (is_natural most (drop 1 s)) (is_natural most s)) e

  pub value_bare : value s ≡ pos (natural s)
  unfolding value
  value_bare = ap (λ (p : Bool). cond p (neg_ℤ (pos (natural (drop 1 s)))) (pos (natural s))) e

-- the sheet's limit
module _ (line : List ℕ) where
  pub too_long_line : 80 < length line → sheet_numbers line ≡ none
  unfolding sheet_numbers
  too_long_line h = simp (lt-leb (length line) 80 h)

  pub no_longer : length line ≤ 80 → sheet_numbers line ≡ line_numbers 9 9 line
  unfolding sheet_numbers
  no_longer h = simp (le-leb (length line) 80 h)
