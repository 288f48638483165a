-- What was printed is read again.
use mathlib.Core.Bool.{Bool, ◌&&◌, cond, false, not, true}
use mathlib.Core.List.{List, [], ◌∷◌, ◌++◌, map}
use mathlib.Core.Option.{none, some}
use mathlib.Core.Path.{◌∙◌, ◌≡◌, ap, ap₂, refl, sym}
use Prim.Native.Nat.{◌%◌, ◌*◌, ◌+◌, ◌-◌, ◌/◌, ◌<◌, ◌≤◌, suc, ℕ}
use native.Mathlib.Omega.{arith}
use lib.Dec.{eqb}
use lib.IntN.{negsuc, neg_ℤ, pos, ℤ}
use lib.ListN.{length, length-append, length-map}
use borrow.Author.Tests.{le-leb, ltb-true, ne_eqb, not-true}
use Rattle.text.specs.Decimal.{decimal, digits, signed}
use Rattle.text.specs.Line.{all, is_digit, is_natural, is_negative, is_number, longer, minus, natural, number, space, value, value_after, words}
use Rattle.text.specs.RoundTrip.{LineAgain, NumberAgain, ValueAgain, is_short, printed}
use Rattle.text.proofs.DecimalLaws.{each_number, few_digits, more_digits, one_digit}
use Rattle.text.proofs.LineLaws.{digit_least, first_of, number_bare, number_behind, right_length, second_of, value_bare, value_behind}
use Rattle.text.proofs.WordLaws.{all_append, all_numbers}

-- ---- the digits of a number

digit_byte : (n : ℕ) → n < 10 → is_digit (48 + n) ≡ true
digit_byte n h = simp (le-leb 48 (48 + n) (omega arith), le-leb (48 + n) 57 (omega arith))

all_one : (byte : ℕ) → is_digit byte ≡ true → all is_digit (byte ∷ []) ≡ true
unfolding all
all_one byte e = ap (λ (p : Bool). p && true) e

pub all_are_digits : (n : ℕ) → all is_digit (digits n) ≡ true
all_are_digits = each_number (λ n. all is_digit (digits n) ≡ true)
    (λ n h. ap (all is_digit) (one_digit n h) ∙ all_one (48 + n) (digit_byte n h))
    (λ n h e. ap (all is_digit) (more_digits n h) ∙ all_append is_digit (digits (n / 10)) ((48 + n % 10) ∷ [])
    ∙ ap₂ ◌&&◌ e (all_one (48 + n % 10) (digit_byte (n % 10) (omega arith))))

value_snoc : (n : ℕ) (s : List ℕ) (digit : ℕ) → value_after n (s ++ (digit ∷ [])) ≡ value_after n s * 10 + (digit - 48)
unfolding value_after
value_snoc n [] digit = refl
value_snoc n (byte ∷ rest) digit = value_snoc (n * 10 + (byte - 48)) rest digit

value_one : (n : ℕ) → natural ((48 + n) ∷ []) ≡ n
unfolding value_after
value_one n = omega arith

pub natural_again : (n : ℕ) → natural (digits n) ≡ n
natural_again = each_number (λ n. natural (digits n) ≡ n)
    (λ n h. ap natural (one_digit n h) ∙ value_one n)
    (λ n h e. ap natural (more_digits n h) ∙ value_snoc 0 (digits (n / 10)) (48 + n % 10)
    ∙ ap (λ (m : ℕ). m * 10 + (48 + n % 10 - 48)) e ∙ joined n)
  where
    joined : (n : ℕ) → n / 10 * 10 + (48 + n % 10 - 48) ≡ n
    joined n = omega arith

some_digit : (n : ℕ) → 1 ≤ length (digits n)
some_digit = each_number (λ n. 1 ≤ length (digits n))
    (λ n h. omega (arith, ap length (one_digit n h)))
    (λ n h e. omega (arith, ap length (more_digits n h), length-append (digits (n / 10)) ((48 + n % 10) ∷ [])))

-- a digit is no sign
no_minus : (s : List ℕ) → all is_digit s ≡ true → is_negative s ≡ false
unfolding all is_negative
no_minus [] e = refl
no_minus (byte ∷ rest) e = ne_eqb byte minus (λ q. omega (arith, digit_least byte (first_of (is_digit byte) (all is_digit rest) e)))

no_minus_in : (n : ℕ) → is_negative (digits n) ≡ false
no_minus_in n = no_minus (digits n) (all_are_digits n)

minus_first : (s : List ℕ) → is_negative (minus ∷ s) ≡ true
unfolding is_negative
minus_first s = refl

-- ---- a number

pub value_again : ValueAgain
unfolding signed
value_again (pos n) = value_bare (digits n) (no_minus_in n) ∙ ap pos (natural_again n)
value_again (negsuc n) = value_behind (minus ∷ digits (suc n)) (minus_first (digits (suc n))) ∙ ap (λ (m : ℕ). neg_ℤ (pos m)) (natural_again (suc n))

natural_digits : (n : ℕ) → n < 1_000_000_000 → is_natural 9 (digits n) ≡ true
natural_digits n h = sym (right_length 9 (digits n) (some_digit n) (few_digits 8 n h)) ∙ all_are_digits n

is_number_again : (z : ℤ) → is_short z ≡ true → is_number 9 (decimal z) ≡ true
unfolding signed
is_number_again (pos n) e = number_bare (digits n) (no_minus_in n) 9 ∙ natural_digits n (ltb-true n 1_000_000_000 e)
is_number_again (negsuc n) e =
    number_behind (minus ∷ digits (suc n)) (minus_first (digits (suc n))) 9 ∙ natural_digits (suc n) (ltb-true (suc n) 1_000_000_000 e)

pub number_again : NumberAgain
unfolding number
number_again z e = ap₂ (λ (p : Bool) (v : ℤ). cond p (some v) none) (is_number_again z e) (value_again z)

-- ---- a line

-- a byte that is no space
abbrev is_inner : ℕ → Bool
is_inner byte = not (eqb byte space)

digits_inner : (s : List ℕ) → all is_digit s ≡ true → all is_inner s ≡ true
unfolding all
digits_inner [] e = refl
digits_inner (byte ∷ rest) e =
    ap₂ (λ (p q : Bool). not p && q)
    (ne_eqb byte space (λ q. omega (arith, digit_least byte (first_of (is_digit byte) (all is_digit rest) e))))
    (digits_inner rest (second_of (is_digit byte) (all is_digit rest) e))

decimal_inner : (z : ℤ) → all is_inner (decimal z) ≡ true
unfolding signed all
decimal_inner (pos n) = digits_inner (digits n) (all_are_digits n)
decimal_inner (negsuc n) = digits_inner (digits (suc n)) (all_are_digits (suc n))

-- a word with no space in it is the first one
word_first : (s rest : List ℕ) → all is_inner s ≡ true → words (s ++ space ∷ rest) ≡ s ∷ words rest
unfolding all words longer
word_first [] rest e = refl
word_first (byte ∷ s) rest e =
    ap₂ (λ (p : Bool) (list : List (List ℕ)). cond p ([] ∷ words (s ++ space ∷ rest)) (longer byte list))
    (not-true (eqb byte space) (first_of (is_inner byte) (all is_inner s) e)) (word_first s rest (second_of (is_inner byte) (all is_inner s) e))

word_only : (s : List ℕ) → all is_inner s ≡ true → words s ≡ s ∷ []
unfolding all words longer
word_only [] e = refl
word_only (byte ∷ s) e =
    ap₂ (λ (p : Bool) (list : List (List ℕ)). cond p ([] ∷ words s) (longer byte list))
    (not-true (eqb byte space) (first_of (is_inner byte) (all is_inner s) e)) (word_only s (second_of (is_inner byte) (all is_inner s) e))

words_again : (first : ℤ) (rest : List ℤ) → words (printed first rest) ≡ map decimal (first ∷ rest)
unfolding printed
words_again first [] = word_only (decimal first) (decimal_inner first)
words_again first (next ∷ rest) =
    word_first (decimal first) (printed next rest) (decimal_inner first) ∙ ap (λ (list : List (List ℕ)). decimal first ∷ list) (words_again next rest)

numbers_again : (list : List ℤ) → all is_short list ≡ true → all (is_number 9) (map decimal list) ≡ true
unfolding all
numbers_again [] e = refl
numbers_again (z ∷ rest) e =
    ap₂ ◌&&◌ (is_number_again z (first_of (is_short z) (all is_short rest) e)) (numbers_again rest (second_of (is_short z) (all is_short rest) e))

values_again : (list : List ℤ) → map value (map decimal list) ≡ list
values_again [] = refl
values_again (z ∷ rest) = ap₂ ◌∷◌ (value_again z) (values_again rest)

pub line_again : LineAgain
line_again first rest e =
    let line = printed first rest in
    all_numbers (length (first ∷ rest)) 9 line
    (ap length (words_again first rest) ∙ length-map (first ∷ rest) decimal)
    (ap (all (is_number 9)) (words_again first rest) ∙ numbers_again (first ∷ rest) e)
    ∙ ap some (ap (map value) (words_again first rest) ∙ values_again (first ∷ rest))
