-- Digits of a number.
use mathlib.Core.Bool.{Bool, false, true}
use mathlib.Core.List.{List, [], ◌∷◌, ◌++◌, append_assoc}
use mathlib.Core.Path.{◌∙◌, ◌≡◌, ap, refl, subst}
use Prim.Native.Nat.{◌%◌, ◌+◌, ◌-◌, ◌/◌, ◌<◌, ◌^◌, ◌≤◌, suc, zero, ℕ}
use native.Mathlib.Nat.{div-lt_iff_lt-mul, not-suc-le-zero, pow-suc}
use native.Mathlib.Numerals.{add-one}
use native.Mathlib.Omega.{arith}
use lib.Dec.{ltb, ltb→lt}
use lib.IntN.{nat_abs, negsuc, pos, ℤ}
use lib.ListN.{length, length-append}
use lib.Signed.{◌<ℤ◌, ◌≤ℤ◌}
use borrow.Author.Tests.{le-ltb, lt-ltb, ltb-false, ltb-true}
use Rattle.text.specs.Decimal.{decimal, decimals, digits, last_digits, padded, point, sign, signed, with_point}
use Rattle.text.specs.Line.{minus}

-- ---- digits

-- more room for digits changes nothing
enough : (k j n : ℕ) → n < k → n < j → last_digits k n ≡ last_digits j n
unfolding last_digits
enough zero j n h l = absurd (not-suc-le-zero h)
enough (suc k) zero n h l = absurd (not-suc-le-zero l)
enough (suc k) (suc j) n h l = by_test (ltb n 10) refl (λ m. enough k j (n / 10) (omega arith) (omega arith))
  where
    by_test : (p : Bool) → ltb n 10 ≡ p → (10 ≤ n → last_digits k (n / 10) ≡ last_digits j (n / 10)) → last_digits (suc k) n ≡ last_digits (suc j) n
    by_test true e same = simp e
    by_test false e same = simp (e, same (ltb-false n 10 e))

module _ (n : ℕ) where
  pub one_digit : n < 10 → digits n ≡ (48 + n) ∷ []
  unfolding digits last_digits
  one_digit h = simp (lt-ltb n 10 h)

  pub more_digits : 10 ≤ n → digits n ≡ digits (n / 10) ++ ((48 + n % 10) ∷ [])
  unfolding digits last_digits
  more_digits h = simp (le-ltb n 10 h) (ap (λ (s : List ℕ). s ++ ((48 + n % 10) ∷ [])) (enough n (suc (n / 10)) (n / 10) (omega arith) (omega arith)))

  pub last_digit : n < 10 → digits n ≡ (48 + n % 10) ∷ []
  last_digit h = one_digit h ∙ ap (λ (m : ℕ). (48 + m) ∷ []) (omega arith)

-- what holds of one digit, and with one digit more, holds of every number
by_digits : (P : ℕ → Type 0) → ((n : ℕ) → n < 10 → P n) → ((n : ℕ) → 10 ≤ n → P (n / 10) → P n) → (k n : ℕ) → n < k → P n
by_digits P one more zero n h = absurd (not-suc-le-zero h)
by_digits P one more (suc k) n h = by_test (ltb n 10) refl (λ l. by_digits P one more k (n / 10) (omega arith))
  where
    by_test : (p : Bool) → ltb n 10 ≡ p → (10 ≤ n → P (n / 10)) → P n
    by_test true e before = one n (ltb-true n 10 e)
    by_test false e before = more n (ltb-false n 10 e) (before (ltb-false n 10 e))

pub each_number : (P : ℕ → Type 0) → ((n : ℕ) → n < 10 → P n) → ((n : ℕ) → 10 ≤ n → P (n / 10) → P n) → (n : ℕ) → P n
each_number P one more n = by_digits P one more (suc n) n (omega arith)

-- a number below a power of ten has no more digits than it has zeros
pub few_digits : (k n : ℕ) → n < 10 ^ suc k → length (digits n) ≤ suc k
few_digits zero n h = omega (arith, ap length (one_digit n (omega arith)))
few_digits (suc k) n h = by_test (ltb n 10) refl (few_digits k (n / 10) ((div-lt_iff_lt-mul (omega arith)).1 (subst (λ (m : ℕ). n < m) (pow-suc 10 (suc k)) h)))
  where
    by_test : (p : Bool) → ltb n 10 ≡ p → length (digits (n / 10)) ≤ suc k → length (digits n) ≤ suc (suc k)
    by_test true e before = omega (arith, ap length (one_digit n (ltb-true n 10 e)))
    by_test false e before = omega (arith, ap length (more_digits n (ltb-false n 10 e)), length-append (digits (n / 10)) ((48 + n % 10) ∷ []))

pub padded_length : (count n : ℕ) → length (padded count n) ≡ count
unfolding padded
padded_length zero n = refl
padded_length (suc count) n =
    length-append (padded count (n / 10)) ((48 + n % 10) ∷ []) ∙ ap (λ (k : ℕ). k + 1) (padded_length count (n / 10)) ∙ add-one count

-- one digit more at the end
pub padded_more : (count n : ℕ) → 0 < count → padded (count - 1) (n / 10) ++ ((48 + n % 10) ∷ []) ≡ padded count n
unfolding padded
padded_more zero n h = absurd (not-suc-le-zero h)
padded_more (suc count) n h =
    let same : suc count - 1 ≡ count = omega arith in
    ap (λ (k : ℕ). padded k (n / 10) ++ ((48 + n % 10) ∷ [])) same

-- ---- the sign

pub no_sign : {z : ℤ} → pos 0 ≤ℤ z → sign z ≡ []
unfolding sign
no_sign {z = pos n} h = refl
no_sign {z = negsuc n} h = absurd h.le

pub sign_below : {z : ℤ} → z <ℤ pos 0 → sign z ≡ minus ∷ []
unfolding sign
sign_below {z = pos n} h = absurd (not-suc-le-zero (ltb→lt n 0 h.lt))
sign_below {z = negsuc n} h = refl

sign_and_size : (text : ℕ → List ℕ) (z : ℤ) → sign z ++ text (nat_abs z) ≡ signed text z
unfolding sign signed
sign_and_size text (pos n) = refl
sign_and_size text (negsuc n) = refl

pub sign_most : (z : ℤ) → length (sign z) ≤ 1
unfolding sign
sign_most (pos n) = omega arith
sign_most (negsuc n) = omega arith

-- a size behind the sign
pub size_behind : (text : ℕ → List ℕ) (before : List ℕ) (z : ℤ) (n : ℕ) → n ≡ nat_abs z → before ++ sign z ++ text n ≡ before ++ signed text z
size_behind text before z n is =
    append_assoc before (sign z) (text n) ∙ ap (λ (s : List ℕ). before ++ s) (ap (λ (m : ℕ). sign z ++ text m) is ∙ sign_and_size text z)

-- any number of 64 bits has 20 bytes at most
pub decimal_short : (z : ℤ) → nat_abs z < 10 ^ 19 → length (decimal z) ≤ 20
unfolding signed
decimal_short (pos n) h = omega (arith, few_digits 18 n h)
decimal_short (negsuc n) h = omega (arith, few_digits 18 (suc n) h)

-- units of 10⁻⁸ have 12 digits before the point at most, and 22 bytes with a sign
pub point_most : (n : ℕ) → n < 2 ^ 64 → length (with_point n) ≤ 21
unfolding with_point
point_most n h =
    omega (arith, length-append (digits (n / 100_000_000)) (point ∷ padded 8 n), padded_length 8 n, few_digits 11 (n / 100_000_000) (omega arith))

pub decimals_short : (z : ℤ) → nat_abs z < 2 ^ 64 → length (decimals z) ≤ 22
unfolding signed
decimals_short (pos n) h = omega (arith, point_most n h)
decimals_short (negsuc n) h = omega (arith, point_most (suc n) h)
