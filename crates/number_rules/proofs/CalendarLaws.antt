-- The Gregorian calendar in closed form, as the code computes it.
use mathlib.Core.Bool.{Bool, ◌&&◌, ◌||◌, cond, false, not, true}
use mathlib.Core.Path.{◌∙◌, ◌≡◌, ap, refl, subst, subst⁻¹, sym}
use Prim.Native.Nat.{◌%◌, ◌*◌, ◌+◌, ◌-◌, ◌/◌, ◌<◌, ◌≤◌, suc, zero, ℕ}
use native.Mathlib.Decide.{ℕ_discrete}
use native.Mathlib.Nat.{le_refl, suc-add, zero-add}
use native.Mathlib.Omega.{arith}
use lib.Dec.{T, eqb, eqb→eq, leb, leb→le, le→leb, lit≤, lt→ltb}
use lib.IntN.{nat_abs, negsuc, pos, ℤ}
use lib.Signed.{◌<ℤ◌, ◌≤ℤ◌, le_z, le_z_yes, lt_z_yes}
use mir.Facts.{and_yes}
use borrow.Author.Tests.{eqb-false, eqb-true, ne_eqb}
use Rattle.arithmetic.proofs.Difference.{#◌, ◌⊟ℤ◌, by_le, ⟨◌⟩}
use Rattle.number_rules.specs.Calendar.{DayAnswer, day_count, day_number, days_from_2000, days_to_month, days_to_year, leap, month_length, year_length}
use Rattle.arithmetic.proofs.Sizes.{at_least, at_most}

-- a test of every number below n, and what it tells of each
all : ℕ → (ℕ → Bool) → Bool
all zero p = true
all (suc n) p = p n && all n p

all_at : (n : ℕ) (p : ℕ → Bool) → T (all n p) → (k : ℕ) → k < n → T (p k)
unfolding all
all_at zero p t k h = absurd (omega arith)
all_at (suc n) p t k h = next (ℕ_discrete k n) (λ l. all_at n p (and_yes (p n) (all n p) t).1 k l)
  where
    next : Dec (k ≡ n) → (k < n → T (p k)) → T (p k)
    next (yes e) f = subst (λ (j : ℕ). T (p j)) (sym e) (and_yes (p n) (all n p) t).0
    next (no g) f = f (omega arith)

-- the numbers of months that the code computes: whether the year is leap, and a month of 0 to 12
length_by : Bool → ℕ → ℕ
length_by l m = cond (eqb m 2) (cond l 29 28) (30 + (m + m / 8) % 2)

before_by : Bool → ℕ → ℕ
before_by l m = cond (leb m 2) ((367 * m - 362) / 12) (cond l ((367 * m - 362) / 12 - 1) ((367 * m - 362) / 12 - 2))

length_of : Bool → ℕ → ℕ
length_of l m = cond (eqb m 2) (cond l 29 28) (cond (eqb m 4 || (eqb m 6 || (eqb m 9 || eqb m 11))) 30 31)

to_month : Bool → ℕ → ℕ
to_month l zero = 0
to_month l (suc zero) = 0
to_month l (suc (suc m)) = to_month l (suc m) + length_of l (suc m)

same_to_month : (y m : ℕ) → days_to_month y m ≡ to_month (leap y) m
unfolding days_to_month to_month month_length length_of
same_to_month y zero = refl
same_to_month y (suc zero) = refl
same_to_month y (suc (suc m)) = ap (λ (n : ℕ). n + length_of (leap y) (suc m)) (same_to_month y (suc m))

right : Bool → ℕ → Bool
right l m = eqb m 0 || (eqb (length_of l m) (length_by l m) && eqb (to_month l m) (before_by l m))

all_right : (l : Bool) → T (all 13 (right l))
unfolding all right length_of length_by to_month before_by
all_right true = tt
all_right false = tt

or_right : (a b : Bool) → a ≡ false → T (a || b) → T b
or_right true b e t = absurd (subst T e tt)
or_right false b e t = t

module _ (y m : ℕ) (h : 1 ≤ m) (k : m ≤ 12) where
  both : T (eqb (length_of (leap y) m) (length_by (leap y) m) && eqb (to_month (leap y) m) (before_by (leap y) m))
  unfolding right
  both = or_right (eqb m 0) _ (ne_eqb m 0 (omega arith)) (all_at 13 (right (leap y)) (all_right (leap y)) m (omega arith))

  pub month_length_by : month_length y m ≡ cond (eqb m 2) (cond (leap y) 29 28) (30 + (m + m / 8) % 2)
  unfolding month_length length_of length_by
  month_length_by =
      eqb→eq (length_of (leap y) m) (length_by (leap y) m)
      (and_yes (eqb (length_of (leap y) m) (length_by (leap y) m)) (eqb (to_month (leap y) m) (before_by (leap y) m)) both).0

  pub days_to_month_by : days_to_month y m ≡ cond (leb m 2) ((367 * m - 362) / 12) (cond (leap y) ((367 * m - 362) / 12 - 1) ((367 * m - 362) / 12 - 2))
  unfolding before_by
  days_to_month_by =
      same_to_month y m
      ∙ eqb→eq (to_month (leap y) m) (before_by (leap y) m)
      (and_yes (eqb (length_of (leap y) m) (length_by (leap y) m)) (eqb (to_month (leap y) m) (before_by (leap y) m)) both).1

-- the years: how the count of multiples of d up to y grows
module _ (y : ℕ) where
  by_4 : (b : Bool) → eqb (y % 4) 0 ≡ b → (suc y + 3) / 4 ≡ (y + 3) / 4 + cond b 1 0
  by_4 true e = let h = eqb-true (y % 4) 0 e in omega arith
  by_4 false e = let h = eqb-false (y % 4) 0 e in omega arith

  by_100 : (b : Bool) → eqb (y % 100) 0 ≡ b → (suc y + 99) / 100 ≡ (y + 99) / 100 + cond b 1 0
  by_100 true e = let h = eqb-true (y % 100) 0 e in omega arith
  by_100 false e = let h = eqb-false (y % 100) 0 e in omega arith

  by_400 : (b : Bool) → eqb (y % 400) 0 ≡ b → (suc y + 399) / 400 ≡ (y + 399) / 400 + cond b 1 0
  by_400 true e = let h = eqb-true (y % 400) 0 e in omega arith
  by_400 false e = let h = eqb-false (y % 400) 0 e in omega arith

  hundreds : y % 400 ≡ 0 → y % 100 ≡ 0
  hundreds h = omega arith

  fours : y % 100 ≡ 0 → y % 4 ≡ 0
  fours h = omega arith

  few : (y + 99) / 100 ≤ y
  few = omega arith

years_formula : ℕ → ℕ
years_formula y = 365 * y + (y + 3) / 4 + (y + 399) / 400 - (y + 99) / 100

-- the three counts as unknowns
joined : (y a b c a' b' c' i j k l : ℕ) → a' ≡ a + i → b' ≡ b + j → c' ≡ c + k → b ≤ y → l + j ≡ 365 + i + k → 365 * y + a + c - b + l ≡ 365 * suc y + a' + c' - b'
joined y a b c a' b' c' i j k l p q r s t = omega arith

year_step : (y : ℕ) → years_formula y + year_length y ≡ years_formula (suc y)
unfolding years_formula year_length leap
year_step y = go (eqb (y % 400) 0) (eqb (y % 100) 0) (eqb (y % 4) 0) refl refl refl
  where
    go : (a b c : Bool) → eqb (y % 400) 0 ≡ a → eqb (y % 100) 0 ≡ b → eqb (y % 4) 0 ≡ c → years_formula y + cond (a || (not b && c)) 366 365 ≡ years_formula (suc y)
    go true true true p q r = joined y _ _ _ _ _ _ 1 1 1 366 (by_4 y true r) (by_100 y true q) (by_400 y true p) (few y) (omega arith)
    go true true false p q r = absurd (eqb-false (y % 4) 0 r (fours y (eqb-true (y % 100) 0 q)))
    go true false c p q r = absurd (eqb-false (y % 100) 0 q (hundreds y (eqb-true (y % 400) 0 p)))
    go false true true p q r = joined y _ _ _ _ _ _ 1 1 0 365 (by_4 y true r) (by_100 y true q) (by_400 y false p) (few y) (omega arith)
    go false true false p q r = absurd (eqb-false (y % 4) 0 r (fours y (eqb-true (y % 100) 0 q)))
    go false false true p q r = joined y _ _ _ _ _ _ 1 0 0 366 (by_4 y true r) (by_100 y false q) (by_400 y false p) (few y) (omega arith)
    go false false false p q r = joined y _ _ _ _ _ _ 0 0 0 365 (by_4 y false r) (by_100 y false q) (by_400 y false p) (few y) (omega arith)

pub years_by : (y : ℕ) → days_to_year y ≡ 365 * y + (y + 3) / 4 + (y + 399) / 400 - (y + 99) / 100
unfolding days_to_year years_formula
years_by zero = refl
years_by (suc y) = ap (λ (n : ℕ). n + year_length y) (years_by y) ∙ year_step y

-- ---- how large they are
cond_le : (b : Bool) (x y : ℕ) {m : ℕ} → x ≤ m → y ≤ m → cond b x y ≤ m
cond_le true x y h k = h
cond_le false x y h k = k

pub length_most : (y m : ℕ) → month_length y m ≤ 31
unfolding month_length
length_most y m =
    cond_le (eqb m 2) (cond (leap y) 29 28) (cond (eqb m 4 || (eqb m 6 || (eqb m 9 || eqb m 11))) 30 31) (cond_le (leap y) 29 28 (lit≤ tt) (lit≤ tt))
    (cond_le (eqb m 4 || (eqb m 6 || (eqb m 9 || eqb m 11))) 30 31 (lit≤ tt) (lit≤ tt))

pub month_most : (y m : ℕ) → 1 ≤ m → m ≤ 12 → days_to_month y m ≤ 336
month_most y m h k =
    let n = (367 * m - 362) / 12 in
    rw (days_to_month_by y m h k)
    (cond_le (leb m 2) n (cond (leap y) (n - 1) (n - 2)) (omega arith) (cond_le (leap y) (n - 1) (n - 2) (omega arith) (omega arith)))

pub year_most : (y : ℕ) → y ≤ 10000 → days_to_year y ≤ 3660000
year_most y h = omega (arith, years_by y)

pub epoch : day_number 2000 1 1 ≡ 730486
unfolding day_number days_to_year days_to_month month_length year_length leap
epoch = refl

-- a day against the month's length
pub day_high : {z : ℤ} {j n : ℕ} → pos j ≤ℤ z → n < nat_abs z → pos n <ℤ z
day_high {z = pos k} {j} {n} h l = lt_z_yes (lt→ltb n k l)
day_high {z = negsuc k} h l = absurd h.le

pub day_low : {z : ℤ} {j n : ℕ} → pos j ≤ℤ z → nat_abs z ≤ n → z ≤ℤ pos n
day_low {z = pos k} {j} {n} h l = le_z_yes (le→leb k n l)
day_low {z = negsuc k} h l = absurd h.le

-- ---- the days that are accepted lie from 1900-01-01 to 2100-12-31
fits_year : Bool → ℕ → Bool
fits_year l m = leb (to_month l m + length_of l m) (cond l 366 365)

all_fit : (l : Bool) → T (all 13 (fits_year l))
unfolding all fits_year length_of to_month
all_fit true = tt
all_fit false = tt

month_in_year : (y m : ℕ) → m ≤ 12 → days_to_month y m + month_length y m ≤ year_length y
unfolding fits_year month_length length_of year_length
month_in_year y m h =
    subst (λ (n : ℕ). n + length_of (leap y) m ≤ cond (leap y) 366 365) (sym (same_to_month y m))
    (leb→le (to_month (leap y) m + length_of (leap y) m) (cond (leap y) 366 365) (all_at 13 (fits_year (leap y)) (all_fit (leap y)) m (omega arith)))

years_grow : (k y : ℕ) → days_to_year y ≤ days_to_year (k + y)
unfolding days_to_year
years_grow zero y = subst (λ (z : ℕ). days_to_year y ≤ days_to_year z) (sym (zero-add y)) (le_refl (days_to_year y))
years_grow (suc k) y = subst (λ (z : ℕ). days_to_year y ≤ days_to_year z) (sym (suc-add k y)) (omega (arith, years_grow k y))

years_order : {y z : ℕ} → y ≤ z → days_to_year y ≤ days_to_year z
years_order {y} {z} h = subst (λ (x : ℕ). days_to_year y ≤ days_to_year x) (back y z h) (years_grow (z - y) y)
  where
    back : (y z : ℕ) → y ≤ z → z - y + y ≡ z
    back y z h = omega arith

next_year : (y : ℕ) → days_to_year (suc y) ≡ days_to_year y + year_length y
unfolding days_to_year
next_year y = refl

to_1900 : days_to_year 1900 ≡ 693_961
unfolding days_to_year year_length leap
to_1900 = refl

to_2101 : days_to_year 2101 ≡ 767_375
unfolding days_to_year year_length leap
to_2101 = refl

module _ (y m d : ℕ) (y₁ : 1900 ≤ y) (y₂ : y ≤ 2100) (m₂ : m ≤ 12) (d₁ : 1 ≤ d) (d₂ : d ≤ month_length y m) where
  day_from : 693_962 ≤ day_number y m d
  unfolding day_number
  day_from = omega (arith, years_order y₁, to_1900, d₁)

  day_to : day_number y m d ≤ 767_375
  unfolding day_number
  day_to = omega (arith, years_order {y = suc y} {z = 2101} (omega arith), next_year y, to_2101, month_in_year y m m₂, d₂)

  in_range : (negsuc 36_523 ≤ℤ days_from_2000 y m d) × (days_from_2000 y m d ≤ℤ pos 36_889)
  unfolding days_from_2000
  in_range = (
    by_le ⟨ negsuc 36_523 ⟩ (# day_number y m d ⊟ℤ # day_number 2000 1 1) (omega (arith, epoch, day_from)),
    by_le (# day_number y m d ⊟ℤ # day_number 2000 1 1) (# 36_889) (omega (arith, epoch, day_to)),
  )

-- an answer without a refusal comes from tests that all pass
answered : (p q r : Bool) (x y z : DayAnswer) (a : DayAnswer) → (x.refusal ≡ 0 → ⊥) → (y.refusal ≡ 0 → ⊥) → (z.refusal ≡ 0 → ⊥)
    → (cond p (cond q (cond r a z) y) x).refusal ≡ 0 → T p × (T q × (T r × (cond p (cond q (cond r a z) y) x ≡ a)))
answered true true true x y z a f g k h = (tt, (tt, (tt, refl)))
answered true true false x y z a f g k h = absurd (k h)
answered true false r x y z a f g k h = absurd (g h)
answered false q r x y z a f g k h = absurd (f h)

pub first_day_is : days_from_2000 1900 1 1 ≡ negsuc 36_523
unfolding days_from_2000 day_number days_to_year days_to_month month_length year_length leap
first_day_is = refl

pub day_after_last_is : days_from_2000 2101 1 1 ≡ pos 36_890
unfolding days_from_2000 day_number days_to_year days_to_month month_length year_length leap
day_after_last_is = refl

pub accepted_days : (y m d : ℤ) → (day_count y m d).refusal ≡ 0
    → (negsuc 36_523 ≤ℤ (day_count y m d).days) × ((day_count y m d).days ≤ℤ pos 36_889)
unfolding day_count
accepted_days y m d h =
    let year = le_z (pos 1900) y && le_z y (pos 2100) in
    let month = le_z (pos 1) m && le_z m (pos 12) in
    let day = le_z (pos 1) d && le_z d (pos (month_length (nat_abs y) (nat_abs m))) in
    let refused : ℕ → DayAnswer = λ n. record { refusal = n; days = pos 0 } in
    let a : DayAnswer = record { refusal = 0; days = days_from_2000 (nat_abs y) (nat_abs m) (nat_abs d) } in
    let t = answered year month day (refused 1) (refused 2) (refused 3) a (λ e. omega (arith, e)) (λ e. omega (arith, e)) (λ e. omega (arith, e)) h in
    let t_year = and_yes (le_z (pos 1900) y) (le_z y (pos 2100)) t.0 in
    let t_month = and_yes (le_z (pos 1) m) (le_z m (pos 12)) t.1.0 in
    let t_day = and_yes (le_z (pos 1) d) (le_z d (pos (month_length (nat_abs y) (nat_abs m)))) t.1.1.0 in
    subst⁻¹ (λ (x : DayAnswer). (negsuc 36_523 ≤ℤ x.days) × (x.days ≤ℤ pos 36_889)) t.1.1.1
    (in_range (nat_abs y) (nat_abs m) (nat_abs d) (at_least {z = y} (le_z_yes t_year.0)) (at_most {j = 1900} {z = y} (le_z_yes t_year.0) (le_z_yes t_year.1))
    (at_most {j = 1} {z = m} (le_z_yes t_month.0) (le_z_yes t_month.1)) (at_least {z = d} (le_z_yes t_day.0)) (at_most {j = 1} {z = d} (le_z_yes t_day.0) (le_z_yes t_day.1)))
