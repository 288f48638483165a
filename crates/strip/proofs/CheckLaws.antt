-- What the checks 23 to 25 say where they pass: every number of a header has room in its width, and the step divides the day.
use mathlib.Core.Bool.{Bool, ◌&&◌, ◌||◌, cond, false, true}
use mathlib.Core.List.{[]}
use mathlib.Core.Logic.{◌⊎◌, inl, inr, ⊎_elim}
use mathlib.Core.Path.{◌≡◌, ap, refl, subst, sym}
use Prim.Native.Nat.{◌<◌, ◌≤◌, ℕ}
use native.Mathlib.Nat.{div-le_self, le_refl}
use native.Mathlib.Omega.{arith}
use lib.Dec.{eqb, leb, lit≤, ltb}
use lib.IntN.{nat_abs, negsuc, pos, ℤ}
use lib.ListN.{drop}
use lib.Signed.{le_z}
use borrow.Author.Tests.{eqb-true, le-leb, leb-true, ltb-true}
use Rattle.std.proofs.lemmas.Bool.Decides.{Decides-int_eq, same_from_decides}
use Rattle.std.specs.Ordering.{int_eq}
use Rattle.calendar.proofs.RefusalLaws.{none, passes}
use Rattle.calendar.specs.Refusal.{◌unless◌, first}
use Rattle.day.specs.Curve.{minutes}
use Rattle.number_rules.proofs.CalendarLaws.{length_most}
use Rattle.number_rules.specs.Calendar.{DayAnswer, day_count, days_from_2000, month_length}
use Rattle.numbers.specs.Whole.{between}
use Rattle.octets.proofs.FieldLaws.{off}
use Rattle.octets.specs.Again.{InHalves}
use Rattle.request.proofs.RequestLaws.{between_size}
use Rattle.sky_vectors.specs.SkyRange.{latitude_limit, longitude_limit}
use Rattle.sum_rules.specs.Instant.{minus}
use Rattle.text.proofs.LineLaws.{first_of, second_of}
use Rattle.strip.specs.Checks.{SameTells, absent, full_turn, header_refusals, is_azimuth, is_date, is_point, is_step, same, steps}
use Rattle.strip.specs.declared.header.Header.{Header}

pub either : (a b : Bool) → (a || b) ≡ true → (a ≡ true) ⊎ (b ≡ true)
either true b e = inl refl
either false b e = inr e

-- ---- two numbers that are the same

same_is : (a b : ℤ) → same a b ≡ true → a ≡ b
same_is (pos m) (pos n) e = ap pos (omega (arith, leb-true m n (first_of (leb m n) (leb n m) e), leb-true n m (second_of (leb m n) (leb n m) e)))
same_is (pos m) (negsuc n) e = absurd (off e)
same_is (negsuc m) (pos n) e = absurd (off e)
same_is (negsuc m) (negsuc n) e = ap negsuc (omega (arith, leb-true n m (first_of (leb n m) (leb m n) e), leb-true m n (second_of (leb n m) (leb m n) e)))

same_self : (a : ℤ) → same a a ≡ true
same_self (pos n) = simp (le-leb n n (le_refl n))
same_self (negsuc n) = simp (le-leb n n (le_refl n))

pub same_tells : SameTells
same_tells a b = (same_is a b, λ e. subst (λ (z : ℤ). same a z ≡ true) e (same_self a))

-- std's test is the same
pub int_same : (a b : ℤ) → int_eq a b ≡ same a b
int_same a b = same_from_decides (int_eq a b) (same a b) (Decides-int_eq a b) (same_tells a b)

-- ---- numbers that are not below zero, and not above a limit

pub record Natural (least most : ℕ) (z : ℤ) : Type 0 where
  pub is : z ≡ pos (nat_abs z)
  pub least_is : least ≤ nat_abs z
  pub most_is : nat_abs z ≤ most

natural : (lo hi : ℕ) (z : ℤ) → (le_z (pos lo) z && le_z z (pos hi)) ≡ true → Natural lo hi z
natural lo hi (pos n) e =
    record { is = refl; least_is = leb-true lo n (first_of (leb lo n) (leb n hi) e); most_is = leb-true n hi (second_of (leb lo n) (leb n hi) e) }
natural lo hi (negsuc n) e = absurd (off e)

of_value : {lo hi : ℕ} (n : ℕ) {z : ℤ} → lo ≤ n → n ≤ hi → z ≡ pos n → Natural lo hi z
of_value {lo} {hi} n l h e = subst (Natural lo hi) (sym e) (record { is = refl; least_is = l; most_is = h })

-- ---- the date

dated : (p q r : Bool) (z : ℤ)
    → (cond {A = DayAnswer} p (cond q (cond r (record { refusal = 0; days = z }) (record { refusal = 3; days = pos 0 })) (record { refusal = 2; days = pos 0 })) (record { refusal = 1; days = pos 0 })).refusal ≡ 0
    → (p ≡ true) × (q ≡ true) × (r ≡ true)
dated true true true z e = (refl, refl, refl)
dated false q r z e = absurd (omega (arith, e))
dated true false r z e = absurd (omega (arith, e))
dated true true false z e = absurd (omega (arith, e))

module _ (y m d : ℤ) (e : (day_count y m d).refusal ≡ 0) where
  tests : ((le_z (pos 1900) y && le_z y (pos 2100)) ≡ true) × ((le_z (pos 1) m && le_z m (pos 12)) ≡ true) × ((le_z (pos 1) d && le_z d (pos (month_length (nat_abs y) (nat_abs m)))) ≡ true)
  unfolding day_count
  tests =
      dated (le_z (pos 1900) y && le_z y (pos 2100)) (le_z (pos 1) m && le_z m (pos 12)) (le_z (pos 1) d && le_z d (pos (month_length (nat_abs y) (nat_abs m))))
      (days_from_2000 (nat_abs y) (nat_abs m) (nat_abs d)) e

  year_natural : Natural 1900 2100 y
  year_natural = natural 1900 2100 y tests.0

  month_natural : Natural 1 12 m
  month_natural = natural 1 12 m tests.1

  day_natural : Natural 1 31 d
  day_natural =
      let n = natural 1 (month_length (nat_abs y) (nat_abs m)) d tests.2 in
      record { is = n.is; least_is = n.least_is; most_is = omega (arith, n.most_is, length_most (nat_abs y) (nat_abs m)) }

-- ---- the point

in_halves : (z : ℤ) → nat_abs z ≤ longitude_limit → InHalves 4 z
in_halves (pos n) h = omega arith
in_halves (negsuc n) h = omega arith

-- ---- the step

by_steps : (z : ℤ) → is_step z ≡ true → (z ≡ pos 1) ⊎ ((z ≡ pos 2) ⊎ ((z ≡ pos 5) ⊎ (z ≡ pos 10)))
unfolding is_step
by_steps z e =
    ⊎_elim (λ p. inl (same_is z (pos 1) p))
    (λ f. ⊎_elim (λ p. inr (inl (same_is z (pos 2) p)))
    (λ g. ⊎_elim (λ p. inr (inr (inl (same_is z (pos 5) p)))) (λ p. inr (inr (inr (same_is z (pos 10) p)))) (either (same z (pos 5)) (same z (pos 10)) g))
    (either (same z (pos 2)) (same z (pos 5) || same z (pos 10)) f))
    (either (same z (pos 1)) (same z (pos 2) || (same z (pos 5) || same z (pos 10))) e)

pub step_natural : (z : ℤ) → is_step z ≡ true → Natural 1 10 z
step_natural z e =
    ⊎_elim (of_value 1 (lit≤ tt) (lit≤ tt)) (⊎_elim (of_value 2 (lit≤ tt) (lit≤ tt)) (⊎_elim (of_value 5 (lit≤ tt) (lit≤ tt)) (of_value 10 (lit≤ tt) (lit≤ tt))))
    (by_steps z e)

pub steps_most : (z : ℤ) → steps z ≤ minutes
steps_most z = div-le_self minutes (nat_abs z)

-- ---- the whole header

pub record Passes (header : Header) : Type 0 where
  pub year : Natural 1900 2100 header.year
  pub month : Natural 1 12 header.month
  pub day : Natural 1 31 header.day
  pub longitude : InHalves 4 header.longitude
  pub latitude : InHalves 4 header.latitude
  pub step_passes : is_step header.step ≡ true
  pub step : Natural 1 10 header.step

module _ (header : Header) (e : first (header_refusals header) ≡ 0) where
  abbrev by_date : (23 unless is_date header ≡ 0) × (first (drop 1 (header_refusals header)) ≡ 0)
  by_date = none (23 unless is_date header) (drop 1 (header_refusals header)) e

  abbrev by_point : (24 unless is_point header ≡ 0) × (first (drop 2 (header_refusals header)) ≡ 0)
  by_point = none (24 unless is_point header) (drop 2 (header_refusals header)) by_date.1

  abbrev by_step : (25 unless is_step header.step ≡ 0) × (first [] ≡ 0)
  by_step = none (25 unless is_step header.step) [] by_point.1

  date : (day_count header.year header.month header.day).refusal ≡ 0
  unfolding is_date
  date = eqb-true (day_count header.year header.month header.day).refusal 0 (passes 22 (is_date header) by_date.0)

  abbrev east_west : Bool
  east_west = between (minus longitude_limit) header.longitude (pos longitude_limit)

  abbrev north_south : Bool
  north_south = between (minus latitude_limit) header.latitude (pos latitude_limit)

  point : (east_west && north_south) ≡ true
  unfolding is_point
  point = passes 23 (is_point header) by_point.0

  step_good : is_step header.step ≡ true
  step_good = passes 24 (is_step header.step) by_step.0

  pub header_passes : Passes header
  header_passes =
      record {
        year = year_natural header.year header.month header.day date;
        month = month_natural header.year header.month header.day date;
        day = day_natural header.year header.month header.day date;
        longitude = in_halves header.longitude (between_size longitude_limit longitude_limit header.longitude (lit≤ tt) (first_of east_west north_south point));
        latitude =
            in_halves header.latitude
            (omega (arith, between_size latitude_limit latitude_limit header.latitude (lit≤ tt) (second_of east_west north_south point)));
        step_passes = step_good;
        step = step_natural header.step step_good;
      }

-- ---- azimuths

pub azimuth_small : (a : ℕ) → is_azimuth a ≡ true → a < 4_294_967_296
azimuth_small a e =
    ⊎_elim (λ p. omega (arith, ltb-true a full_turn p)) (λ p. omega (arith, eqb-true a absent p)) (either (ltb a full_turn) (eqb a absent) e)
