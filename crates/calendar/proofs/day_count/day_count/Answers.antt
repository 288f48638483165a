-- `calendar::day_count::day_count` meets its contract. Each test gives a fact of ℤ; the accepted parameters are natural numbers from there on.
use mathlib.Core.Path.{◌∙◌, ◌≡◌, ap, sym}
use Prim.Native.Nat.{◌+◌, ◌<◌, ◌≤◌, ℕ}
use native.Mathlib.Omega.{arith}
use lib.IntN.{◌-ℤ◌, nat_abs, pos, ℤ}
use lib.Signed.{◌≤ℤ◌}
use mir.Syntax.{w64}
use mir.Val.{of_z, to_z}
use Rattle.number_rules.specs.Calendar.{day_count, day_number, days_from_2000, days_to_month, days_to_year, month_length}
use Rattle.number_rules.proofs.CalendarLaws.{day_high, day_low, epoch, length_most, month_most, year_most}
use Rattle.arithmetic.proofs.Sizes.{at_least, at_most}
use Rattle.calendar.proofs.DayCountLaws.{one_count}
use Rattle.numbers.proofs.Machine.{Mirror, ◌⊖◌, any, cast_up, fits, from_nat, is_le, kept, less, lit, nat_fits, not_le, not_less}
use Rattle.calendar.proofs.day_count.day_count.Goals as goal
use Rattle.calendar.proofs.day_count.day_count.Goals.{After-days_to_month, After-month_length, Else-day-lt1, Else-month-gt12, Else-month-lt1, Else-year-gt2100, Else-year-lt-FIRST_YEAR, Start}

-- ---- what the tests tell
abbrev year : Start → Mirror
year s = any s.ranges.year

abbrev month : Start → Mirror
month s = any s.ranges.month

abbrev day : Start → Mirror
day s = any s.ranges.day

year_above : (c : Else-year-lt-FIRST_YEAR) → pos 1900 ≤ℤ c.args.year
year_above c = not_less (year c.before) (lit (pos 1900)) c.if-year-lt-FIRST_YEAR.false

year_below : (c : Else-year-gt2100) → c.args.year ≤ℤ pos 2100
year_below c = not_less (lit (pos 2100)) (year c.before.before) c.if-year-gt2100.false

month_above : (c : Else-month-lt1) → pos 1 ≤ℤ c.args.month
month_above c = not_less (month c.before.before.before) (lit (pos 1)) c.if-month-lt1.false

month_below : (c : Else-month-gt12) → c.args.month ≤ℤ pos 12
month_below c = not_less (lit (pos 12)) (month c.before.before.before.before) c.if-month-gt12.false

day_above : (c : Else-day-lt1) → pos 1 ≤ℤ c.args.day
day_above c = not_less (day c.before.before.before.before.before) (lit (pos 1)) c.if-day-lt1.false

module _ (c : Else-month-gt12) where
  abbrev s : Start
  s = c.before.before.before.before

  same_year : nat_abs (to_z w64 (of_z w64 s.args.year)) ≡ nat_abs s.args.year
  same_year = ap nat_abs (year s).same

  same_month : nat_abs (to_z w64 (of_z w64 s.args.month)) ≡ nat_abs s.args.month
  same_month = ap nat_abs (month s).same

  same_day : nat_abs (to_z w64 (of_z w64 s.args.day)) ≡ nat_abs s.args.day
  same_day = ap nat_abs (day s).same

  month_in : (1 ≤ nat_abs s.args.month) × (nat_abs s.args.month ≤ 12)
  month_in = (at_least (month_above c.before), at_most (month_above c.before) (month_below c))

  year_in : nat_abs s.args.year ≤ 10000
  year_in = omega (arith, at_most (year_above c.before.before.before) (year_below c.before.before))

length_is : (c : After-month_length) → c.month_length.result ≡ month_length (nat_abs (s c.before.before).args.year) (nat_abs (s c.before.before).args.month)
length_is c = c.month_length.ensures ∙ (λ i. month_length (same_year c.before.before i) (same_month c.before.before i))

-- ---- the count
module _ (c : After-days_to_month) where
  abbrev e₀ : Else-month-gt12
  e₀ = c.before.before.before.before.before

  abbrev y₀ : ℕ
  y₀ = nat_abs (s e₀).args.year

  abbrev m₀ : ℕ
  m₀ = nat_abs (s e₀).args.month

  abbrev d₀ : ℕ
  d₀ = nat_abs (s e₀).args.day

  to_year : c.days_to_year.result ≡ days_to_year y₀
  to_year = c.days_to_year.ensures ∙ ap days_to_year (same_year e₀)

  to_month : c.days_to_month.result ≡ days_to_month y₀ m₀
  to_month = c.days_to_month.ensures ∙ (λ i. days_to_month (same_year e₀ i) (same_month e₀ i))

  day_in : d₀ ≤ month_length y₀ m₀
  day_in = omega (arith, length_is c.before.before.before, same_day e₀, c.if-month_length-d.false)

  total : c.days_to_year.result + c.days_to_month.result + nat_abs (to_z w64 (of_z w64 (s e₀).args.day)) ≡ day_number y₀ m₀ d₀
  unfolding day_number
  total = λ i. to_year i + to_month i + same_day e₀ i

  total_in : c.days_to_year.result + c.days_to_month.result + nat_abs (to_z w64 (of_z w64 (s e₀).args.day)) ≤ 4000000
  total_in =
      omega (
        arith,
        to_year,
        to_month,
        same_day e₀,
        day_in,
        year_most y₀ (year_in e₀),
        month_most y₀ m₀ (month_in e₀).0 (month_in e₀).1,
        length_most y₀ m₀,
      )

  abbrev count : Mirror
  count = from_nat total_in tt ⊖ lit (pos 730486)

-- ---- the refusals
pub returns-then-year-lt-FIRST_YEAR : goal.returns-then-year-lt-FIRST_YEAR
unfolding day_count
returns-then-year-lt-FIRST_YEAR c = one_count (simp (not_le (less (year (goal.at.returns-then-year-lt-FIRST_YEAR c).Start) (lit (pos 1900)) c.if-year-lt-FIRST_YEAR.true)))

pub returns-then-year-gt2100 : goal.returns-then-year-gt2100
unfolding day_count
returns-then-year-gt2100 c =
    one_count (simp (is_le (year_above (goal.at.returns-then-year-gt2100 c).Else-year-lt-FIRST_YEAR), not_le (less (lit (pos 2100)) (year (goal.at.returns-then-year-gt2100 c).Start) c.if-year-gt2100.true)))

pub returns-then-month-lt1 : goal.returns-then-month-lt1
unfolding day_count
returns-then-month-lt1 c =
    one_count (simp (
      is_le (year_above (goal.at.returns-then-month-lt1 c).Else-year-lt-FIRST_YEAR),
      is_le (year_below (goal.at.returns-then-month-lt1 c).Else-year-gt2100),
      not_le (less (month (goal.at.returns-then-month-lt1 c).Start) (lit (pos 1)) c.if-month-lt1.true),
    ))

pub returns-then-month-gt12 : goal.returns-then-month-gt12
unfolding day_count
returns-then-month-gt12 c =
    one_count (simp (
      is_le (year_above (goal.at.returns-then-month-gt12 c).Else-year-lt-FIRST_YEAR),
      is_le (year_below (goal.at.returns-then-month-gt12 c).Else-year-gt2100),
      is_le (month_above (goal.at.returns-then-month-gt12 c).Else-month-lt1),
      not_le (less (lit (pos 12)) (month (goal.at.returns-then-month-gt12 c).Start) c.if-month-gt12.true),
    ))

pub returns-then-day-lt1 : goal.returns-then-day-lt1
unfolding day_count
returns-then-day-lt1 c =
    one_count (simp (
      is_le (year_above (goal.at.returns-then-day-lt1 c).Else-year-lt-FIRST_YEAR),
      is_le (year_below (goal.at.returns-then-day-lt1 c).Else-year-gt2100),
      is_le (month_above (goal.at.returns-then-day-lt1 c).Else-month-lt1),
      is_le (month_below (goal.at.returns-then-day-lt1 c).Else-month-gt12),
      not_le (less (day (goal.at.returns-then-day-lt1 c).Start) (lit (pos 1)) c.if-day-lt1.true),
    ))

-- ---- the parameters as natural numbers
pub overflow_cast-y : goal.overflow_cast-y
overflow_cast-y c = cast_up c.ranges.year (year_above (goal.at.overflow_cast-y c).Else-year-lt-FIRST_YEAR)

pub overflow_cast-m : goal.overflow_cast-m
overflow_cast-m c = cast_up c.ranges.month (month_above (goal.at.overflow_cast-m c).Else-month-lt1)

pub overflow_cast-d : goal.overflow_cast-d
overflow_cast-d c = cast_up c.ranges.day (day_above (goal.at.overflow_cast-d c).Else-day-lt1)

pub month_length-requires : goal.month_length-requires
month_length-requires c = rw (same_month (goal.at.month_length-requires c).Else-month-gt12) (month_in (goal.at.month_length-requires c).Else-month-gt12)

pub days_to_year-requires : goal.days_to_year-requires
days_to_year-requires c = rw (same_year (goal.at.days_to_year-requires c).Else-month-gt12) (year_in (goal.at.days_to_year-requires c).Else-month-gt12)

pub days_to_month-requires : goal.days_to_month-requires
days_to_month-requires c = rw (same_month (goal.at.days_to_month-requires c).Else-month-gt12) (month_in (goal.at.days_to_month-requires c).Else-month-gt12)

pub returns-then-month_length-d : goal.returns-then-month_length-d
unfolding day_count
returns-then-month_length-d c =
    let e = (goal.at.returns-then-month_length-d c).Else-month-gt12 in
    let z = s e in
    let h : month_length (nat_abs z.args.year) (nat_abs z.args.month) < nat_abs z.args.day =
    omega (arith, length_is (goal.at.returns-then-month_length-d c).After-month_length, same_day e, c.if-month_length-d.true) in
    one_count (simp (
      is_le (year_above e.before.before.before),
      is_le (year_below e.before.before),
      is_le (month_above e.before),
      is_le (month_below e),
      is_le (day_above (goal.at.returns-then-month_length-d c).Else-day-lt1),
      not_le (day_high (day_above (goal.at.returns-then-month_length-d c).Else-day-lt1) h),
    ))

pub overflow_add-n : goal.overflow_add-n
overflow_add-n c = omega (arith, total_in (goal.at.overflow_add-n c).After-days_to_month)

pub overflow_add-n-2 : goal.overflow_add-n-2
overflow_add-n-2 c = omega (arith, total_in (goal.at.overflow_add-n-2 c).After-days_to_month)

pub overflow_cast-days : goal.overflow_cast-days
overflow_cast-days c = nat_fits (total_in (goal.at.overflow_cast-days c).After-days_to_month) tt

pub overflow_sub-days : goal.overflow_sub-days
overflow_sub-days c = fits (count (goal.at.overflow_sub-days c).After-days_to_month) tt

pub returns : goal.returns
unfolding day_count days_from_2000
returns c =
    let e = e₀ (goal.at.returns c).After-days_to_month in
    one_count (
    ap (λ (z : ℤ). record { refusal = 0; days = z }) ((kept (count (goal.at.returns c).After-days_to_month) tt).same ∙ (λ i. pos (total (goal.at.returns c).After-days_to_month i) -ℤ pos (epoch' i)))
    ∙ simp (
      is_le (year_above e.before.before.before),
      is_le (year_below e.before.before),
      is_le (month_above e.before),
      is_le (month_below e),
      is_le (day_above (goal.at.returns c).Else-day-lt1),
      is_le (day_low (day_above (goal.at.returns c).Else-day-lt1) (day_in (goal.at.returns c).After-days_to_month)),
    ))
  where
    epoch' : 730486 ≡ day_number 2000 1 1
    epoch' = sym epoch
