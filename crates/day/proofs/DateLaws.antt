-- An accepted day: each of its minutes is an accepted start of 01, and so is each of the day before, unless it is the first.
use mathlib.Core.Bool.{true}
use mathlib.Core.List.{List, ◌++◌}
use mathlib.Core.Path.{◌∙◌, ◌≡◌, refl, subst, subst⁻¹}
use Prim.Native.Nat.{◌%◌, ◌*◌, ◌/◌, ◌<◌, ◌≤◌, ℕ}
use native.Mathlib.Omega.{arith}
use lib.IntN.{◌-ℤ◌, pos, ℤ}
use lib.Signed.{◌<ℤ◌}
use Rattle.arithmetic.proofs.Difference.{#◌, ◌⊞◌, ◌⊟ℤ◌, ◌⊠◌, by_eq, by_le, by_lt, to_lt, ⟨◌⟩}
use Rattle.numbers.proofs.Machine.{is_le}
use Rattle.calendar.proofs.RefusalLaws.{first_append, none_append}
use Rattle.calendar.specs.Refusal.{◌else◌, first}
use Rattle.numbers.specs.Whole.{between}
use Rattle.request.proofs.RequestLaws as Sky
use Rattle.request.specs.Request.{clock_refusals, date_refusals, elapsed, is_clock, point_refusals, scale_refusals, start_refusals}
use Rattle.sky_vectors.proofs.SkySizes.{runner_stands}
use Rattle.sky_vectors.specs.SkyRange.{OnEarth, Reachable, Standing}
use Rattle.sky_vectors.specs.Station.{runner}
use Rattle.sky_vectors.specs.declared.station.Point.{Point}
use Rattle.sky_vectors.specs.declared.station.Runner.{Runner}
use Rattle.sum_rules.proofs.AcceptedInstants.{terrestrial_near, universal_near}
use Rattle.sum_rules.specs.Instant.{Accepted, day, day_after_last, first_day, second}
use Rattle.day.specs.Curve.{AcceptedDay, DayBefore, minute, minute_of, minutes}
use Rattle.day.specs.Date.{clock, count, day_refusals, days}
use Rattle.day.specs.declared.date.Date.{Date}

-- ---- the start of a minute
pub elapsed_is : (date : Date) (m : ℕ) → elapsed (clock date (m / 60) (m % 60)) ≡ pos (m * minute)
unfolding elapsed
elapsed_is date m = by_eq (((# (m / 60) ⊠ # 60 ⊞ # (m % 60)) ⊠ # 60 ⊞ # 0) ⊠ # second ⊞ # 0) (# (m * minute)) (omega arith)

up_to : (n hi : ℕ) → n ≤ hi → between (pos 0) (pos n) (pos hi) ≡ true
unfolding between
up_to n hi h = rw (is_le (by_le (# 0) (# n) (omega arith)), is_le (by_le (# n) (# hi) (omega arith))) refl

is_a_clock : (date : Date) (m : ℕ) → m < minutes → is_clock (clock date (m / 60) (m % 60)) ≡ true
unfolding is_clock between
is_a_clock date m h = rw (up_to (m / 60) 23 (omega arith), up_to (m % 60) 59 (omega arith)) refl

-- ---- a request that is let pass
passed_on : (xs ys : List ℕ) → first xs ≡ 0 → first ys ≡ 0 → first (xs ++ ys) ≡ 0
passed_on xs ys e f = first_append xs ys ∙ (λ i. e i else f i)

module _ (date : Date) (point : Point) (e : first (day_refusals date point) ≡ 0) where
  abbrev scales : List ℕ
  scales = scale_refusals date.ut1 date.delta_t

  abbrev by_date : (first (date_refusals (count date)) ≡ 0) × (first (scales ++ point_refusals point) ≡ 0)
  by_date = none_append (date_refusals (count date)) (scales ++ point_refusals point) e

  abbrev by_scales : (first scales ≡ 0) × (first (point_refusals point) ≡ 0)
  by_scales = none_append scales (point_refusals point) by_date.1

  pub point_on_earth : OnEarth point
  point_on_earth = Sky.on_earth point by_scales.1

  start_passes : (m : ℕ) → m < minutes → first (start_refusals (clock date (m / 60) (m % 60))) ≡ 0
  start_passes m h =
      passed_on (date_refusals (count date)) (clock_refusals (clock date (m / 60) (m % 60)) ++ scales) by_date.0
      (passed_on (clock_refusals (clock date (m / 60) (m % 60))) scales (unfold first in rw (is_a_clock date m h) refl) by_scales.0)

  pub accepted_day : AcceptedDay date (days date)
  accepted_day =
      record {
        each =
            λ m h.
            subst (λ (z : ℤ). Accepted (days date) z date.ut1 date.delta_t) (elapsed_is date m)
            (Sky.accepted (clock date (m / 60) (m % 60)) (start_passes m h));
      }

  -- what is lent to a day's loop, as it was worked
  pub standing : {found : Runner} → found ≡ runner point → Standing found
  standing is = subst⁻¹ Standing is (runner_stands point point_on_earth)

  pub today : {d : ℤ} → d ≡ days date → AcceptedDay date d
  today is = subst⁻¹ (AcceptedDay date) is accepted_day

-- ---- the day before
earlier : {d elapsed ut1 delta : ℤ} → first_day <ℤ d → Accepted d elapsed ut1 delta → Accepted (d -ℤ pos 1) elapsed ut1 delta
earlier {d} {elapsed} after a =
    let later = to_lt ⟨ first_day ⟩ ⟨ d ⟩ after in
    let last = to_lt (# day ⊠ ⟨ d ⟩ ⊞ ⟨ elapsed ⟩) (# day ⊠ ⟨ day_after_last ⟩) a.not_late in
    record {
      not_early = by_le ⟨ first_day ⟩ (⟨ d ⟩ ⊟ℤ # 1) (omega (arith, later));
      from_midnight = a.from_midnight;
      not_late = by_lt (# day ⊠ (⟨ d ⟩ ⊟ℤ # 1) ⊞ ⟨ elapsed ⟩) (# day ⊠ ⟨ day_after_last ⟩) (omega (arith, last));
      ut1_small = a.ut1_small;
      delta_small = a.delta_small;
    }

pub day_before : {date : Date} {d : ℤ} → AcceptedDay date d → DayBefore date d
day_before accepted = record { accepted = λ after. record { each = λ m h. earlier after (accepted.each m h) } }

-- ---- every minute is within reach
pub minute_reachable : {date : Date} {d : ℤ} → AcceptedDay date d → (m : ℕ) → m < minutes → Reachable (minute_of date d m)
unfolding minute_of
minute_reachable accepted m h = let a = accepted.each m h in record { ut_near = universal_near a; tt_near = terrestrial_near a }
