-- Demand 3 of a day: where it is not refused, the sums behind each minute lie within 01's bounds of the exact ones.
use Rattle.std.specs.Prelude.{◌≡◌, ◌<◌, ℕ, ◌-ℤ◌, pos, ◌<ℤ◌}
use Rattle.calendar.specs.Refusal.{first}
use Rattle.sky_vectors.specs.declared.station.Point.{Point}
use Rattle.sum_rules.specs.Accuracy.{SumsNear}
use Rattle.sum_rules.specs.Instant.{first_day}
use Rattle.day.specs.Curve.{last_minute, minute_of, minutes}
use Rattle.day.specs.Date.{day_refusals, days}
use Rattle.day.specs.declared.date.Date.{Date}

-- the minute before the first belongs to the day before, which 1900-01-01 has not
pub record DayNear (date : Date) (point : Point) : Type 0 where
  pub near : first (day_refusals date point) ≡ 0 → (m : ℕ) → m < minutes → SumsNear (minute_of date (days date) m).tt
  pub near_before : first (day_refusals date point) ≡ 0 → first_day <ℤ days date → SumsNear (minute_of date (days date -ℤ pos 1) last_minute).tt

-- THE CLAIM, for every request
abbrev pub EveryDayNear : Type 0
EveryDayNear = (date : Date) (point : Point) → DayNear date point
