-- Rise and set (02, Item 1).
use Rattle.std.specs.Prelude.{Bool, None, Option, Some, ◌&&◌, cond, not, true, suc, zero, ℕ, ltb, ◌-ℤ◌, pos, ℤ}
use Rattle.std.specs.Int.Signed.{le_z, lt_z}
use Rattle.day.specs.Curve.{elevation_on, last_minute, minutes}
use Rattle.day.specs.Date.{days}
use Rattle.day.specs.Search.{first_where}
use Rattle.day.specs.declared.date.Date.{Date}
use Rattle.sum_rules.specs.Instant.{first_day, minus}
use Rattle.sky_vectors.specs.declared.geocentric.Body.{Body}
use Rattle.sky_vectors.specs.declared.station.Point.{Point}
use Rattle.rise_set.specs.declared.crossing.Event.{Event}
use Rattle.rise_set.specs.declared.crossing.Event.TheVariants.{Rise, Set}

-- THE THRESHOLD of rise and set
abbrev pub threshold : ℤ
threshold = minus 83_330_000

-- the elevation without refraction is at or above it
unfoldable pub is_up : ℤ → Bool
is_up elevation = le_z threshold elevation

-- up, while at the minute before it is below; setting is the reverse
abbrev pub crosses : Event → Bool → Bool → Bool
crosses Rise before now = not before && now
crosses Set before now = before && not now

-- at minute m
abbrev pub up_at : Date → Body → Point → ℕ → Bool
up_at date body point m = is_up (elevation_on date body point (days date) m)

-- at the minute before m; the minute before 0 belongs to the day before
abbrev pub up_before : Date → Body → Point → ℕ → Bool
up_before date body point zero = is_up (elevation_on date body point (days date -ℤ pos 1) last_minute)
up_before date body point (suc m) = up_at date body point m

-- on 1900-01-01 minute 0 has no minute before and can't be either
abbrev pub has_before : Date → ℕ → Bool
has_before date zero = lt_z first_day (days date)
has_before date (suc m) = true

-- whether a minute is the event
unfoldable pub is_at : Event → Date → Body → Point → ℕ → Bool
is_at event date body point m = has_before date m && crosses event (up_before date body point m) (up_at date body point m)

-- a minute or none, in numbers: 1 and the minute, or zeros
pub record CrossingNumbers : Type 0 where
  pub has : ℕ
  pub minute : ℕ

abbrev pub at_minute : ℕ → CrossingNumbers
at_minute m = record { has = 1; minute = m }

abbrev pub at_none : CrossingNumbers
at_none = record { has = 0; minute = 0 }

abbrev pub crossing_numbers : Option ℕ → CrossingNumbers
crossing_numbers (Some m) = at_minute m
crossing_numbers None = at_none

-- the first minute 0 to 1439 at which the test holds, or none
unfoldable pub first_minute : (ℕ → Bool) → CrossingNumbers
first_minute test = let m = first_where test minutes in cond (ltb m minutes) (at_minute m) at_none
