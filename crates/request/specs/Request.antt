-- A request and its numbered refusals (01, the section of that name): 1 to 9, and the instant of a start.
use Rattle.std.specs.Prelude.{Bool, ◌&&◌, List, [], ◌∷◌, ◌++◌, ◌≡◌, ◌*◌, ◌-◌, ◌/◌, ℕ, ◌*ℤ◌, ◌+ℤ◌, pos, ℤ}
use Rattle.number_rules.specs.Calendar.{DayAnswer, day_count}
use Rattle.calendar.specs.Refusal.{◌unless◌}
use Rattle.numbers.specs.Whole.{between}
use Rattle.sum_rules.specs.Instant.{day, minus, second, terrestrial_time, universal_time}
use Rattle.sum_rules.specs.Table.{column}
use Rattle.sum_rules.specs.declared.instant.Instant.{Instant}
use Rattle.sky_vectors.specs.SkyRange.{highest_height, latitude_limit, longitude_limit, lowest_height}
use Rattle.sky_vectors.specs.declared.station.Point.{Point}
use Rattle.request.specs.declared.start.Start.{Start}

-- d = days from 2000-01-01, or 1 to 3
abbrev pub date : Start → DayAnswer
date s = day_count s.year s.month s.day

-- 1 to 3
abbrev pub date_refusals : DayAnswer → List ℕ
date_refusals date = date.refusal ∷ []

-- the last millisecond of a second
abbrev pub fraction_limit : ℕ
fraction_limit = second - 1

-- hour 0-23, minute 0-59, second 0-59, millisecond 0-999
unfoldable pub is_clock : Start → Bool
is_clock s =
    between (pos 0) s.hour (pos 23) && between (pos 0) s.minute (pos 59) && between (pos 0) s.second (pos 59)
    && between (pos 0) s.fraction (pos fraction_limit)

-- 4
abbrev pub clock_refusals : Start → List ℕ
clock_refusals s = 4 unless is_clock s ∷ []

-- UT1 minus UTC, -900 to 900 milliseconds; delta-T, -8,000,000 to 8,000,000
abbrev pub ut1_limit : ℕ
ut1_limit = 9 * second / 10

abbrev pub delta_limit : ℕ
delta_limit = 8_000 * second

-- THE CLAIM, in 02's own numbers (Item 8), which follow from the unit of time
pub record LimitsInMilliseconds : Type 0 where
  pub fraction : fraction_limit ≡ 999
  pub ut1 : ut1_limit ≡ 900
  pub delta : delta_limit ≡ 8_000_000

-- 5 and 6, of UT1 minus UTC and delta-T
abbrev pub scale_refusals : ℤ → ℤ → List ℕ
scale_refusals ut1 delta =
    5 unless between (minus ut1_limit) ut1 (pos ut1_limit)
    ∷ 6 unless between (minus delta_limit) delta (pos delta_limit)
    ∷ []

-- 1 to 6
abbrev pub start_refusals : Start → List ℕ
start_refusals s = date_refusals (date s) ++ (clock_refusals s ++ scale_refusals s.ut1 s.delta_t)

-- 7 to 9: longitude within ±1,800,000,000, latitude within ±900,000,000, height -500 to 9,000 m
abbrev pub point_refusals : Point → List ℕ
point_refusals p =
    7 unless between (minus longitude_limit) p.longitude (pos longitude_limit)
    ∷ 8 unless between (minus latitude_limit) p.latitude (pos latitude_limit)
    ∷ 9 unless between lowest_height p.height (pos highest_height)
    ∷ []

-- units of the day that have passed
unfoldable pub elapsed : Start → ℤ
elapsed s = ((s.hour *ℤ pos 60 +ℤ s.minute) *ℤ pos 60 +ℤ s.second) *ℤ pos second +ℤ s.fraction

-- units from the first instant of 2000, UTC
unfoldable pub utc : Start → ℤ
utc s = pos day *ℤ (date s).days +ℤ elapsed s

-- UT and TT of a start
unfoldable pub instant : Start → Instant
instant s =
    let ut = universal_time (date s).days (elapsed s) s.ut1 in
    record { ut = ut; tt = terrestrial_time ut s.delta_t }

-- an instant so many units from another, before it where they are below zero
abbrev pub moved : Instant → ℤ → Instant
moved start units = record { ut = start.ut +ℤ units; tt = start.tt +ℤ units }

-- a start from its nine numbers: year month day hour minute second millisecond, UT1 minus UTC, delta-T
unfoldable pub start_from : List ℤ → Start
start_from numbers =
    record {
      year = column numbers 0;
      month = column numbers 1;
      day = column numbers 2;
      hour = column numbers 3;
      minute = column numbers 4;
      second = column numbers 5;
      fraction = column numbers 6;
      ut1 = column numbers 7;
      delta_t = column numbers 8;
    }
