-- A day's request (02, Item 1): a UTC date, a point, UT1 minus UTC and delta-T. No clock.
use Rattle.std.specs.Prelude.{List, ◌++◌, ℕ, pos, ℤ}
use Rattle.request.specs.Request.{date as start_date, date_refusals, point_refusals, scale_refusals}
use Rattle.request.specs.declared.start.Start.{Start}
use Rattle.number_rules.specs.Calendar.{DayAnswer}
use Rattle.sky_vectors.specs.declared.station.Point.{Point}
use Rattle.sum_rules.specs.Table.{column}
use Rattle.day.specs.declared.date.Date.{Date}

-- 01's start at hh:mm:00 of the date, with its UT1 minus UTC and delta-T
abbrev pub clock : Date → ℕ → ℕ → Start
clock date hour minute =
    record {
      year = date.year;
      month = date.month;
      day = date.day;
      hour = pos hour;
      minute = pos minute;
      second = pos 0;
      fraction = pos 0;
      ut1 = date.ut1;
      delta_t = date.delta_t;
    }

-- the day count of the date, or 1 to 3
abbrev pub count : Date → DayAnswer
count date = start_date (clock date 0 0)

-- d = days from 2000-01-01
abbrev pub days : Date → ℤ
days date = (count date).days

-- refusals: 1 to 3, then 5 to 9, in that order
abbrev pub day_refusals : Date → Point → List ℕ
day_refusals date point = date_refusals (count date) ++ (scale_refusals date.ut1 date.delta_t ++ point_refusals point)

-- a date from its five numbers: year month day, UT1 minus UTC, delta-T
abbrev pub date_from : List ℤ → Date
date_from numbers =
    record { year = column numbers 0; month = column numbers 1; day = column numbers 2; ut1 = column numbers 3; delta_t = column numbers 4 }
