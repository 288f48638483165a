-- Each minute of a day that is not refused is within reach, and so are its sums.
use lib.Dec.{lit<}
use lib.IntN.{◌-ℤ◌, pos}
use Rattle.sum_rules.proofs.Accurate.{sums_near}
use Rattle.day.specs.Curve.{last_minute, minute_of}
use Rattle.day.specs.Date.{days}
use Rattle.day.specs.Demand3.{EveryDayNear}
use Rattle.day.proofs.DateLaws.{accepted_day, day_before, minute_reachable}

pub every_day_near : EveryDayNear
every_day_near date point =
    record {
      near = λ e m h. sums_near (minute_of date (days date) m).tt (minute_reachable (accepted_day date point e) m h).tt_near;
      near_before = λ e after.
          sums_near (minute_of date (days date -ℤ pos 1) last_minute).tt (minute_reachable ((day_before (accepted_day date point e)).accepted after) last_minute (lit< tt)).tt_near;
    }
