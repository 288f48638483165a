-- What `rise_and_set` promises beside its equations. The minutes of a day are 01's instants: its own at hh:mm:00, and that before 0 at 23:59:00 of the day before.
use mathlib.Core.Path.{sym}
use Rattle.day.proofs.DateLaws.{elapsed_is}
use Rattle.day.specs.Curve.{last_minute, minute_of}
use Rattle.day.specs.Date.{days}
use Rattle.day.specs.declared.date.Date.{Date}
use Rattle.request.specs.Request.{instant}
use Rattle.sum_rules.specs.Instant.{terrestrial_time, universal_time}
use Rattle.rise_set.specs.Claims.{EveryDayTold, MinuteBefore, MinutesAreClocks}
use Rattle.rise_set.specs.Crossing.{is_at}
use Rattle.rise_set.specs.declared.crossing.Event.TheVariants.{Rise, Set}
use Rattle.rise_set.proofs.CrossingLaws.{first_or_none, never_together, one_side}

minutes_are_clocks : (date : Date) → MinutesAreClocks date
unfolding minute_of instant
minutes_are_clocks date m =
    λ i.
    let ut = universal_time (days date) (sym (elapsed_is date m) i) date.ut1 in
    record { ut = ut; tt = terrestrial_time ut date.delta_t }

minute_before : (date : Date) → MinuteBefore date
unfolding minute_of instant
minute_before date before d ut1 delta =
    λ i.
    let ut = universal_time (sym d i) (sym (elapsed_is before last_minute) i) (sym ut1 i) in
    record { ut = ut; tt = terrestrial_time ut (sym delta i) }

pub every_day_told : EveryDayTold
every_day_told date body point =
    record {
      minutes_are_clocks = minutes_are_clocks date;
      minute_before = minute_before date;
      rise = first_or_none (is_at Rise date body point);
      set = first_or_none (is_at Set date body point);
      never_together = never_together date body point;
      one_side = one_side date body point;
    }
