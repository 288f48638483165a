-- What a reader wants to know of a day (02, Item 1), beside the equations.
use Rattle.std.specs.Prelude.{Bool, false, true, ◌≡◌, ◌%◌, ◌/◌, ◌<◌, ℕ, ◌-ℤ◌, pos}
use Rattle.day.specs.Curve.{last_minute, minute_of, minutes}
use Rattle.day.specs.Date.{clock, days}
use Rattle.day.specs.declared.date.Date.{Date}
use Rattle.request.specs.Request.{instant}
use Rattle.sky_vectors.specs.declared.geocentric.Body.{Body}
use Rattle.sky_vectors.specs.declared.station.Point.{Point}
use Rattle.rise_set.specs.Crossing.{at_minute, at_none, first_minute, is_at, up_at}
use Rattle.rise_set.specs.declared.crossing.Event.TheVariants.{Rise, Set}

-- ---- the minutes are 01's instants

-- minute m is hh:mm:00 of the date
abbrev pub MinutesAreClocks : Date → Type 0
MinutesAreClocks date = (m : ℕ) → minute_of date (days date) m ≡ instant (clock date (m / 60) (m % 60))

-- the minute before 0 is 23:59 of the day before, with the same UT1 difference and delta-T
abbrev pub MinuteBefore : Date → Type 0
MinuteBefore date =
    (before : Date) → days before ≡ days date -ℤ pos 1 → before.ut1 ≡ date.ut1 → before.delta_t ≡ date.delta_t
    → minute_of date (days date -ℤ pos 1) last_minute ≡ instant (clock before 23 59)

-- ---- THE TWO CLAIMS on each answer: which minute is given, and when none is

-- m is such a minute, and none before it is
pub record First (test : ℕ → Bool) (m : ℕ) : Type 0 where
  pub in_day : m < minutes
  pub holds : test m ≡ true
  pub none_before : (k : ℕ) → k < m → test k ≡ false

-- no minute of the day is one
abbrev pub Nowhere : (ℕ → Bool) → Type 0
Nowhere test = (m : ℕ) → m < minutes → test m ≡ false

-- a minute is given exactly where it is the first, and none exactly when no minute of the day is one
pub record FirstOrNone (test : ℕ → Bool) : Type 0 where
  pub given : (m : ℕ) → first_minute test ≡ at_minute m → First test m
  pub first : (m : ℕ) → First test m → first_minute test ≡ at_minute m
  pub none_given : first_minute test ≡ at_none → Nowhere test
  pub nowhere : Nowhere test → first_minute test ≡ at_none

-- ---- rise and set together

-- they never fall on one minute
abbrev pub NeverTogether : Date → Body → Point → Type 0
NeverTogether date body point = (m : ℕ) → is_at Rise date body point m ≡ true → is_at Set date body point m ≡ true → ⊥

-- where there is neither, the whole curve lies on one side of the threshold, so that its first entry tells a polar day from a polar night
abbrev pub OneSide : Date → Body → Point → Type 0
OneSide date body point =
    Nowhere (is_at Rise date body point) → Nowhere (is_at Set date body point) → (m : ℕ) → m < minutes → up_at date body point m ≡ up_at date body point 0

-- all of it, which `rise_and_set` promises beside its equations, of every request
pub record Told (date : Date) (body : Body) (point : Point) : Type 0 where
  pub minutes_are_clocks : MinutesAreClocks date
  pub minute_before : MinuteBefore date
  pub rise : FirstOrNone (is_at Rise date body point)
  pub set : FirstOrNone (is_at Set date body point)
  pub never_together : NeverTogether date body point
  pub one_side : OneSide date body point

abbrev pub EveryDayTold : Type 0
EveryDayTold = (date : Date) (body : Body) (point : Point) → Told date body point
