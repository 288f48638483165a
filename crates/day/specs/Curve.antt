-- The curve (02, Item 1): a whole day of 1,440 elevations, worked once and kept.
use Rattle.std.specs.Prelude.{List, [], ◌≡◌, ◌++◌, ◌∷◌, ◌*◌, ◌-◌, ◌<◌, suc, zero, ℕ, ◌-ℤ◌, pos, ℤ, ◌<ℤ◌, get_or, length}
use Rattle.arctangent.specs.Direction.{Direction}
use Rattle.sum_rules.specs.Instant.{Accepted, first_day, second, terrestrial_time, universal_time}
use Rattle.sum_rules.specs.declared.instant.Instant.{Instant}
use Rattle.sky_vectors.specs.Place.{place_at, place_from}
use Rattle.sky_vectors.specs.declared.geocentric.Body.{Body}
use Rattle.sky_vectors.specs.declared.station.Point.{Point}
use Rattle.sky_vectors.specs.declared.station.Runner.{Runner}
use Rattle.day.specs.Date.{days}
use Rattle.day.specs.declared.date.Date.{Date}

-- minutes 0 to 1439
abbrev pub minutes : ℕ
minutes = 1440

-- the last of them, 23:59
abbrev pub last_minute : ℕ
last_minute = minutes - 1

-- units of time to a minute
abbrev pub minute : ℕ
minute = 60 * second

-- minute m of the day d days from 2000-01-01, with the date's UT1 minus UTC and delta-T: 01's instant at hh:mm:00 (`Claims`)
unfoldable pub minute_of : Date → ℤ → ℕ → Instant
minute_of date d m =
    let ut = universal_time d (pos (m * minute)) date.ut1 in
    record { ut = ut; tt = terrestrial_time ut date.delta_t }

-- the elevation without refraction at that minute
abbrev pub elevation_on : Date → Body → Point → ℤ → ℕ → ℤ
elevation_on date body point d m = (place_at body point (minute_of date d m)).elevation

-- the azimuth at a minute of the date
abbrev pub azimuth_on : Date → Body → Point → ℕ → Direction
azimuth_on date body point m = (place_at body point (minute_of date (days date) m)).azimuth

-- f of each number below n, in order
unfoldable pub each_below : {A : Type 0} → (ℕ → A) → ℕ → List A
each_below f zero = []
each_below f (suc n) = each_below f n ++ (f n ∷ [])

-- entry m is the elevation at minute m of the date
unfoldable pub curve : Date → Body → Point → List ℤ
curve date body point = each_below (elevation_on date body point (days date)) minutes

-- ---- how it is worked

-- the same from where a runner stands, who is worked out once
abbrev pub elevation_from : Body → Runner → Date → ℤ → ℕ → ℤ
elevation_from body runner date d m = (place_from body runner (minute_of date d m)).elevation

abbrev pub azimuth_from : Body → Runner → Date → ℤ → ℕ → Direction
azimuth_from body runner date d m = (place_from body runner (minute_of date d m)).azimuth

-- an entry for each minute, of which P holds
pub record EachMinute (P : ℕ → ℤ → Type 0) (curve : List ℤ) : Type 0 where
  pub whole : length curve ≡ minutes
  pub entry : (m : ℕ) → m < minutes → P m (get_or curve m (pos 0))

-- a day whose every minute is accepted
pub record AcceptedDay (date : Date) (d : ℤ) : Type 0 where
  pub each : (m : ℕ) → m < minutes → Accepted d (pos (m * minute)) date.ut1 date.delta_t

-- a day that is the first, or whose day before is accepted
pub record DayBefore (date : Date) (d : ℤ) : Type 0 where
  pub accepted : first_day <ℤ d → AcceptedDay date (d -ℤ pos 1)
