-- A day that is worked is a strip that can be written.
use Rattle.std.specs.Prelude.{◌≡◌, ℕ, ℤ}
use Rattle.calendar.specs.Refusal.{first}
use Rattle.day.specs.declared.date.Date.{Date}
use Rattle.sky_vectors.specs.declared.geocentric.Body.{Body}
use Rattle.sky_vectors.specs.declared.station.Point.{Point}
use Rattle.strip.specs.Format.{Strip, strip_of}
use Rattle.strip.specs.declared.air.StripAir.TheVariants.{None}
use Rattle.strip_writer.specs.Writing.{strip_refusals}
use Rattle.day_azimuths.specs.Answer.{day_azimuths}
use Rattle.day_azimuths.specs.Azimuths.{worked}

-- the strip of a day: its header from the request, without air, and its azimuths
abbrev pub day_strip : Date → Body → Point → ℤ → Strip
day_strip date body point step =
    strip_of
    (record {
      air = None;
      body = body;
      year = date.year;
      month = date.month;
      day = date.day;
      longitude = point.longitude;
      latitude = point.latitude;
      step = step;
    })
    (worked date body point step)

-- THE CLAIM: the writer refuses none whose request is answered, but for a small buffer
abbrev pub EveryDayWritable : Type 0
EveryDayWritable =
    (date : Date) (body : Body) (point : Point) (step : ℤ) (room : ℕ) → (day_azimuths date point step room).refusal ≡ 0
    → first (strip_refusals (day_strip date body point step)) ≡ 0
