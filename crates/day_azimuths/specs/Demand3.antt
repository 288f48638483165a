-- Demand 3 of a day's azimuths: where the request is answered, the sums behind every azimuth lie within 01's bounds of the exact ones.
use Rattle.std.specs.Prelude.{◌≡◌, ◌*◌, ◌<◌, ℕ, nat_abs, ℤ}
use Rattle.day.specs.Curve.{minute_of}
use Rattle.day.specs.Date.{days}
use Rattle.day.specs.declared.date.Date.{Date}
use Rattle.sky_vectors.specs.declared.station.Point.{Point}
use Rattle.strip.specs.Checks.{steps}
use Rattle.sum_rules.specs.Accuracy.{SumsNear}
use Rattle.day_azimuths.specs.Answer.{day_azimuths}

pub record AzimuthsNear (date : Date) (point : Point) (step : ℤ) (room : ℕ) : Type 0 where
  pub near : (day_azimuths date point step room).refusal ≡ 0 → (i : ℕ) → i < steps step → SumsNear (minute_of date (days date) (i * nat_abs step)).tt

-- THE CLAIM, for every request
abbrev pub EveryAzimuthNear : Type 0
EveryAzimuthNear = (date : Date) (point : Point) (step : ℤ) (room : ℕ) → AzimuthsNear date point step room
