-- Demand 3 (01, "Bounds for demand 3"): how near the sums at n are to the exact sums, one claim for each body.
use Rattle.std.specs.Prelude.{ℕ, ℤ}
use Rattle.exact.specs.Fraction.{ℚ, whole, nat, ◌+q◌, ◌-q◌, ◌*q◌, Within}
use Rattle.sum_rules.specs.ExactSums.{centuries, millennia, moon_longitude, moon_latitude, moon_metres, sun_L, sun_B, sun_R}
use Rattle.sum_rules.specs.Moon as Moon
use Rattle.sum_rules.specs.Sun as Sun

-- the bounds: the Moon in 10⁻⁸ degree and in metres, the Sun in 10⁻¹⁰ radian and AU
abbrev pub longitude_bound : ℚ
longitude_bound = nat 500

abbrev pub latitude_bound : ℚ
latitude_bound = nat 500

abbrev pub metres_bound : ℚ
metres_bound = nat 10

abbrev pub L_bound : ℚ
L_bound = nat 1000

abbrev pub B_bound : ℚ
B_bound = nat 100

abbrev pub R_bound : ℚ
R_bound = nat 500

-- short way round: after some whole number of turns a, in 10⁻⁸ degree, and x, in degrees, differ by at most b units
pub record Around (a : ℕ) (x b : ℚ) : Type 0 where
  pub turns : ℤ
  pub near : Within (nat a +q nat 36_000_000_000 *q whole turns -q nat 100_000_000 *q x) b

pub record MoonNear (n : ℤ) : Type 0 where
  pub longitude : Around (Moon.longitude n) (moon_longitude (centuries n)) longitude_bound
  pub latitude : Within (whole (Moon.latitude n) -q nat 100_000_000 *q moon_latitude (centuries n)) latitude_bound
  pub metres : Within (whole (Moon.metres n) -q moon_metres (centuries n)) metres_bound

-- the Sun before any whole turn is taken off
pub record SunNear (n : ℤ) : Type 0 where
  pub longitude : Within (whole (Sun.L n) -q nat 10_000_000_000 *q sun_L (millennia n)) L_bound
  pub latitude : Within (whole (Sun.B n) -q nat 10_000_000_000 *q sun_B (millennia n)) B_bound
  pub radius : Within (whole (Sun.R n) -q nat 10_000_000_000 *q sun_R (millennia n)) R_bound

-- both bodies at TT n
pub record SumsNear (n : ℤ) : Type 0 where
  pub moon : MoonNear n
  pub sun : SunNear n
