-- Longitude, latitude, distance and parallax from the Earth's centre (01, "From the centre to the runner"), at TT n.
-- A divisor is a natural number, so metres and R stand there as sizes: both are above zero at every accepted instant (proofs: Parallax, and Distances of sums).
use Rattle.std.specs.Prelude.{◌*◌, ◌+ℤ◌, nat_abs, neg_ℤ, pos, ℤ}
use Rattle.arithmetic.specs.Floor.{⌊◌÷◌⌋}
use Rattle.number_rules.specs.Angle.{half_turn}
use Rattle.sum_rules.specs.Instant.{minus}
use Rattle.sum_rules.specs.Moon as Moon
use Rattle.sum_rules.specs.Nutation.{Δψ}
use Rattle.sum_rules.specs.Sun as Sun
use Rattle.sky_vectors.specs.Observer.{radius}
use Rattle.sky_vectors.specs.declared.geocentric.Geocentric.{Geocentric}
use Rattle.sky_vectors.specs.declared.geocentric.Body.{Body}
use Rattle.sky_vectors.specs.declared.geocentric.Body.TheVariants as Bodies

-- Moon longitude + Δψ; distance in metres; p = ⌊6,378,140·10⁹ / metres⌋
unfoldable pub moon_geocentric : ℤ → Geocentric
moon_geocentric n =
    record {
      longitude = pos (Moon.longitude n) +ℤ Δψ n;
      latitude = Moon.latitude n;
      distance = Moon.metres n;
      parallax = ⌊ pos (radius * 1_000_000_000) ÷ nat_abs (Moon.metres n) ⌋;
    }

-- L + 180 degrees + Δψ + ⌊-569,161·10¹⁰ / R⌋, latitude -B; distance R in 10⁻¹⁰ AU; p = ⌊42,635·10¹⁰ / R⌋
unfoldable pub sun_geocentric : ℤ → Geocentric
sun_geocentric n =
    record {
      longitude = Sun.longitude_degrees (Sun.L n) +ℤ pos half_turn +ℤ Δψ n +ℤ ⌊ minus (569_161 * 10_000_000_000) ÷ nat_abs (Sun.R n) ⌋;
      latitude = neg_ℤ (Sun.latitude_degrees (Sun.B n));
      distance = Sun.R n;
      parallax = ⌊ pos (42_635 * 10_000_000_000) ÷ nat_abs (Sun.R n) ⌋;
    }

-- of either body
abbrev pub geocentric : Body → ℤ → Geocentric
geocentric Bodies.Sun n = sun_geocentric n
geocentric Bodies.Moon n = moon_geocentric n
