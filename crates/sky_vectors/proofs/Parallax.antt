-- A parallax is small, since the Moon and the Sun keep their distance.
use Prim.Native.Nat.{◌*◌, ◌<◌, ◌≤◌, suc, ℕ}
use native.Mathlib.Nat.{div-lt_iff_lt-mul, le_of_suc-le-suc, lt_of_lt_of_le, mul-le-mul_left}
use lib.Dec.{lit<}
use lib.IntN.{nat_abs, pos, ℤ}
use lib.Signed.{◌≤ℤ◌}
use Rattle.arithmetic.specs.Floor.{⌊◌÷◌⌋}
use Rattle.arithmetic.proofs.Sizes.{at_least}
use Rattle.sky_vectors.specs.Geocentric.{geocentric, moon_geocentric, sun_geocentric}
use Rattle.sky_vectors.specs.Observer.{radius}
use Rattle.sky_vectors.specs.SkyRange.{parallax_limit}
use Rattle.sky_vectors.specs.declared.geocentric.Body.{Body}
use Rattle.sun_sums.proofs.SunSizes.{R_least}
use Rattle.moon_sums.proofs.MoonSizes.{metres_least}
use Rattle.sum_rules.specs.Instant.{furthest}
use Rattle.sum_rules.specs.Moon as Moon
use Rattle.sum_rules.specs.Sun as Sun
use Rattle.sky_vectors.specs.declared.geocentric.Body.TheVariants as Bodies

-- what a distance of at least m leaves of a
over_far : (a m k : ℕ) (z : ℤ) → 0 < m → pos m ≤ℤ z → a < suc k * m → nat_abs ⌊ pos a ÷ nat_abs z ⌋ ≤ k
unfolding ⌊◌÷◌⌋
over_far a m k z above far h =
    let wide : m ≤ nat_abs z = at_least far in
    le_of_suc-le-suc ((div-lt_iff_lt-mul (lt_of_lt_of_le above wide)).1 (lt_of_lt_of_le h (mul-le-mul_left (suc k) wide)))

pub parallax_small : (body : Body) (n : ℤ) → nat_abs n ≤ furthest → nat_abs (geocentric body n).parallax ≤ parallax_limit
unfolding sun_geocentric moon_geocentric
parallax_small Bodies.Sun n h = over_far (42_635 * 10_000_000_000) 9_800_000_000 parallax_limit (Sun.R n) (lit< tt) (R_least n h) (lit< tt)
parallax_small Bodies.Moon n h = over_far (radius * 1_000_000_000) 350_000_000 parallax_limit (Moon.metres n) (lit< tt) (metres_least n h) (lit< tt)
