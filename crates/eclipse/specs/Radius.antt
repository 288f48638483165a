-- The radii of the two disks (02, Item 4), in 10⁻⁸ degree.
use Rattle.std.specs.Prelude.{◌*◌, ◌/◌, ℕ, ◌+ℤ◌, nat_abs, pos, ℤ}
use Rattle.number_rules.specs.Sine.{sine}
use Rattle.sky_vectors.specs.Product.{◌·◌}
use Rattle.sky_vectors.specs.declared.geocentric.Geocentric.{Geocentric}

-- 959.63 / 3600R, R in 10⁻¹⁰ of the unit
unfoldable pub sun_radius : Geocentric → ℕ
sun_radius sun = 9_596_300_000_000_000_000 / (36 * nat_abs sun.distance)

-- the report's equation 59, with the elevation e without refraction: 358,473,400 (1 + sin e sin π) / 3600Δ; sin π is the parallax, and Δ, in kilometres there, in metres
unfoldable pub moon_radius : Geocentric → ℤ → ℕ
moon_radius moon e = 358_473_400 * nat_abs (pos 1_000_000_000 +ℤ moon.parallax · sine e) / (36 * nat_abs moon.distance)
