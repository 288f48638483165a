-- The eclipse at an instant (02, Item 4).
use Rattle.std.specs.Prelude.{◌≡◌, ◌≤◌, nat_abs, pos}
use Rattle.number_rules.specs.Angle.{half_turn}
use Rattle.numbers.specs.declared.sine.SineCosine.{SineCosine}
use Rattle.overlap.specs.Overlap.{share, whole}
use Rattle.sky_vectors.specs.Geocentric.{geocentric}
use Rattle.sky_vectors.specs.Place.{direction, place_towards}
use Rattle.sky_vectors.specs.Station.{runner}
use Rattle.sky_vectors.specs.declared.geocentric.Body.TheVariants.{Moon, Sun}
use Rattle.sky_vectors.specs.declared.geocentric.Geocentric.{Geocentric}
use Rattle.sky_vectors.specs.declared.station.Point.{Point}
use Rattle.sky_vectors.specs.declared.station.Runner.{Runner}
use Rattle.sky_vectors.specs.declared.vector.Vector.{Vector}
use Rattle.sum_rules.specs.declared.instant.Instant.{Instant}
use Rattle.eclipse.specs.Radius.{moon_radius, sun_radius}
use Rattle.eclipse.specs.Separation.{separation}
use Rattle.eclipse.specs.declared.disks.Eclipse.{Eclipse}

-- separation, both radii and share, of the two bodies and the directions to them, at latitude φ; the Moon's elevation is the one without refraction
unfoldable pub eclipse_of : Geocentric → Geocentric → Vector → Vector → SineCosine → Eclipse
eclipse_of sun moon to_sun to_moon φ =
    let apart = separation to_sun to_moon in
    let rs = sun_radius sun in
    let rm = moon_radius moon (place_towards φ to_moon).elevation in
    record { separation = pos apart; sun_radius = pos rs; moon_radius = pos rm; share = pos (share apart rs rm) }

-- the two directions after parallax, from where a runner stands
unfoldable pub eclipse_from : Runner → Instant → Eclipse
eclipse_from runner instant =
    eclipse_of (geocentric Sun instant.tt) (geocentric Moon instant.tt) (direction Sun runner instant) (direction Moon runner instant) runner.latitude

-- the same, from a point on Earth
unfoldable pub eclipse_at : Point → Instant → Eclipse
eclipse_at point instant = eclipse_from (runner point) instant

-- what every eclipse keeps to: a separation of 0 to 180 degrees, a share of 0 to 1,000,000
pub record InBounds (eclipse : Eclipse) : Type 0 where
  pub separation_natural : eclipse.separation ≡ pos (nat_abs eclipse.separation)
  pub separation_most : nat_abs eclipse.separation ≤ half_turn
  pub share_natural : eclipse.share ≡ pos (nat_abs eclipse.share)
  pub share_most : nat_abs eclipse.share ≤ whole

abbrev pub EveryEclipseInBounds : Type 0
EveryEclipseInBounds = (point : Point) (instant : Instant) → InBounds (eclipse_at point instant)
