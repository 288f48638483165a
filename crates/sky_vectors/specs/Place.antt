-- From the centre to the runner (01, the section of that name).
use Rattle.std.specs.Prelude.{◌≤◌, nat_abs}
use Rattle.number_rules.specs.Angle.{quarter_turn}
use Rattle.arctangent.specs.Direction.{Reduced}
use Rattle.numbers.specs.declared.sine.SineCosine.{SineCosine}
use Rattle.sum_rules.specs.declared.instant.Instant.{Instant}
use Rattle.sky_vectors.specs.Geocentric.{geocentric}
use Rattle.sky_vectors.specs.Horizon.{azimuth, elevation, horizon}
use Rattle.sky_vectors.specs.Observer.{shifted}
use Rattle.sky_vectors.specs.Orientation.{orientation}
use Rattle.numbers.specs.SineCosine.{sine_cosine}
use Rattle.sky_vectors.specs.Station.{runner}
use Rattle.sky_vectors.specs.Vector.{equatorial, meridian, unit_vector}
use Rattle.sky_vectors.specs.declared.geocentric.Body.{Body}
use Rattle.sky_vectors.specs.declared.geocentric.Geocentric.{Geocentric}
use Rattle.sky_vectors.specs.declared.observer.Observer.{Observer}
use Rattle.sky_vectors.specs.declared.orientation.Orientation.{Orientation}
use Rattle.sky_vectors.specs.declared.place.Place.{Place}
use Rattle.sky_vectors.specs.declared.station.Point.{Point}
use Rattle.sky_vectors.specs.declared.station.Runner.{Runner}
use Rattle.sky_vectors.specs.declared.vector.Vector.{Vector}

-- the unit vector, by the obliquity ε and by θ = sidereal + longitude
unfoldable pub from_centre : Geocentric → Orientation → Vector
from_centre body at =
    meridian (sine_cosine at.sidereal)
    (equatorial (sine_cosine at.obliquity) (unit_vector (sine_cosine body.longitude) (sine_cosine body.latitude)))

-- a less p·f, z less p·g
unfoldable pub from_surface : Geocentric → Orientation → Observer → Vector
from_surface body at observer = shifted body.parallax observer (from_centre body at)

-- the direction of a body after parallax, from where a runner stands, at an instant
unfoldable pub direction : Body → Runner → Instant → Vector
direction body runner instant =
    from_surface (geocentric body instant.tt) (orientation runner.longitude instant.ut instant.tt) runner.observer

-- azimuth and elevation of a direction, at latitude φ
unfoldable pub place_towards : SineCosine → Vector → Place
place_towards φ vector = let seen = horizon φ vector in record { azimuth = azimuth seen; elevation = elevation seen }

-- of a body at an instant, from where a runner stands
unfoldable pub place_from : Body → Runner → Instant → Place
place_from body runner instant = place_towards runner.latitude (direction body runner instant)

-- the same, from a point on Earth
unfoldable pub place_at : Body → Point → Instant → Place
place_at body point instant = place_from body (runner point) instant

-- what every place keeps to: azimuth 0 to 35,999,999,999, where there is one, elevation within ±90 degrees
pub record InTurns (place : Place) : Type 0 where
  pub azimuth_reduced : Reduced place.azimuth
  pub elevation_size : nat_abs place.elevation ≤ quarter_turn

abbrev pub EveryPlaceInTurns : Type 0
EveryPlaceInTurns = (body : Body) (point : Point) (instant : Instant) → InTurns (place_at body point instant)
