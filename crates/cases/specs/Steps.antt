-- Where the equator's frame is read off the horizon's: at the south pole of an Earth without size.
use Rattle.number_rules.specs.Angle.{quarter_turn}
use Rattle.sky_vectors.specs.Place.{from_centre, place_towards}
use Rattle.numbers.specs.SineCosine.{sine_cosine}
use Rattle.sky_vectors.specs.declared.geocentric.Geocentric.{Geocentric}
use Rattle.sky_vectors.specs.declared.orientation.Orientation.{Orientation}
use Rattle.sky_vectors.specs.declared.place.Place.{Place}
use Rattle.sum_rules.specs.Instant.{minus}

-- turned by a sidereal angle θ: azimuth α - θ, elevation -δ
abbrev pub from_south_pole : Geocentric → Orientation → Place
from_south_pole centre at = place_towards (sine_cosine (minus quarter_turn)) (from_centre centre at)
