-- `sky_vectors::place::from_centre` meets its contract: each call's equation, put into the next.
use mathlib.Core.Path.{◌∙◌, ◌≡◌, ap, ap₂, refl, subst⁻¹}
use Rattle.numbers.proofs.Machine.{passed}
use Rattle.sky_vectors.specs.Place.{from_centre}
use Rattle.numbers.specs.SineCosine.{OneAngle, sine_cosine}
use Rattle.sky_vectors.specs.SkyRange.{SmallVector}
use Rattle.sky_vectors.specs.Vector.{equatorial, meridian, unit_vector}
use Rattle.numbers.proofs.SineCosineLaws.{gave_one_angle, gave_sine_cosine}
use Rattle.sky_vectors.proofs.SkySizes.{equatorial_small, unit_small, widen}
use Rattle.sky_vectors.proofs.place.from_centre.Goals as goal
use Rattle.sky_vectors.proofs.place.from_centre.Goals.{After-equatorial, After-sine_cosine-epsilon, After-sine_cosine-l, After-sine_cosine-t, After-sine_cosine-theta, After-struct_told-1, After-struct_told-2-1, After-struct_told-3-1, After-struct_told-4-1, After-unit_vector, Start}

-- each sine and cosine is that of the rule
module _ (c : After-sine_cosine-epsilon) where
  abbrev by_sidereal : After-sine_cosine-theta
  by_sidereal = (goal.at.After-sine_cosine-epsilon c).After-sine_cosine-theta

  abbrev by_latitude : After-sine_cosine-t
  by_latitude = (goal.at.After-sine_cosine-theta by_sidereal).After-sine_cosine-t

  abbrev by_longitude : After-sine_cosine-l
  by_longitude = (goal.at.After-sine_cosine-t by_latitude).After-sine_cosine-l

  abbrev obliquity_read : After-struct_told-4-1
  obliquity_read = (goal.at.After-sine_cosine-l by_longitude).After-struct_told-4-1

  abbrev sidereal_read : After-struct_told-3-1
  sidereal_read = (goal.at.After-struct_told-4-1 obliquity_read).After-struct_told-3-1

  abbrev latitude_read : After-struct_told-2-1
  latitude_read = (goal.at.After-struct_told-3-1 sidereal_read).After-struct_told-2-1

  abbrev longitude_read : After-struct_told-1
  longitude_read = (goal.at.After-struct_told-2-1 latitude_read).After-struct_told-1

  abbrev start : Start
  start = (goal.at.After-struct_told-1 longitude_read).Start

  l_is : by_longitude.sine_cosine-l.result ≡ sine_cosine start.args.body.longitude
  l_is = gave_sine_cosine _ by_longitude.sine_cosine-l.ensures ∙ ap sine_cosine (passed longitude_read.type_inv.body.0.1 refl)

  t_is : by_latitude.sine_cosine-t.result ≡ sine_cosine start.args.body.latitude
  t_is = gave_sine_cosine _ by_latitude.sine_cosine-t.ensures ∙ ap sine_cosine (passed latitude_read.struct_told-2-1.given.1.0.1 refl)

  θ_is : by_sidereal.sine_cosine-theta.result ≡ sine_cosine start.args.orientation.sidereal
  θ_is = gave_sine_cosine _ by_sidereal.sine_cosine-theta.ensures ∙ ap sine_cosine (passed sidereal_read.type_inv.orientation.0.1 refl)

  ε_is : c.sine_cosine-epsilon.result ≡ sine_cosine start.args.orientation.obliquity
  ε_is = gave_sine_cosine _ c.sine_cosine-epsilon.ensures ∙ ap sine_cosine (passed obliquity_read.struct_told-4-1.given.1.0.1 refl)

  l_angle : OneAngle by_longitude.sine_cosine-l.result
  l_angle = gave_one_angle _ by_longitude.sine_cosine-l.ensures

  t_angle : OneAngle by_latitude.sine_cosine-t.result
  t_angle = gave_one_angle _ by_latitude.sine_cosine-t.ensures

  θ_angle : OneAngle by_sidereal.sine_cosine-theta.result
  θ_angle = gave_one_angle _ by_sidereal.sine_cosine-theta.ensures

  ε_angle : OneAngle c.sine_cosine-epsilon.result
  ε_angle = gave_one_angle _ c.sine_cosine-epsilon.ensures

-- sizes on the way
unit_is_small : (c : After-unit_vector) → SmallVector 1_001_000_000 c.unit_vector.result
unit_is_small c = subst⁻¹ (SmallVector 1_001_000_000) c.unit_vector.ensures (unit_small (l_angle (goal.at.After-unit_vector c).After-sine_cosine-epsilon) (t_angle (goal.at.After-unit_vector c).After-sine_cosine-epsilon))

equatorial_is_small : (c : After-equatorial) → SmallVector 1_425_000_000 c.equatorial.result
equatorial_is_small c =
    subst⁻¹ (SmallVector 1_425_000_000) c.equatorial.ensures (equatorial_small (ε_angle (goal.at.After-equatorial c).After-sine_cosine-epsilon) (unit_is_small (goal.at.After-equatorial c).After-unit_vector))

pub unit_vector-requires : goal.unit_vector-requires
unit_vector-requires c = (l_angle (goal.at.unit_vector-requires c).After-sine_cosine-epsilon, t_angle (goal.at.unit_vector-requires c).After-sine_cosine-epsilon)

pub equatorial-requires : goal.equatorial-requires
equatorial-requires c = (ε_angle (goal.at.equatorial-requires c).After-sine_cosine-epsilon, widen tt (unit_is_small (goal.at.equatorial-requires c).After-unit_vector))

pub meridian-requires : goal.meridian-requires
meridian-requires c = (θ_angle (goal.at.meridian-requires c).After-sine_cosine-epsilon, widen tt (equatorial_is_small (goal.at.meridian-requires c).After-equatorial))

pub returns : goal.returns
unfolding from_centre
returns c =
    let k = (goal.at.returns c).After-sine_cosine-epsilon in
    c.meridian.ensures
    ∙ ap₂ meridian (θ_is k) (c.equatorial.ensures ∙ ap₂ equatorial (ε_is k) (c.unit_vector.ensures ∙ ap₂ unit_vector (l_is k) (t_is k)))
