-- Every eclipse keeps to its bounds: a separation goes the short way round, and every share holds.
use mathlib.Core.Path.{refl}
use Rattle.overlap.proofs.ShareHolds.{every_share_holds}
use Rattle.sky_vectors.specs.Geocentric.{geocentric}
use Rattle.sky_vectors.specs.Place.{direction, place_towards}
use Rattle.sky_vectors.specs.Station.{runner}
use Rattle.sky_vectors.specs.declared.geocentric.Body.TheVariants.{Moon, Sun}
use Rattle.eclipse.specs.Eclipse.{EveryEclipseInBounds, eclipse_at, eclipse_from, eclipse_of}
use Rattle.eclipse.specs.Radius.{moon_radius, sun_radius}
use Rattle.eclipse.specs.Separation.{separation}
use Rattle.eclipse.proofs.CrossLaws.{separation_most}

pub every_eclipse_in_bounds : EveryEclipseInBounds
unfolding eclipse_at eclipse_from eclipse_of
every_eclipse_in_bounds point instant =
    let to_sun = direction Sun (runner point) instant in
    let to_moon = direction Moon (runner point) instant in
    let e = (place_towards (runner point).latitude to_moon).elevation in
    record {
      separation_natural = refl;
      separation_most = separation_most to_sun to_moon;
      share_natural = refl;
      share_most =
          (every_share_holds (separation to_sun to_moon) (sun_radius (geocentric Sun instant.tt)) (moon_radius (geocentric Moon instant.tt) e)).at_most_whole;
    }
