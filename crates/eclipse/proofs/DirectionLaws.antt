-- Every direction after parallax is short enough for a separation, and every body far enough for a disk.
use Prim.Native.Nat.{◌≤◌}
use native.Mathlib.Nat.{le_trans}
use lib.Dec.{lit≤}
use lib.IntN.{nat_abs, ℤ}
use Rattle.moon_sums.proofs.MoonSizes.{metres_least, metres_most}
use Rattle.numbers.proofs.SineCosineLaws.{one_angle}
use Rattle.sky_vectors.specs.Geocentric.{geocentric, moon_geocentric, sun_geocentric}
use Rattle.sky_vectors.specs.Orientation.{orientation}
use Rattle.sky_vectors.specs.Place.{direction, from_centre, from_surface}
use Rattle.sky_vectors.specs.SkyRange.{Reachable, SmallObserver, Standing, parallax_limit}
use Rattle.sky_vectors.specs.declared.geocentric.Body.{Body}
use Rattle.sky_vectors.specs.declared.geocentric.Body.TheVariants as Bodies
use Rattle.sky_vectors.specs.declared.geocentric.Geocentric.{Geocentric}
use Rattle.sky_vectors.specs.declared.observer.Observer.{Observer}
use Rattle.sky_vectors.specs.declared.orientation.Orientation.{Orientation}
use Rattle.sky_vectors.specs.declared.station.Runner.{Runner}
use Rattle.sky_vectors.proofs.Parallax.{parallax_small}
use Rattle.sky_vectors.proofs.SkySizes.{centre_small, equatorial_small, unit_small}
use Rattle.sum_rules.specs.Instant.{furthest}
use Rattle.sum_rules.specs.declared.instant.Instant.{Instant}
use Rattle.sun_sums.proofs.SunSizes.{R_least, R_most}
use Rattle.eclipse.specs.EclipseRange.{MoonDistant, MoonFar, ShortVector, SunFar, squared_length}
use Rattle.eclipse.proofs.LengthLaws.{centre_limit, equatorial_length, meridian_length, shifted_short, unit_length}

-- ---- directions
module _ (body : Geocentric) (at : Orientation) where
  centre_length : squared_length (from_centre body at) ≤ centre_limit
  unfolding from_centre
  centre_length =
      let l = one_angle body.longitude in
      let t = one_angle body.latitude in
      let ε = one_angle at.obliquity in
      let small = unit_small l t in
      meridian_length (one_angle at.sidereal) (equatorial_small ε small) (equatorial_length ε small (unit_length l t))

  surface_short : {observer : Observer} → nat_abs body.parallax ≤ parallax_limit → SmallObserver observer → ShortVector (from_surface body at observer)
  unfolding from_surface
  surface_short far near = shifted_short body.parallax far near (centre_small body at) centre_length

pub direction_short : (body : Body) {runner : Runner} {instant : Instant} → Standing runner → Reachable instant → ShortVector (direction body runner instant)
unfolding direction
direction_short body {runner} {instant} stands near =
    surface_short (geocentric body instant.tt) (orientation runner.longitude instant.ut instant.tt)
    (parallax_small body instant.tt near.tt_near) stands.observer_size

-- ---- distances, at an instant within reach
module _ (n : ℤ) (near : nat_abs n ≤ furthest) where
  pub sun_far : SunFar (geocentric Bodies.Sun n)
  unfolding sun_geocentric
  sun_far = record { least = R_least n near; most = le_trans (R_most n near) (lit≤ tt) }

  moon_distant : MoonDistant (geocentric Bodies.Moon n)
  unfolding moon_geocentric
  moon_distant = record { least = metres_least n near; most = le_trans (metres_most n near) (lit≤ tt) }

  pub moon_far : MoonFar (geocentric Bodies.Moon n)
  moon_far = record { distant = moon_distant; parallax_size = parallax_small Bodies.Moon n near }
