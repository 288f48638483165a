-- `eclipse::disks::eclipse_from` meets its contract: what the bodies have in common is that of the rule, so both bodies and the directions to them are too.
use mathlib.Core.Path.{◌∙◌, ◌≡◌, subst⁻¹}
use lib.IntN.{ℤ}
use Rattle.numbers.proofs.Machine.{Mirror, asked, field}
use Rattle.sky_vectors.specs.Geocentric.{geocentric}
use Rattle.sky_vectors.specs.Orientation.{moment}
use Rattle.sky_vectors.specs.Place.{direction, from_surface}
use Rattle.sky_vectors.specs.SkyRange.{Reachable, SmallVector, Standing, direction_limit}
use Rattle.sky_vectors.specs.declared.geocentric.Body.{Body}
use Rattle.sky_vectors.specs.declared.geocentric.Body.TheVariants as Bodies
use Rattle.sky_vectors.specs.declared.geocentric.Geocentric.{Geocentric}
use Rattle.sky_vectors.specs.declared.station.Runner.{Runner}
use Rattle.sky_vectors.specs.declared.vector.Vector.{Vector}
use Rattle.sky_vectors.proofs.MomentLaws.{centre_is, centre_parallax, moment_nutation, moment_reached}
use Rattle.sky_vectors.proofs.SkySizes.{direction_small}
use Rattle.sum_rules.specs.declared.instant.Instant.{Instant}
use Rattle.eclipse.specs.Eclipse.{eclipse_from, eclipse_of}
use Rattle.eclipse.specs.EclipseRange.{MoonFar, ShortVector, SunFar}
use Rattle.eclipse.proofs.DirectionLaws.{direction_short, moon_far, sun_far}
use Rattle.eclipse.proofs.disks.eclipse_from.Goals as goal
use Rattle.eclipse.proofs.disks.eclipse_from.Goals.{After-from_surface-to_moon, After-moment_at-moment, Start}

module _ (s : Start) where
  abbrev runner : Runner
  runner = s.args.runner

  abbrev instant : Instant
  instant = s.args.instant

  abbrev stands : Standing runner
  stands = s.requires.0

  abbrev near : Reachable instant
  near = s.requires.1

  abbrev longitude : Mirror
  longitude = field runner.longitude stands.longitude_size tt

module _ (c : After-moment_at-moment) where
  abbrev start : Start
  start = (goal.at.After-moment_at-moment c).Start

  abbrev at : ℤ
  at = (runner start).longitude

  moment_is : c.moment_at-moment.result ≡ moment at (instant start)
  moment_is = c.moment_at-moment.ensures ∙ (λ i. moment ((longitude start).same i) (instant start))

  -- a body that was made of it, and the direction to it
  module _ (body : Body) {centre : Geocentric} (e : centre ≡ geocentric body c.moment_at-moment.result.tt.n) where
    body_is : centre ≡ geocentric body (instant start).tt
    body_is = centre_is at moment_is (near start) body e

    towards_is : {towards : Vector} → towards ≡ from_surface centre c.moment_at-moment.result.orientation (runner start).observer
        → towards ≡ direction body (runner start) (instant start)
    unfolding direction
    towards_is f = f ∙ (λ i. from_surface (body_is i) (moment_is i).orientation (runner start).observer)

-- both bodies, and both directions
module _ (c : After-from_surface-to_moon) where
  abbrev k : After-moment_at-moment
  k = (goal.at.After-from_surface-to_moon c).After-moment_at-moment

  sun_is : c.geocentric_at-sun.result ≡ geocentric Bodies.Sun (instant (start k)).tt
  sun_is = body_is k Bodies.Sun c.geocentric_at-sun.ensures

  moon_is : c.geocentric_at-moon.result ≡ geocentric Bodies.Moon (instant (start k)).tt
  moon_is = body_is k Bodies.Moon c.geocentric_at-moon.ensures

  to_sun_is : c.from_surface-to_sun.result ≡ direction Bodies.Sun (runner (start k)) (instant (start k))
  to_sun_is = towards_is k Bodies.Sun c.geocentric_at-sun.ensures c.from_surface-to_sun.ensures

  to_moon_is : c.from_surface-to_moon.result ≡ direction Bodies.Moon (runner (start k)) (instant (start k))
  to_moon_is = towards_is k Bodies.Moon c.geocentric_at-moon.ensures c.from_surface-to_moon.ensures

pub moment_at-moment-requires : goal.moment_at-moment-requires
moment_at-moment-requires c = let s = (goal.at.moment_at-moment-requires c).Start in (asked (longitude s) tt, near s)

pub geocentric_at-sun-requires : goal.geocentric_at-sun-requires
geocentric_at-sun-requires c =
    let m = (goal.at.geocentric_at-sun-requires c).After-moment_at-moment in
    (moment_reached (at m) (moment_is m) (near (start m)), moment_nutation (at m) (moment_is m) (near (start m)))

pub geocentric_at-moon-requires : goal.geocentric_at-moon-requires
geocentric_at-moon-requires c =
    let m = (goal.at.geocentric_at-moon-requires c).After-moment_at-moment in
    (moment_reached (at m) (moment_is m) (near (start m)), moment_nutation (at m) (moment_is m) (near (start m)))

pub from_surface-to_sun-requires : goal.from_surface-to_sun-requires
from_surface-to_sun-requires c =
    let m = (goal.at.from_surface-to_sun-requires c).After-moment_at-moment in
    let s = start m in
    (centre_parallax (at m) (moment_is m) (near s) Bodies.Sun c.geocentric_at-sun.ensures, (stands s).observer_size)

pub from_surface-to_moon-requires : goal.from_surface-to_moon-requires
from_surface-to_moon-requires c =
    let m = (goal.at.from_surface-to_moon-requires c).After-moment_at-moment in
    let s = start m in
    (centre_parallax (at m) (moment_is m) (near s) Bodies.Moon c.geocentric_at-moon.ensures, (stands s).observer_size)

pub invariant_of-eclipse_of : goal.invariant_of-eclipse_of
invariant_of-eclipse_of c =
    let b = (goal.at.invariant_of-eclipse_of c).After-from_surface-to_moon in
    let s = start (k b) in
    record { short = subst⁻¹ ShortVector (to_sun_is b) (direction_short Bodies.Sun (stands s) (near s)) }

pub invariant_of-eclipse_of-2 : goal.invariant_of-eclipse_of-2
invariant_of-eclipse_of-2 c =
    let b = (goal.at.invariant_of-eclipse_of-2 c).After-from_surface-to_moon in
    let s = start (k b) in
    record { short = subst⁻¹ ShortVector (to_moon_is b) (direction_short Bodies.Moon (stands s) (near s)) }

pub eclipse_of-requires : goal.eclipse_of-requires
eclipse_of-requires c =
    let b = (goal.at.eclipse_of-requires c).After-from_surface-to_moon in
    let s = start (k b) in
    let n = (instant s).tt in
    let far = (near s).tt_near in record {
      far = (subst⁻¹ SunFar (sun_is b) (sun_far n far), subst⁻¹ MoonFar (moon_is b) (moon_far n far));
      one_angle = ((stands s).latitude_angle, subst⁻¹ (SmallVector direction_limit) (to_moon_is b) (direction_small Bodies.Moon (stands s) (near s)));
    }

pub returns : goal.returns
unfolding eclipse_from
returns c =
    let b = (goal.at.returns c).After-from_surface-to_moon in
    c.eclipse_of.ensures ∙ (λ i. eclipse_of (sun_is b i) (moon_is b i) (to_sun_is b i) (to_moon_is b i) (runner (start (k b))).latitude)
