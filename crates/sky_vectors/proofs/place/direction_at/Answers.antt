-- `sky_vectors::place::direction_at` meets its contract: what the bodies have in common is that of the rule, so the body and its direction are too.
use mathlib.Core.Path.{◌∙◌, ◌≡◌}
use lib.IntN.{ℤ}
use Rattle.numbers.proofs.Machine.{Mirror, asked, field}
use Rattle.sky_vectors.proofs.MomentLaws.{centre_is, centre_parallax, moment_nutation, moment_reached}
use Rattle.sky_vectors.specs.Orientation.{moment}
use Rattle.sky_vectors.specs.Place.{direction, from_surface}
use Rattle.sky_vectors.specs.SkyRange.{Reachable}
use Rattle.sky_vectors.proofs.place.direction_at.Goals as goal
use Rattle.sky_vectors.proofs.place.direction_at.Goals.{After-moment_at-moment, Start}

module _ (s : Start) where
  abbrev near : Reachable s.args.instant
  near = s.requires.1

  abbrev longitude : Mirror
  longitude = field s.args.runner.longitude s.requires.0.longitude_size tt

module _ (c : After-moment_at-moment) where
  abbrev start : Start
  start = (goal.at.After-moment_at-moment c).Start

  abbrev at : ℤ
  at = start.args.runner.longitude

  moment_is : c.moment_at-moment.result ≡ moment at start.args.instant
  moment_is = c.moment_at-moment.ensures ∙ (λ i. moment ((longitude start).same i) start.args.instant)

pub moment_at-moment-requires : goal.moment_at-moment-requires
moment_at-moment-requires c = let s = (goal.at.moment_at-moment-requires c).Start in (asked (longitude s) tt, near s)

pub geocentric_at-centre-requires : goal.geocentric_at-centre-requires
geocentric_at-centre-requires c =
    (moment_reached (at (goal.at.geocentric_at-centre-requires c).After-moment_at-moment) (moment_is (goal.at.geocentric_at-centre-requires c).After-moment_at-moment) (near (start (goal.at.geocentric_at-centre-requires c).After-moment_at-moment)), moment_nutation (at (goal.at.geocentric_at-centre-requires c).After-moment_at-moment) (moment_is (goal.at.geocentric_at-centre-requires c).After-moment_at-moment) (near (start (goal.at.geocentric_at-centre-requires c).After-moment_at-moment)))

pub from_surface-requires : goal.from_surface-requires
from_surface-requires c =
    let s = start (goal.at.from_surface-requires c).After-moment_at-moment in
    (centre_parallax (at (goal.at.from_surface-requires c).After-moment_at-moment) (moment_is (goal.at.from_surface-requires c).After-moment_at-moment) (near s) s.args.body c.geocentric_at-centre.ensures, s.requires.0.observer_size)

pub returns : goal.returns
unfolding direction
returns c =
    let s = start (goal.at.returns c).After-moment_at-moment in
    c.from_surface.ensures
    ∙ (λ i. from_surface (centre_is (at (goal.at.returns c).After-moment_at-moment) (moment_is (goal.at.returns c).After-moment_at-moment) (near s) s.args.body c.geocentric_at-centre.ensures i) (moment_is (goal.at.returns c).After-moment_at-moment i).orientation s.args.runner.observer)
