-- `curve::elevation_from` meets its contract.
use mathlib.Core.Path.{◌∙◌, ap, subst⁻¹}
use Rattle.numbers.proofs.Machine.{passed}
use Rattle.sky_vectors.proofs.SkySizes.{direction_small, horizon_small, widen}
use Rattle.sky_vectors.specs.Horizon.{elevation, horizon}
use Rattle.sky_vectors.specs.Place.{place_from, place_towards}
use Rattle.sky_vectors.specs.SkyRange.{SmallHorizon, SmallVector, direction_limit}
use Rattle.day.proofs.curve.elevation_from.Goals as goal
use Rattle.day.proofs.curve.elevation_from.Goals.{After-direction_at, After-horizon_at, Start}

-- the direction is small, and so is what is seen of it
module _ (c : After-direction_at) where
  abbrev s : Start
  s = (goal.at.After-direction_at c).Start

  small : SmallVector direction_limit c.direction_at.result
  small = subst⁻¹ (SmallVector direction_limit) c.direction_at.ensures (direction_small s.args.body s.requires.0 s.requires.1)

pub horizon_at-requires : goal.horizon_at-requires
horizon_at-requires c = ((s (goal.at.horizon_at-requires c).After-direction_at).requires.0.latitude_angle, widen tt (small (goal.at.horizon_at-requires c).After-direction_at))

pub elevation-requires : goal.elevation-requires
elevation-requires c =
    let k = (goal.at.elevation-requires c).After-direction_at in
    subst⁻¹ SmallHorizon c.horizon_at.ensures (horizon_small (s k).requires.0.latitude_angle (small k))

pub returns : goal.returns
unfolding place_from place_towards
returns c =
    let seen = (goal.at.returns c).After-horizon_at in
    let latitude = (s (goal.at.After-horizon_at seen).After-direction_at).args.runner.latitude in
    passed c.elevation.type_inv (c.elevation.ensures ∙ ap elevation (seen.horizon_at.ensures ∙ ap (horizon latitude) seen.direction_at.ensures))
