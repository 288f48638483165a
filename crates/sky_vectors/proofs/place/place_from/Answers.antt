-- `sky_vectors::place::place_from` meets its contract.
use mathlib.Core.Path.{◌∙◌, ap, subst⁻¹}
use Rattle.sky_vectors.specs.Place.{place_from, place_towards}
use Rattle.sky_vectors.specs.SkyRange.{SmallVector, direction_limit}
use Rattle.sky_vectors.proofs.SkySizes.{direction_small}
use Rattle.sky_vectors.proofs.place.place_from.Goals as goal

pub place_towards-requires : goal.place_towards-requires
place_towards-requires c = (
  c.requires.0.latitude_angle,
  subst⁻¹ (SmallVector direction_limit) c.direction_at.ensures (direction_small c.args.body c.requires.0 c.requires.1),
)

pub returns : goal.returns
unfolding place_from
returns c =
    c.place_towards.ensures ∙ ap (place_towards c.args.runner.latitude) c.direction_at.ensures
