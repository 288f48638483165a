-- `sky_vectors::place::place_towards` meets its contract.
use mathlib.Core.Path.{◌∙◌, ap, subst⁻¹}
use Rattle.numbers.proofs.Machine.{passed}
use Rattle.sky_vectors.specs.Horizon.{azimuth, elevation}
use Rattle.sky_vectors.specs.Place.{place_towards}
use Rattle.sky_vectors.specs.SkyRange.{SmallHorizon}
use Rattle.sky_vectors.proofs.SkySizes.{horizon_small}
use Rattle.sky_vectors.proofs.place.place_towards.Goals as goal

pub elevation-requires : goal.elevation-requires
elevation-requires c =
    subst⁻¹ SmallHorizon c.horizon_at-seen.ensures (horizon_small c.requires.0 c.requires.1)

pub returns : goal.returns
unfolding place_towards
returns c =
    let seen = c.horizon_at-seen.ensures in
    λ i. record {
      azimuth = (c.azimuth.ensures ∙ ap azimuth seen) i;
      elevation = passed c.elevation.type_inv (c.elevation.ensures ∙ ap elevation seen) i;
    }
