-- `sky_vectors::horizon::horizon_at` meets its contract.
use Rattle.sky_vectors.specs.Horizon.{horizon}
use Rattle.sky_vectors.specs.Rotation.{rotated}
use Rattle.sky_vectors.proofs.RotationLaws.{gave_across, gave_along}
use Rattle.sky_vectors.proofs.SkyMirror.{y_in}
use Rattle.sky_vectors.proofs.horizon.horizon_at.Goals as goal
use Rattle.sky_vectors.proofs.horizon.horizon_at.Goals.{After-rotated-turned, Start}

abbrev start : After-rotated-turned → Start
start k = k.before.before.before.before

pub returns : goal.returns
unfolding horizon rotated
returns c =
    let k = (goal.at.returns c).After-rotated-turned in
    let φ = (start k).args.latitude in
    let v = (start k).args.vector in
    let small = (start k).requires.1 in
    λ i. record {
      up = gave_along φ v.x v.z (start k).requires.0 small.x_size small.z_size k.rotated-turned.ensures i;
      north = gave_across φ v.x v.z (start k).requires.0 small.x_size small.z_size k.rotated-turned.ensures i;
      east = (y_in small tt).same i;
    }
