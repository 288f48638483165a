-- `sky_vectors::vector::meridian` meets its contract.
use Rattle.sky_vectors.specs.Rotation.{rotated}
use Rattle.sky_vectors.specs.Vector.{meridian}
use Rattle.sky_vectors.proofs.RotationLaws.{gave_across, gave_along}
use Rattle.sky_vectors.proofs.SkyMirror.{z_in}
use Rattle.sky_vectors.proofs.vector.meridian.Goals as goal
use Rattle.sky_vectors.proofs.vector.meridian.Goals.{After-rotated-turned, Start}

abbrev start : After-rotated-turned → Start
start k = k.before.before.before.before

pub returns : goal.returns
unfolding meridian rotated
returns c =
    let k = (goal.at.returns c).After-rotated-turned in
    let θ = (start k).args.sidereal in
    let v = (start k).args.vector in
    let small = (start k).requires.1 in
    λ i. record {
      x = gave_along θ v.x v.y (start k).requires.0 small.x_size small.y_size k.rotated-turned.ensures i;
      y = gave_across θ v.x v.y (start k).requires.0 small.x_size small.y_size k.rotated-turned.ensures i;
      z = (z_in small tt).same i;
    }
