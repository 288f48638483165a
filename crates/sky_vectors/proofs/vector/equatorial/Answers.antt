-- `sky_vectors::vector::equatorial` meets its contract.
use mathlib.Core.Path.{◌∙◌}
use Rattle.sky_vectors.specs.Rotation.{rotated}
use Rattle.sky_vectors.specs.Vector.{equatorial}
use Rattle.sky_vectors.proofs.RotationLaws.{equatorial_z, gave_across, gave_along}
use Rattle.sky_vectors.proofs.SkyMirror.{x_in}
use Rattle.sky_vectors.proofs.vector.equatorial.Goals as goal
use Rattle.sky_vectors.proofs.vector.equatorial.Goals.{After-rotated-turned, Start}

abbrev start : After-rotated-turned → Start
start k = k.before.before.before.before

pub returns : goal.returns
unfolding equatorial rotated
returns c =
    let k = (goal.at.returns c).After-rotated-turned in
    let ε = (start k).args.obliquity in
    let v = (start k).args.vector in
    let small = (start k).requires.1 in
    λ i. record {
      x = (x_in small tt).same i;
      y = gave_across ε v.z v.y (start k).requires.0 small.z_size small.y_size k.rotated-turned.ensures i;
      z = (gave_along ε v.z v.y (start k).requires.0 small.z_size small.y_size k.rotated-turned.ensures ∙ equatorial_z ε v) i;
    }
