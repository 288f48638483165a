-- `sky_vectors::horizon::slope` meets its contract.
use mathlib.Core.Path.{◌∙◌, ap}
use Rattle.arctangent.specs.Direction.{angle_or}
use Rattle.arctangent.proofs.ArctangentLaws.{gave_direction, gave_reduced}
use Rattle.numbers.proofs.Machine.{any, passed}
use Rattle.sky_vectors.specs.Horizon.{elevation_of_zeros, slope}
use Rattle.sky_vectors.proofs.horizon.slope.Goals as goal

pub angle_or-requires : goal.angle_or-requires
angle_or-requires c =
    gave_reduced (any c.ranges.up) (any c.ranges.level) c.arctangent.ensures

pub returns : goal.returns
unfolding slope
returns c =
    passed c.angle_or.type_inv
    (c.angle_or.ensures ∙ ap (angle_or elevation_of_zeros) (gave_direction (any c.ranges.up) (any c.ranges.level) c.arctangent.ensures))
