-- `capi::leaves::raddlehue_arctangent` meets its contract.
use mathlib.Core.Path.{◌∙◌, ap}
use Rattle.arctangent.specs.Direction.{angle_or, mark}
use Rattle.arctangent.proofs.ArctangentLaws.{gave_direction, gave_reduced}
use Rattle.numbers.proofs.Machine.{any, passed}
use Rattle.capi.proofs.leaves.raddlehue_arctangent.Goals as goal

pub angle_or-requires : goal.angle_or-requires
angle_or-requires c =
    gave_reduced (any c.ranges.y) (any c.ranges.x) c.arctangent.ensures

pub returns : goal.returns
returns c =
    passed c.angle_or.type_inv (c.angle_or.ensures ∙ ap (angle_or mark) (gave_direction (any c.ranges.y) (any c.ranges.x) c.arctangent.ensures))
