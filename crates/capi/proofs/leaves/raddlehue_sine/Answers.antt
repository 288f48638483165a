-- `capi::leaves::raddlehue_sine` meets its contract.
use mathlib.Core.Path.{◌∙◌, ap}
use Rattle.number_rules.specs.Sine.{sine}
use Rattle.numbers.proofs.Machine.{any, passed}
use Rattle.capi.proofs.leaves.raddlehue_sine.Goals as goal

pub returns : goal.returns
returns c = passed c.sine.type_inv (c.sine.ensures ∙ ap sine (any c.ranges.angle).same)
