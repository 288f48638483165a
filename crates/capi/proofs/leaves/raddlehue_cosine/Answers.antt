-- `capi::leaves::raddlehue_cosine` meets its contract.
use mathlib.Core.Path.{◌∙◌, ap}
use Rattle.number_rules.specs.Sine.{cosine}
use Rattle.numbers.proofs.Machine.{any, passed}
use Rattle.capi.proofs.leaves.raddlehue_cosine.Goals as goal

pub returns : goal.returns
returns c = passed c.cosine.type_inv (c.cosine.ensures ∙ ap cosine (any c.ranges.angle).same)
