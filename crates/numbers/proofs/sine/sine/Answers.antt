-- `numbers::sine::sine` meets its contract.
use mathlib.Core.Path.{◌∙◌, ap}
use Rattle.number_rules.specs.Sine.{sine, sine_at}
use Rattle.numbers.proofs.Machine.{passed}
use Rattle.numbers.proofs.AngleLaws.{new_below, new_is}
use Rattle.numbers.proofs.sine.sine.Goals as goal

pub sine_at-requires : goal.sine_at-requires
sine_at-requires c = new_below c.ranges.x c.new-a.ensures

pub returns : goal.returns
unfolding sine
returns c = passed c.sine_at.type_inv (c.sine_at.ensures ∙ ap sine_at (new_is c.ranges.x c.new-a.ensures))
