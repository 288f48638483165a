-- `moon_sums::moon::added` meets its contract.
use mathlib.Core.Path.{◌∙◌, ap}
use lib.IntN.{pos}
use Rattle.number_rules.specs.Sine.{sine}
use Rattle.numbers.proofs.Machine.{Mirror, ◌⊗◌, any, arg, fits, gave, kept, lit}
use Rattle.number_rules.proofs.SineSize.{sine_most}
use Rattle.moon_sums.proofs.moon.added.Goals as goal
use Rattle.moon_sums.proofs.moon.added.Goals.{After-sine, Start}

abbrev factor : Start → Mirror
factor s = lit (pos 100) ⊗ arg s.ranges.weight s.requires

abbrev product : After-sine → Mirror
product c =
    kept (factor c.before) tt
    ⊗ gave c.sine.type_inv (c.sine.ensures ∙ ap sine (any c.ranges.angle).same) (sine_most c.args.angle)

pub overflow_mul-result-2 : goal.overflow_mul-result-2
overflow_mul-result-2 c = fits (product c) tt

pub returns : goal.returns
returns c = (kept (product c) tt).same
