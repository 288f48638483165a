-- `refraction::formula::measured_refraction` meets its contract.
use mathlib.Core.Path.{◌∙◌, ap}
use Rattle.numbers.proofs.Machine.{arg, passed}
use Rattle.numbers.specs.SineCosine.{sine_cosine}
use Rattle.refraction.specs.Refraction.{formula, measured_refraction, raised}
use Rattle.numbers.proofs.SineCosineLaws.{gave_one_angle, gave_sine_cosine}
use Rattle.refraction.proofs.formula.measured_refraction.Goals as goal

pub formula-requires : goal.formula-requires
formula-requires c = gave_one_angle _ c.sine_cosine.ensures

pub returns : goal.returns
unfolding measured_refraction
returns c =
    c.formula.ensures
    ∙ ap (formula c.args.air.pressure c.args.air.temperature)
    (gave_sine_cosine _ c.sine_cosine.ensures
    ∙ ap sine_cosine (passed c.raised.type_inv (c.raised.ensures ∙ ap raised (arg c.ranges.e c.requires.size).same)))
