-- Every case by hand holds.
use mathlib.Core.Path.{refl}
use Rattle.arithmetic.specs.Each.{more, none}
use Rattle.arithmetic.specs.Floor.{◌modulo◌, ⌊◌÷◌⌋}
use Rattle.heading.specs.Heading.{clockwise}
use Rattle.number_rules.specs.Angle.{reduced}
use Rattle.turning_points.specs.Arc.{distance, short_way, value_on}
use Rattle.turning_points.specs.Cases.{CasesHold}

pub cases_hold : CasesHold
unfolding value_on short_way distance clockwise reduced ⌊◌÷◌⌋ ◌modulo◌
cases_hold = more refl (more refl (more refl (more refl (more refl (more refl (more refl (more refl (more refl (more refl none)))))))))
