-- Every case by hand of the middle of two azimuths holds.
use mathlib.Core.Path.{refl}
use Rattle.arithmetic.specs.Each.{more, none}
use Rattle.heading.specs.Cases.{CasesHold}
use Rattle.heading.specs.Heading.{clockwise, is_reduced, middle, middle_of}

pub cases_hold : CasesHold
unfolding middle middle_of is_reduced clockwise
cases_hold = more refl (more refl (more refl none))
