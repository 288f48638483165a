-- `cases::sun_example::site` meets its contract: none of 7 to 9 applies.
use mathlib.Core.Path.{refl}
use Rattle.calendar.specs.Refusal.{first}
use Rattle.numbers.specs.Whole.{between}
use Rattle.cases.proofs.sun_example.site.Goals as goal

pub returns : goal.returns
unfolding first between
returns c = refl
