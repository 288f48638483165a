-- `header::fields_in` meets its contract.
use mathlib.Core.Path.{refl}
use Rattle.octets.specs.Octets.{are_narrow, total}
use Rattle.text.specs.Line.{all}
use Rattle.strip.specs.Format.{fields}
use Rattle.strip.proofs.header.fields_in.Goals as goal

pub read_fields-requires : goal.read_fields-requires
unfolding total are_narrow all
read_fields-requires c = (c.requires, (refl, refl))

pub returns : goal.returns
unfolding fields
returns c = c.read_fields.ensures
