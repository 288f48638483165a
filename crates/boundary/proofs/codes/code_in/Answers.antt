-- `boundary::codes::code_in` meets its contract.
use mathlib.Core.Path.{◌∙◌, ap}
use Rattle.numbers.proofs.Machine.{any}
use Rattle.boundary.specs.Codes.{code_in}
use Rattle.boundary.proofs.CodeLaws.{read_code}
use Rattle.boundary.proofs.codes.code_in.Goals as goal

pub returns : goal.returns
returns c = c.unwrap_or.ensures ∙ read_code _ _ c.try_from.ensures ∙ ap code_in (any c.ranges.number).same
