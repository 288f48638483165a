-- `line_answers::places_line::places_line` meets its contract.
use mathlib.Core.Path.{◌∙◌, ap}
use Rattle.sky.specs.Answer.{nowhere, place_numbers}
use Rattle.line_answers.proofs.PrintedLaws.{printed}
use Rattle.line_answers.specs.PlacesLine.{place_line, places_line}
use Rattle.line_answers.specs.Printed.{answer_line}
use Rattle.line_answers.proofs.places_line.places_line.Goals as goal

pub returns : goal.returns
unfolding places_line
returns c =
    printed place_numbers nowhere place_line c.places_answer.result c.map_or_else.result c.map_or_else.ensures ∙ ap (answer_line place_line) c.places_answer.ensures.equal
