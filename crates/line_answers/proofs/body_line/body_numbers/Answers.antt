-- `line_answers::body_line::body_numbers` meets its contract.
use mathlib.Core.Path.{◌∙◌, refl, sym}
use Rattle.text.specs.Line.{answer}
use Rattle.line_answers.specs.BodyLine.{body_numbers}
use Rattle.line_answers.proofs.body_line.body_numbers.Goals as goal

pub returns-then-short_numbers : goal.returns-then-short_numbers
unfolding body_numbers
returns-then-short_numbers g c = simp (sym c.short_numbers.ensures ∙ c.if-short_numbers.true) c.line_numbers.ensures

pub returns-else-short_numbers : goal.returns-else-short_numbers
unfolding body_numbers answer
returns-else-short_numbers g c = simp (sym c.short_numbers.ensures ∙ c.if-short_numbers.false) refl
