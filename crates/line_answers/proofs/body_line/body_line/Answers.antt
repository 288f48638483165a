-- `line_answers::body_line::body_line` meets its contract.
use mathlib.Core.Path.{◌∙◌, sym}
use Rattle.text.specs.Cases.{bytes}
use Rattle.line_answers.specs.BodyLine.{body_line}
use Rattle.line_answers.proofs.body_line.body_line.Goals as goal

pub returns-then-begins : goal.returns-then-begins
unfolding body_line bytes
returns-then-begins c = simp (sym c.begins.ensures ∙ c.if-begins.true)

pub returns-then-begins-2 : goal.returns-then-begins-2
unfolding body_line bytes
returns-then-begins-2 c =
    simp (sym c.begins.ensures ∙ c.if-begins.false, sym c.begins-2.ensures ∙ c.if-begins-2.true)

pub returns : goal.returns
unfolding body_line bytes
returns c =
    simp (sym c.begins.ensures ∙ c.if-begins.false, sym c.begins-2.ensures ∙ c.if-begins-2.false)
