-- `text::line::is_number` meets its contract.
use Rattle.std.proofs.Common.{◌∙◌, ap, sym}
use Rattle.text.specs.Line.{is_natural}
use Rattle.text.proofs.LineLaws.{number_bare, number_behind}
use Rattle.text.proofs.StdLaws.{sign_is}
use Rattle.text.proofs.line.is_number.Goals as goal

pub returns-in-Some : goal.returns-in-Some
returns-in-Some c =
    let a = c.args in
    let found = c.in-Some.ensures.cases in
    c.is_natural.ensures ∙ ap (is_natural a.most) found.1 ∙ sym (number_behind a.word.now (sym (sign_is a.word.now) ∙ found.0) a.most)

pub returns-in-None : goal.returns-in-None
returns-in-None c =
    let a = c.args in
    c.is_natural-in-None.ensures ∙ sym (number_bare a.word.now (sym (sign_is a.word.now) ∙ c.in-None.ensures.cases) a.most)
