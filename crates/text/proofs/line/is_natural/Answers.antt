-- `text::line::is_natural` meets its contract.
use Rattle.std.proofs.Common.{◌∙◌, arith}
use Rattle.std.proofs.lemmas.Bool.Decides.{nat_tests}
use Rattle.text.proofs.LineLaws.{right_length, too_long, too_short}
use Rattle.text.proofs.line.is_natural.Goals as goal
use Rattle.text.proofs.line.is_natural.Goals.{then-is_empty-via-then-is_empty, then-is_empty-via-else-is_empty+then-word-most}

pub returns-then-is_empty : goal.returns-then-is_empty
returns-then-is_empty c =
    let a = c.args in
    elim c.then-is_empty.branch [
      | then-is_empty-via-then-is_empty w ↦ too_short a.most a.word.now (grind (arith, nat_tests))
      | then-is_empty-via-else-is_empty+then-word-most w ↦ too_long a.most a.word.now (grind (arith, nat_tests)) w.if-word-most.true
    ]

pub returns : goal.returns
returns c = c.are_digits.ensures ∙ right_length c.args.most c.args.word.now (grind (arith, nat_tests)) c.if-word-most.false
