-- `text::line::sheet_numbers` meets its contract.
use Rattle.std.proofs.Common.{◌∙◌, ap, arith, sym}
use Rattle.text.specs.Line.{answer}
use Rattle.text.proofs.LineLaws.{no_longer, too_long_line}
use Rattle.text.proofs.line.sheet_numbers.Goals as goal

pub returns-then-line-gt80 : goal.returns-then-line-gt80
unfolding answer
returns-then-line-gt80 c = ap answer (sym (too_long_line c.args.line.now (omega arith)))

pub returns : goal.returns
returns c = c.line_numbers.ensures ∙ ap answer (sym (no_longer c.args.line.now (omega arith)))
