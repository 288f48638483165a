-- `text::line::begins` meets its contract.
use Rattle.std.proofs.Common.{◌∙◌}
use Rattle.text.proofs.StdLaws.{begins_is}
use Rattle.text.proofs.line.begins.Goals as goal

pub returns : goal.returns
returns c = c.starts_with.ensures.value ∙ begins_is c.args.first.now c.args.line.now
