-- A start is made of its nine numbers.
use borrow.Author.Rules.{rules}
use Rattle.request.specs.Request.{start_from}
use Rattle.request.proofs.start.StartFromArrayI649.from.Goals as goal

pub returns : goal.returns
unfolding start_from
returns c = search rules
