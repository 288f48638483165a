-- `crossing::is_up` meets its contract.
use borrow.Author.Rules.{rules}
use Rattle.rise_set.specs.Crossing.{is_up}
use Rattle.rise_set.proofs.crossing.is_up.Goals as goal

pub returns : goal.returns
unfolding is_up
returns c = search rules
