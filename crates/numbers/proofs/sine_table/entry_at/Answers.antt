-- `numbers::sine_table::entry_at` meets its contract: the table is that of `specs/`.
use Rattle.number_rules.specs.SineTable.{sines}
use Rattle.numbers.proofs.sine_table.entry_at.Goals as goal

pub returns : goal.returns
unfolding sines
returns c = c.from.ensures
