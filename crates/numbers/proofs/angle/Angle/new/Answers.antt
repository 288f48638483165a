-- `numbers::angle::Angle::new` meets its contract.
use mathlib.Core.Path.{◌∙◌, ap}
use lib.IntN.{ℤ}
use Rattle.arithmetic.specs.Floor.{◌modulo◌}
use Rattle.number_rules.specs.Angle.{full_turn, reduced}
use Rattle.numbers.proofs.Machine.{any}
use Rattle.numbers.proofs.angle.Angle.new.Goals as goal

pub returns : goal.returns
unfolding reduced
returns c = c.floor_mod.ensures ∙ ap (λ (z : ℤ). z modulo full_turn) (any c.ranges.x).same
