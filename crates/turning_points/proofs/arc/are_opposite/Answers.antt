-- `arc::are_opposite` meets its contract.
use mathlib.Core.Path.{ap}
use Prim.Native.Nat.{ℕ}
use lib.Dec.{eqb}
use Rattle.number_rules.specs.Angle.{half_turn}
use Rattle.turning_points.specs.Arc.{are_opposite}
use Rattle.turning_points.proofs.arc.are_opposite.Goals as goal

pub returns : goal.returns
unfolding are_opposite
returns c = ap (λ (n : ℕ). eqb n half_turn) c.clockwise.ensures
