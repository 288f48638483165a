-- `sky_vectors::horizon::lowered` meets its contract.
use mathlib.Core.Bool.{false, true}
use mathlib.Core.Path.{◌≡◌, subst}
use lib.IntN.{pos, ℤ}
use lib.Signed.{le_z}
use Rattle.number_rules.specs.Angle.{full_turn, half_turn}
use Rattle.numbers.proofs.Machine.{Mirror, ◌⊖◌, arg, fits, kept, lit}
use Rattle.sky_vectors.specs.Horizon.{lowered}
use Rattle.sky_vectors.proofs.horizon.lowered.Goals as goal
use Rattle.sky_vectors.proofs.horizon.lowered.Goals.{Start}

abbrev angle : Start → Mirror
angle s = arg s.ranges.angle s.requires

pub overflow_sub-result : goal.overflow_sub-result
overflow_sub-result c = fits (angle (goal.at.overflow_sub-result c).Start ⊖ lit (pos full_turn)) tt

pub returns-then-angle : goal.returns-then-angle
unfolding lowered
returns-then-angle c =
    rw (subst (λ (z : ℤ). le_z (pos half_turn) z ≡ true) (angle (goal.at.returns-then-angle c).Start).same c.if-angle.true)
    (kept (angle (goal.at.returns-then-angle c).Start ⊖ lit (pos full_turn)) tt).same

pub returns-else-angle : goal.returns-else-angle
unfolding lowered
returns-else-angle c = rw (subst (λ (z : ℤ). le_z (pos half_turn) z ≡ false) (angle (goal.at.returns-else-angle c).Start).same c.if-angle.false) (angle (goal.at.returns-else-angle c).Start).same
