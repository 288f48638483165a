-- `sky_vectors::horizon::clamped` meets its contract.
use mathlib.Core.Path.{◌∙◌, ◌≡◌, ap}
use native.Mathlib.Omega.{arith}
use lib.IntN.{neg_ℤ, pos, ℤ}
use Rattle.std.specs.Int.{int_max, int_min}
use Rattle.std.proofs.lemmas.Int.{clamps, ints}
use Rattle.number_rules.specs.Angle.{quarter_turn}
use Rattle.numbers.proofs.Machine.{any, passed}
use Rattle.sky_vectors.specs.Horizon.{clamped}
use Rattle.sky_vectors.proofs.horizon.clamped.Goals as goal

one : (x : ℤ) → int_max (neg_ℤ (pos quarter_turn)) (int_min x (pos quarter_turn)) ≡ clamped x
unfolding clamped
one x = grind (arith, ints, clamps)

pub returns : goal.returns
unfolding clamped
returns c = passed c.clamp.type_inv (c.clamp.ensures.value ∙ ap (λ (z : ℤ). int_max (neg_ℤ (pos quarter_turn)) (int_min z (pos quarter_turn))) (any c.ranges.angle).same ∙ one c.args.angle)
