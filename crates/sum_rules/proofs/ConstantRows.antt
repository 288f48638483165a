-- A row (A, 0, 0) of the Sun's tables has the angle zero, whose cosine is 10⁹ exactly.
use mathlib.Core.List.{[], ◌∷◌}
use mathlib.Core.Path.{◌≡◌, ap, refl}
use Prim.Native.Nat.{◌*◌, ◌/◌}
use lib.IntN.{◌+ℤ◌, pos, ℤ}
use Rattle.arithmetic.specs.Floor.{◌modulo◌, ⌊◌÷◌⌋}
use Rattle.arithmetic.proofs.Integers.{solveℤ}
use Rattle.arithmetic.proofs.Solver.{◌:*◌, k0, x0}
use Rattle.number_rules.specs.Angle.{reduced}
use Rattle.number_rules.specs.Sine.{cosine, fold, half_fold, negated_from_half, quarter_sine, sine, sine_at}
use Rattle.number_rules.specs.SineTable.{sines}
use Rattle.sum_rules.specs.Instant.{millennium}
use Rattle.sum_rules.specs.Sun.{row_angle}

pub angle_zero : (n : ℤ) → row_angle n 0 0 ≡ 0
unfolding row_angle ◌modulo◌ ⌊◌÷◌⌋
angle_zero n =
    ap (λ (z : ℤ). (pos 0 +ℤ ⌊ z ÷ millennium ⌋) modulo 628_318_531 * 5_729_577_951 / 100_000_000) (solveℤ (k0 :* x0) k0 (n ∷ []) tt)

pub cosine_zero : cosine (pos 0) ≡ pos 1_000_000_000
unfolding cosine sine reduced ◌modulo◌ sine_at negated_from_half fold half_fold quarter_sine sines
cosine_zero = refl
