-- `sun_sums::sun::row_angle` meets its contract.
use mathlib.Core.Path.{◌∙◌, ◌≡◌, ap, subst⁻¹}
use Prim.Native.Nat.{◌*◌, ◌/◌, ◌<◌, ℕ}
use native.Mathlib.Nat.{zero-lt-suc}
use native.Mathlib.Omega.{arith}
use lib.IntN.{◌+ℤ◌, pos, ℤ}
use Rattle.arithmetic.specs.Floor.{◌modulo◌}
use Rattle.arithmetic.proofs.FloorLaws.{modulo_below}
use Rattle.numbers.proofs.Machine.{Mirror, ◌⊕◌, any, fits, from_nat, gave, kept}
use Rattle.sum_rules.specs.Sun.{phase, row_angle}
use Rattle.sun_sums.proofs.SunLaws.{phase_small}
use Rattle.sun_sums.proofs.sun.row_angle.Goals as goal
use Rattle.sun_sums.proofs.sun.row_angle.Goals.{After-floor_mod, After-phase}

abbrev sum : After-phase → Mirror
sum c =
    from_nat c.requires.1.0 tt
    ⊕ gave c.phase.type_inv (c.phase.ensures ∙ ap (λ (z : ℤ). phase z c.args.c) (any c.ranges.n).same)
    (phase_small c.args.n c.args.c c.requires.0 c.requires.1.1)

left_is : (c : After-floor_mod) → c.floor_mod.result ≡ (pos c.args.b +ℤ phase c.args.n c.args.c) modulo 628_318_531
left_is c = c.floor_mod.ensures ∙ ap (λ (z : ℤ). z modulo 628_318_531) (kept (sum (goal.at.After-floor_mod c).After-phase) tt).same

left_small : (c : After-floor_mod) → c.floor_mod.result < 628_318_531
left_small c =
    let z = pos c.args.b +ℤ phase c.args.n c.args.c in
    subst⁻¹ (λ (r : ℕ). r < 628_318_531) (left_is c) (modulo_below z (zero-lt-suc 628_318_530))

pub overflow_mul-result : goal.overflow_mul-result
overflow_mul-result c = record { fits = omega (arith, left_small (goal.at.overflow_mul-result c).After-floor_mod) }

pub returns : goal.returns
unfolding row_angle
returns c = ap (λ (r : ℕ). r * 5_729_577_951 / 100_000_000) (left_is (goal.at.returns c).After-floor_mod)

pub overflow_add-b : goal.overflow_add-b
overflow_add-b c = fits (sum (goal.at.overflow_add-b c).After-phase) tt
