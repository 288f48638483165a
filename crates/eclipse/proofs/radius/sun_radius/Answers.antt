-- `eclipse::radius::sun_radius` meets its contract.
use mathlib.Core.Path.{ap, subst⁻¹}
use Prim.Native.Nat.{◌*◌, ◌/◌, ◌<◌, ◌≤◌}
use native.Mathlib.Omega.{arith}
use lib.IntN.{nat_abs, ℤ}
use Rattle.arithmetic.proofs.Sizes.{at_least}
use Rattle.numbers.proofs.Machine.{Mirror, abs_fits, asked, cast_up, field}
use Rattle.eclipse.specs.Radius.{sun_radius}
use Rattle.eclipse.proofs.radius.sun_radius.Goals as goal
use Rattle.eclipse.proofs.radius.sun_radius.Goals.{Start}

abbrev distance : Start → Mirror
distance s = field s.args.sun.distance s.requires.most tt

pub overflow_cast-result : goal.overflow_cast-result
overflow_cast-result c = cast_up (abs_fits c.args.sun.distance c.requires.most tt) c.requires.least

pub overflow_mul-result : goal.overflow_mul-result
overflow_mul-result c = record { fits = omega (arith, far) }
  where
    far : nat_abs (distance (goal.at.overflow_mul-result c).Start).machine ≤ 13_000_000_000
    far = asked (distance (goal.at.overflow_mul-result c).Start) tt

pub nonzero_div-result : goal.nonzero_div-result
nonzero_div-result c =
    let s = (goal.at.nonzero_div-result c).Start in
    subst⁻¹ (λ (z : ℤ). 0 < 36 * nat_abs z) (distance s).same (omega (arith, at_least s.requires.least))

pub returns : goal.returns
unfolding sun_radius
returns c = ap (λ (z : ℤ). 9_596_300_000_000_000_000 / (36 * nat_abs z)) (distance (goal.at.returns c).Start).same
