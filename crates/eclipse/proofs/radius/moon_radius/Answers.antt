-- `eclipse::radius::moon_radius` meets its contract.
use mathlib.Core.Path.{◌∙◌, ap, ap₂, subst⁻¹}
use Prim.Native.Nat.{◌*◌, ◌/◌, ◌<◌, ◌≤◌, ℕ}
use native.Mathlib.Omega.{arith}
use lib.Dec.{T}
use lib.IntN.{nat_abs, pos, ℤ}
use lib.Signed.{non_neg}
use Rattle.arithmetic.proofs.Sizes.{at_least}
use Rattle.number_rules.specs.Sine.{sine}
use Rattle.number_rules.proofs.SineSize.{sine_most}
use Rattle.numbers.proofs.Machine.{Mirror, ◌⊕◌, ◌⊗◌, abs_fits, any, asked, cast_up, field, fits, floor_gave, gave, kept, lit}
use Rattle.sky_vectors.specs.Product.{◌·◌}
use Rattle.eclipse.specs.Radius.{moon_radius}
use Rattle.eclipse.proofs.RadiusLaws.{nearly_one}
use Rattle.eclipse.proofs.radius.moon_radius.Goals as goal
use Rattle.eclipse.proofs.radius.moon_radius.Goals.{After-floor_div-nearer, After-sine-height, Start}

abbrev distance : Start → Mirror
distance s = field s.args.moon.distance s.requires.distant.most tt

module _ (c : After-sine-height) where
  abbrev start : Start
  start = (goal.at.After-sine-height c).Start

  abbrev height : Mirror
  height = gave {v = sine start.args.elevation} c.sine-height.type_inv (c.sine-height.ensures ∙ ap sine (any start.ranges.elevation).same) (sine_most start.args.elevation)

  abbrev product : Mirror
  product = field start.args.moon.parallax start.requires.parallax_size tt ⊗ height

module _ (c : After-floor_div-nearer) where
  abbrev lift : Mirror
  lift = floor_gave (kept (product (goal.at.After-floor_div-nearer c).After-sine-height) tt) 1_000_000_000 c.floor_div-nearer.type_inv c.floor_div-nearer.ensures

  abbrev nearer : Mirror
  nearer = kept (lit (pos 1_000_000_000) ⊕ lift) tt

  nearer_most : nat_abs nearer.machine ≤ 1_030_000_000
  nearer_most = asked nearer tt

  nearer_natural : T (non_neg nearer.machine)
  nearer_natural = subst⁻¹ (λ (z : ℤ). T (non_neg z)) nearer.same (nearly_one lift.number (small lift.bound))
    where
      small : {n : ℕ} → n ≤ 20_000_001 → n ≤ 1_000_000_000
      small h = omega arith

pub overflow_mul-parallax : goal.overflow_mul-parallax
overflow_mul-parallax c = fits (product (goal.at.overflow_mul-parallax c).After-sine-height) tt

pub overflow_add-nearer : goal.overflow_add-nearer
overflow_add-nearer c = fits (lit (pos 1_000_000_000) ⊕ lift (goal.at.overflow_add-nearer c).After-floor_div-nearer) tt

pub overflow_cast-result : goal.overflow_cast-result
overflow_cast-result c = (nearer_natural (goal.at.overflow_cast-result c).After-floor_div-nearer, record { fits = omega (arith, nearer_most (goal.at.overflow_cast-result c).After-floor_div-nearer) })

pub overflow_mul-result : goal.overflow_mul-result
overflow_mul-result c = record { fits = omega (arith, nearer_most (goal.at.overflow_mul-result c).After-floor_div-nearer) }

pub overflow_cast-result-2 : goal.overflow_cast-result-2
overflow_cast-result-2 c =
    let s = start (goal.at.overflow_cast-result-2 c).After-sine-height in
    cast_up (abs_fits s.args.moon.distance s.requires.distant.most tt) s.requires.distant.least

pub overflow_mul-result-2 : goal.overflow_mul-result-2
overflow_mul-result-2 c = record { fits = omega (arith, far) }
  where
    far : nat_abs (distance (start (goal.at.overflow_mul-result-2 c).After-sine-height)).machine ≤ 1_000_000_000
    far = asked (distance (start (goal.at.overflow_mul-result-2 c).After-sine-height)) tt

pub nonzero_div-result : goal.nonzero_div-result
nonzero_div-result c =
    let s = start (goal.at.nonzero_div-result c).After-sine-height in
    subst⁻¹ (λ (z : ℤ). 0 < 36 * nat_abs z) (distance s).same (omega (arith, at_least s.requires.distant.least))

pub returns : goal.returns
unfolding moon_radius ◌·◌
returns c = ap₂ (λ (z w : ℤ). 358_473_400 * nat_abs z / (36 * nat_abs w)) (nearer (goal.at.returns c).After-floor_div-nearer).same (distance (start (goal.at.returns c).After-sine-height)).same
