-- The radii of bodies that are far enough: the Sun's 0.2 to 0.3 degree, the Moon's at most 0.3.
use mathlib.Core.Path.{subst⁻¹}
use Prim.Native.Nat.{◌*◌, ◌<◌, ◌≤◌}
use native.Mathlib.Nat.{div-le_of_le-mul, le-div_iff_mul-le, le_refl, le_trans}
use native.Mathlib.Omega.{arith}
use lib.Dec.{T, lit≤}
use lib.IntN.{◌+ℤ◌, nat_abs, pos, ℤ}
use lib.Signed.{non_neg}
use Rattle.arithmetic.proofs.Difference.{#◌, ◌⊞◌, abs_parts, by_le, ⟨◌⟩}
use Rattle.arithmetic.proofs.FloorLaws.{above_is}
use Rattle.arithmetic.proofs.Sizes.{add_bound, at_least}
use Rattle.number_rules.proofs.SineSize.{sine_most}
use Rattle.number_rules.specs.Sine.{sine}
use Rattle.overlap.specs.DiskRange.{Radii, radius_most, sun_radius_least}
use Rattle.sky_vectors.specs.Product.{◌·◌}
use Rattle.sky_vectors.specs.declared.geocentric.Geocentric.{Geocentric}
use Rattle.sky_vectors.proofs.RotationLaws.{product_most}
use Rattle.eclipse.specs.EclipseRange.{MoonFar, SunFar}
use Rattle.eclipse.specs.Radius.{moon_radius, sun_radius}

-- 10⁹ and a little more or less is a natural number
pub nearly_one : (z : ℤ) → nat_abs z ≤ 1_000_000_000 → T (non_neg (pos 1_000_000_000 +ℤ z))
nearly_one z h = subst⁻¹ (λ (a : ℤ). T (non_neg a)) (above_is (by_le (# 0) (# 1_000_000_000 ⊞ ⟨ z ⟩) (omega (arith, abs_parts z)))) tt

sun_least : {sun : Geocentric} → SunFar sun → sun_radius_least ≤ sun_radius sun
unfolding sun_radius
sun_least {sun} far =
    let h = far.most in
    let l = at_least far.least in
    let above : 0 < 36 * nat_abs sun.distance = omega arith in
    (le-div_iff_mul-le above).1 (omega arith)

sun_most : {sun : Geocentric} → SunFar sun → sun_radius sun ≤ radius_most
unfolding sun_radius
sun_most {sun} far = let l = at_least far.least in div-le_of_le-mul (36 * nat_abs sun.distance) (omega arith)

moon_most : {moon : Geocentric} (e : ℤ) → MoonFar moon → moon_radius moon e ≤ radius_most
unfolding moon_radius
moon_most {moon} e far =
    let l = at_least far.distant.least in
    let lift : nat_abs (moon.parallax · sine e) ≤ 20_000_002 =
    le_trans (product_most moon.parallax (sine e) far.parallax_size (sine_most e)) (lit≤ tt) in
    let nearer : nat_abs (pos 1_000_000_000 +ℤ moon.parallax · sine e) ≤ 1_020_000_002 =
    add_bound (pos 1_000_000_000) (moon.parallax · sine e) (le_refl 1_000_000_000) lift in
    div-le_of_le-mul (36 * nat_abs moon.distance) (omega arith)

pub radii : {sun moon : Geocentric} (e : ℤ) → SunFar sun → MoonFar moon → Radii (sun_radius sun) (moon_radius moon e)
radii e sun_far moon_far = record { sun_least = sun_least sun_far; sun_most = sun_most sun_far; moon_most = moon_most e moon_far }
