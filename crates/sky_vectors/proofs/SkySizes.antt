-- How large the numbers grow, from the unit vector to the horizon: each rotation lets a bound grow to 1.423 times itself (`RotationLaws`), and the
-- parallax adds little.
use mathlib.Core.Path.{subst}
use Prim.Native.Nat.{◌≤◌, ℕ}
use native.Mathlib.Nat.{le_refl, le_trans}
use lib.Dec.{T, leb, leb→le, lit≤}
use lib.IntN.{◌*ℤ◌, nat_abs, pos, ℤ}
use Rattle.arithmetic.specs.Floor.{⌊◌÷◌⌋}
use Rattle.arithmetic.proofs.Sizes.{add_bound, mul_bound, sub_bound}
use Rattle.number_rules.specs.Sine.{cosine, sine}
use Rattle.numbers.specs.declared.sine.SineCosine.{SineCosine}
use Rattle.number_rules.proofs.SineSize.{cosine_most, sine_most}
use Rattle.numbers.proofs.SineCosineLaws.{one_angle}
use Rattle.sky_vectors.proofs.RotationLaws.{across_most, along_most, equatorial_z, floored_most, product_most}
use Rattle.sky_vectors.proofs.Parallax.{parallax_small}
use Rattle.sky_vectors.specs.Geocentric.{geocentric}
use Rattle.sky_vectors.specs.Horizon.{horizon}
use Rattle.sky_vectors.specs.Observer.{flattened, observer, polar, radius, shifted}
use Rattle.sky_vectors.specs.Orientation.{orientation}
use Rattle.sky_vectors.specs.Place.{direction, from_centre, from_surface}
use Rattle.numbers.specs.SineCosine.{OneAngle}
use Rattle.sky_vectors.specs.Product.{◌·◌}
use Rattle.sky_vectors.specs.Rotation.{rotated}
use Rattle.sky_vectors.specs.SkyRange.{OnEarth, Reachable, SmallHorizon, SmallObserver, SmallVector, Standing, direction_limit, highest_height, parallax_limit}
use Rattle.sky_vectors.specs.Station.{runner}
use Rattle.sky_vectors.specs.Vector.{equatorial, meridian, unit_vector}
use Rattle.sky_vectors.specs.declared.geocentric.Body.{Body}
use Rattle.sky_vectors.specs.declared.geocentric.Geocentric.{Geocentric}
use Rattle.sky_vectors.specs.declared.observer.Observer.{Observer}
use Rattle.sky_vectors.specs.declared.orientation.Orientation.{Orientation}
use Rattle.sky_vectors.specs.declared.station.Point.{Point}
use Rattle.sky_vectors.specs.declared.station.Runner.{Runner}
use Rattle.sky_vectors.specs.declared.vector.Vector.{Vector}
use Rattle.sum_rules.specs.declared.instant.Instant.{Instant}

-- ---- the chain
pub unit_small : {l t : SineCosine} → OneAngle l → OneAngle t → SmallVector 1_001_000_000 (unit_vector l t)
unfolding unit_vector
unit_small {l} {t} by_l by_t =
    record {
      x_size = le_trans (product_most t.cosine l.cosine by_t.cosine_size by_l.cosine_size) (lit≤ tt);
      y_size = le_trans (product_most t.cosine l.sine by_t.cosine_size by_l.sine_size) (lit≤ tt);
      z_size = le_trans by_t.sine_size (lit≤ tt);
    }

pub equatorial_small : {ε : SineCosine} {vector : Vector} → OneAngle ε → SmallVector 1_001_000_000 vector
    → SmallVector 1_425_000_000 (equatorial ε vector)
unfolding equatorial rotated
equatorial_small {ε} {vector} one small =
    let along = along_most ε vector.z vector.y one small.z_size small.y_size in
    let across = across_most ε vector.z vector.y one small.z_size small.y_size in
    record {
      x_size = le_trans small.x_size (lit≤ tt);
      y_size = le_trans across (lit≤ tt);
      z_size = subst (λ (z : ℤ). nat_abs z ≤ 1_425_000_000) (equatorial_z ε vector) (le_trans along (lit≤ tt));
    }

meridian_small : {θ : SineCosine} {vector : Vector} → OneAngle θ → SmallVector 1_425_000_000 vector → SmallVector 2_028_000_000 (meridian θ vector)
unfolding meridian rotated
meridian_small {θ} {vector} one small =
    record {
      x_size = le_trans (along_most θ vector.x vector.y one small.x_size small.y_size) (lit≤ tt);
      y_size = le_trans (across_most θ vector.x vector.y one small.x_size small.y_size) (lit≤ tt);
      z_size = le_trans small.z_size (lit≤ tt);
    }

observer_small : {φ : SineCosine} (height : ℤ) → OneAngle φ → nat_abs height ≤ highest_height → SmallObserver (observer φ height)
unfolding observer
observer_small {φ} height one low =
    let w = pos (flattened φ) in
    let by_cosine = floored_most height φ.cosine radius low one.cosine_size in
    let by_sine = floored_most height φ.sine radius low one.sine_size in
    let flat = floored_most polar (sine w) 100_000_000 {m = 99_664_719} (lit≤ tt) (sine_most w) in
    record {
      f_size = le_trans (add_bound (cosine w) ⌊ height *ℤ φ.cosine ÷ radius ⌋ (cosine_most w) by_cosine) (lit≤ tt);
      g_size = le_trans (add_bound ⌊ polar *ℤ sine w ÷ 100_000_000 ⌋ ⌊ height *ℤ φ.sine ÷ radius ⌋ flat by_sine) (lit≤ tt);
    }

shifted_small : {observer : Observer} {vector : Vector} (p : ℤ) → nat_abs p ≤ parallax_limit → SmallObserver observer → SmallVector 2_028_000_000 vector
    → SmallVector direction_limit (shifted p observer vector)
unfolding shifted
shifted_small {observer} {vector} p h near small =
    record {
      x_size = le_trans (sub_bound vector.x (p · observer.f) small.x_size (product_most p observer.f h near.f_size)) (lit≤ tt);
      y_size = le_trans small.y_size (lit≤ tt);
      z_size = le_trans (sub_bound vector.z (p · observer.g) small.z_size (product_most p observer.g h near.g_size)) (lit≤ tt);
    }

pub horizon_small : {φ : SineCosine} {vector : Vector} → OneAngle φ → SmallVector direction_limit vector → SmallHorizon (horizon φ vector)
unfolding horizon rotated
horizon_small {φ} {vector} one small =
    record {
      up_size = le_trans (along_most φ vector.x vector.z one small.x_size small.z_size) (lit≤ tt);
      north_size = le_trans (across_most φ vector.x vector.z one small.x_size small.z_size) (lit≤ tt);
      east_size = le_trans small.y_size (lit≤ tt);
    }

-- a smaller bound serves for a larger one
pub widen : {m n : ℕ} {vector : Vector} → T (leb m n) → SmallVector m vector → SmallVector n vector
widen {m} {n} t small =
    let l = leb→le m n t in
    record { x_size = le_trans small.x_size l; y_size = le_trans small.y_size l; z_size = le_trans small.z_size l }

-- ---- the whole of it
pub centre_small : (body : Geocentric) (at : Orientation) → SmallVector 2_028_000_000 (from_centre body at)
unfolding from_centre
centre_small body at =
    meridian_small (one_angle at.sidereal)
    (equatorial_small (one_angle at.obliquity) (unit_small (one_angle body.longitude) (one_angle body.latitude)))

pub surface_small : (body : Geocentric) (at : Orientation) {observer : Observer} → nat_abs body.parallax ≤ parallax_limit → SmallObserver observer
    → SmallVector direction_limit (from_surface body at observer)
unfolding from_surface
surface_small body at far near = shifted_small body.parallax far near (centre_small body at)

pub direction_small : (body : Body) {runner : Runner} {instant : Instant} → Standing runner → Reachable instant
    → SmallVector direction_limit (direction body runner instant)
unfolding direction
direction_small body {runner} {instant} stands near =
    surface_small (geocentric body instant.tt) (orientation runner.longitude instant.ut instant.tt)
    (parallax_small body instant.tt near.tt_near) stands.observer_size

-- whoever stands at a point on Earth is a runner as the functions want one
pub runner_stands : (point : Point) → OnEarth point → Standing (runner point)
unfolding runner
runner_stands point h =
    let φ = one_angle (pos 10 *ℤ point.latitude) in
    record {
      longitude_size = mul_bound (pos 10) point.longitude (le_refl 10) h.longitude_size;
      latitude_angle = φ;
      observer_size = observer_small point.height φ h.height_size;
    }
