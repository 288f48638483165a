-- An accepted refraction is a finite number: each factor of the formula is at most a whole number, and the product of those bounds is below 2⁵³.
-- P/1010 is at most 1200. 283/(273+T) is at most 283, since 273 + T is 1 or more.
-- (1.02·c)/(60·s) is at most twice the largest cosine, since the sine of q is above zero.
use mathlib.Core.Bool.{false, true}
use mathlib.Core.List.{[], ◌∷◌}
use mathlib.Core.Path.{◌≡◌}
use Prim.Native.Nat.{◌*◌, ◌+◌, ◌-◌, ◌<◌, ◌≤◌, ℕ}
use native.Mathlib.Omega.{arith}
use lib.Dec.{lit<, lit≤}
use lib.IntN.{nat_abs, negsuc, pos, ℤ}
use lib.Ieee as Ieee
use lib.Ieee.{Float, down, up}
use lib.Ieee.Fits.{down_pos}
use borrow.Author.Tests.{le-ltb}
use Rattle.numbers.specs.declared.sine.SineCosine.{SineCosine}
use Rattle.number_rules.proofs.SineSize.{cosine_most, sine_most}
use Rattle.refraction.specs.Air.{air_refusals, pressure_passes, temperature_passes}
use Rattle.refraction.specs.Double.{IsFinite, ◌+d◌, ◌*d◌, ◌/d◌, double, nearest}
use Rattle.numbers.specs.SineCosine.{sine_cosine}
use Rattle.refraction.specs.Refraction.{FiniteWhereAccepted, IsRefracted, formula, measured_refraction, raised, refraction_in}
use Rattle.calendar.specs.Refusal.{◌unless◌, first}
use Rattle.refraction.specs.declared.air.Air.{Air}
use Rattle.std.specs.Prelude.{None, Option, Some}
use Rattle.refraction.proofs.DoubleLaws.{AtLeast1, AtMost, bounded, bounded_finite, product_least, product_most, quotient_most, rounds_least, rounds_most, whole_least, whole_most, within_most}
use Rattle.refraction.proofs.RefractionLaws.{of_refraction, raised_sine}
use Rattle.calendar.proofs.RefusalLaws.{none, passes}

-- ---- P/1010 and 283/(273+T)
pressure_most : (P : Float) → pressure_passes P ≡ true → AtMost 1200 (P /d double (pos 1010))
pressure_most P passed = quotient_most (within_most (pos 0) 1200 P (lit≤ tt) (lit≤ tt) passed) (lit≤ tt) (whole_least 1010 (lit< tt) (lit≤ tt))

kelvin_least : {T : Float} → AtMost 80 T → AtLeast1 (double (pos 273) +d T)
unfolding Ieee.add Ieee.of_int
kelvin_least (bounded {n} {s = true} {d} most) =
    rw (le-ltb (273 * down d) (n * up d * 1) (omega arith))
    (rounds_least 353 (273 * down d - n * up d * 1) (1 * down d) (lit≤ tt) (omega (arith, down_pos d)) (omega arith) (omega arith))
kelvin_least (bounded {n} {s = false} {d} most) =
    rounds_least 353 (273 * 1 * down d + n * up d * 1) (1 * down d) (lit≤ tt) (omega (arith, down_pos d)) (omega arith) (omega arith)

pub warmth_most : (T : Float) → temperature_passes T ≡ true → AtMost 283 (double (pos 283) /d (double (pos 273) +d T))
warmth_most T passed =
    quotient_most (whole_most (pos 283) 283 (lit≤ tt) (lit≤ tt)) (lit≤ tt) (kelvin_least (within_most (negsuc 79) 80 T (lit≤ tt) (lit≤ tt) passed))

-- ---- (1.02·c)/(60·s)
cosine_factor : (c : ℤ) → nat_abs c ≤ 1_000_000_001 → AtMost 2_000_000_002 (nearest 102 100 *d double c)
cosine_factor c most = product_most (rounds_most false 2 102 100 (lit≤ tt) (lit< tt) (lit≤ tt)) (whole_most c 1_000_000_001 most (lit≤ tt)) (lit≤ tt)

sine_factor : (s : ℕ) → 0 < s → s ≤ 1_000_000_001 → AtLeast1 (double (pos 60) *d double (pos s))
sine_factor s above most =
    product_least (whole_most (pos 60) 60 (lit≤ tt) (lit≤ tt)) (whole_most (pos s) 1_000_000_001 most (lit≤ tt)) (lit≤ tt)
    (whole_least 60 (lit< tt) (lit≤ tt)) (whole_least s above (omega arith))

abbrev cotangent : SineCosine → Float
cotangent q = (nearest 102 100 *d double q.cosine) /d (double (pos 60) *d double q.sine)

pub cotangent_most : {e : ℤ} → IsRefracted e → AtMost 2_000_000_002 (cotangent (sine_cosine (raised e)))
unfolding sine_cosine
cotangent_most {e} refracted =
    let found = raised_sine refracted in
    let same = found.1 in
    quotient_most (cosine_factor _ (cosine_most (raised e))) (lit≤ tt) (rw same (sine_factor found.0 found.2 (rw same at (sine_most (raised e)))))

-- ---- the product
measured_finite : (P T : Float) {e : ℤ} → pressure_passes P ≡ true → temperature_passes T ≡ true → IsRefracted e → IsFinite (measured_refraction P T e)
unfolding measured_refraction formula
measured_finite P T pressure temperature refracted =
    bounded_finite (product_most (product_most (pressure_most P pressure) (warmth_most T temperature) (lit≤ tt)) (cotangent_most refracted) (lit≤ tt))

air_finite : (air : Option Air) {e : ℤ} → first (air_refusals air) ≡ 0 → IsRefracted e → IsFinite (refraction_in air e)
unfolding refraction_in air_refusals Ieee.le Ieee.of_int
air_finite None accepted refracted = tt
air_finite (Some air) accepted refracted =
    let pressure = none (10 unless pressure_passes air.pressure) (11 unless temperature_passes air.temperature ∷ []) accepted in
    let temperature = none (11 unless temperature_passes air.temperature) [] pressure.1 in
    measured_finite air.pressure air.temperature (passes 9 _ pressure.0) (passes 10 _ temperature.0) refracted

pub finite_where_accepted : FiniteWhereAccepted
unfolding Ieee.of_int
finite_where_accepted air e accepted size = of_refraction IsFinite air e size tt (air_finite air accepted)
