-- The arctangent of the observer's w never says "no direction": where the cosine of a latitude is zero, its sine is not, and no more is the sine that the flattened Earth shrinks.
use Prim.Native.Nat.{◌+◌, ◌<◌, ◌≤◌}
use native.Mathlib.Decide.{dec_lt}
use native.Mathlib.Omega.{arith}
use lib.IntN.{◌*ℤ◌, nat_abs, negsuc, pos, ℤ}
use Rattle.arithmetic.specs.Floor.{⌊◌÷◌⌋}
use Rattle.arithmetic.proofs.Sizes.{abs_mul}
use Rattle.arctangent.proofs.ArctangentLaws.{not_both}
use Rattle.numbers.specs.SineCosine.{OneAngle, sine_cosine}
use Rattle.numbers.specs.declared.sine.SineCosine.{SineCosine}
use Rattle.numbers.proofs.SineCosineLaws.{one_angle}
use Rattle.sky_vectors.specs.Observer.{EveryLatitudeDirected, flattened, polar, polar_sine}

large_floor : (z : ℤ) → 100_000_000 ≤ nat_abs z → 0 < nat_abs ⌊ z ÷ 100_000_000 ⌋
unfolding ⌊◌÷◌⌋
large_floor (pos n) h = omega arith
large_floor (negsuc n) h = omega arith

pub directed : {φ : SineCosine} → OneAngle φ → 0 < nat_abs (polar_sine φ) + nat_abs φ.cosine
directed {φ} one = go (dec_lt 0 (nat_abs φ.cosine))
  where
    go : Dec (0 < nat_abs φ.cosine) → 0 < nat_abs (polar_sine φ) + nat_abs φ.cosine
    go (yes h) = omega (arith, h)
    go (no h) = omega (arith, large_floor (polar *ℤ φ.sine) (omega (arith, h, abs_mul polar φ.sine, one.not_both_zero)))

pub every_latitude_directed : EveryLatitudeDirected
unfolding flattened
every_latitude_directed x = let φ = sine_cosine x in not_both (polar_sine φ) φ.cosine (directed (one_angle x))
