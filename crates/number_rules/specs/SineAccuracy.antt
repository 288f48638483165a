-- Sine lies within 6 units of the reference (01, "Sine"), and so does cosine: at every angle in 10⁻⁸ degree, reduced or not.
use Rattle.std.specs.Prelude.{◌+◌, ◌≤◌, ℕ, nat_abs, ℤ}
use Rattle.exact.specs.Fraction.{Within, ◌*q◌, ◌-q◌, ◌over◌, nat, whole, ℚ}
use Rattle.exact.specs.Reference.{cos°, sin°}
use Rattle.number_rules.specs.Sine.{cosine, sine}

-- an angle in degrees
abbrev pub degrees : ℤ → ℚ
degrees x = whole x over 100_000_000

-- a sine-scaled number against a reference, which is times 10⁹ then
abbrev pub SixFrom : ℤ → ℚ → Type 0
SixFrom s reference = Within (whole s -q nat 1_000_000_000 *q reference) (nat 6)

abbrev pub SineNear : Type 0
SineNear = (x : ℤ) → SixFrom (sine x) (sin° (degrees x))

abbrev pub CosineNear : Type 0
CosineNear = (x : ℤ) → SixFrom (cosine x) (cos° (degrees x))

-- rounding may pass 10⁹ by one, and no more
abbrev pub SineSize : Type 0
SineSize = (x : ℤ) → (nat_abs (sine x) ≤ 1_000_000_001) × (nat_abs (cosine x) ≤ 1_000_000_001)

-- of one angle they are never both zero: together at least this
abbrev pub together_least : ℕ
together_least = 999_900_000

abbrev pub SineOrCosine : Type 0
SineOrCosine = (x : ℤ) → together_least ≤ nat_abs (sine x) + nat_abs (cosine x)
