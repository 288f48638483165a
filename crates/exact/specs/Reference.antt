-- The reference sine and cosine (01, "Reference"), as exact fractions.
use Rattle.std.specs.Prelude.{ℕ, zero, suc, ◌+◌, ◌*◌, ◌^◌}
use Rattle.exact.specs.Fraction.{ℚ, whole, nat, ◌+q◌, ◌-q◌, ◌*q◌, negq, ◌over◌, floor}

-- π = 3.14159265358979323846
abbrev pub π_digits : ℕ
π_digits = 314_159_265_358_979_323_846

abbrev pub π : ℚ
π = nat π_digits over 10 ^ 20

-- f 0 + .. + f (n - 1)
unfoldable pub sum : (ℕ → ℚ) → ℕ → ℚ
sum f zero = nat 0
sum f (suc n) = f 0 +q sum (λ i. f (suc i)) n

-- aⁿ
unfoldable pub power : ℚ → ℕ → ℚ
power a zero = nat 1
power a (suc n) = a *q power a n

unfoldable pub factorial : ℕ → ℕ
factorial zero = 1
factorial (suc n) = suc n * factorial n

-- (-1)ⁿ
unfoldable pub sign : ℕ → ℚ
sign zero = nat 1
sign (suc n) = negq (sign n)

-- the first 20 terms with nonzero coefficient of the Taylor series of sine and cosine
abbrev pub sine_series : ℚ → ℚ
sine_series a = sum (λ i. sign i *q (power a (2 * i + 1) over factorial (2 * i + 1))) 20

abbrev pub cosine_series : ℚ → ℚ
cosine_series a = sum (λ i. sign i *q (power a (2 * i) over factorial (2 * i))) 20

-- degrees brought to -180 up to but not 180: whole turns are taken off by floor
abbrev pub brought : ℚ → ℚ
brought x = x -q nat 360 *q whole (floor ((x +q nat 180) over 360))

-- the sine and the cosine of an angle in degrees
unfoldable pub sin° : ℚ → ℚ
sin° x = sine_series (brought x *q (π over 180))

unfoldable pub cos° : ℚ → ℚ
cos° x = cosine_series (brought x *q (π over 180))
