-- The exact sums (01, "Exact sums"), as exact fractions: nothing outside the reference's sine and cosine is floored, reduced or rounded.
use Rattle.std.specs.Prelude.{List, [], ◌∷◌, ℕ, zero, suc, ◌*◌, ◌^◌, ℤ, pos, nat_abs}
use Rattle.exact.specs.Fraction.{ℚ, whole, nat, ◌+q◌, ◌-q◌, ◌*q◌, ◌over◌}
use Rattle.exact.specs.Reference.{π_digits, power, sin°, cos°}
use Rattle.sum_rules.specs.Instant.{century, millennium, minus}
use Rattle.sum_rules.specs.Table.{column}
use Rattle.sum_rules.specs.MoonTerms as Of
use Rattle.sum_rules.specs.MoonTerms.{longitude_distance_terms, latitude_terms}
use Rattle.sum_rules.specs.Sun.{row_A, row_B, row_C}
use Rattle.sum_rules.specs.SunTerms.{L_groups, B_groups, R_groups}
use Rattle.sum_rules.specs.declared.instant.Polynomial.{Polynomial}

unfoldable pub totalq : {A : Type 0} → (A → ℚ) → List A → ℚ
totalq f [] = nat 0
totalq f (row ∷ rows) = f row +q totalq f rows

-- T = n / 3,155,760,000,000, and τ = n / 31,557,600,000,000
abbrev pub centuries : ℤ → ℚ
centuries n = whole n over century

abbrev pub millennia : ℤ → ℚ
millennia n = whole n over millennium

-- THE MOON at T. A polynomial, every term in degrees
abbrev pub degrees : ℚ → Polynomial → ℚ
degrees T p = (whole p.c0 +q whole p.c1 *q T +q whole p.c2 *q (T *q T)) over 100_000_000
    +q whole p.s3 *q (T *q T *q T) over p.k3 +q whole p.s4 *q (T *q T *q (T *q T)) over p.k4

-- E = 1 - 0.002516 T - 0.0000074 T²
abbrev pub E : ℚ → ℚ
E T = nat 1 -q nat 2516 *q T over 1_000_000 -q nat 74 *q (T *q T) over 10_000_000

-- a row's weight is l, r or b, times E at m ±1, E² at m ±2
unfoldable pub weight : ℚ → ℕ → ℤ → ℚ
weight T zero l = whole l
weight T (suc zero) l = whole l *q E T
weight T (suc (suc m)) l = whole l *q (E T *q E T)

-- its angle is its four column numbers times D, M, M' and F, added
abbrev pub row_angle : ℚ → List ℤ → ℚ
row_angle T row = whole (column row 0) *q degrees T Of.D +q whole (column row 1) *q degrees T Of.M
    +q whole (column row 2) *q degrees T Of.M' +q whole (column row 3) *q degrees T Of.F

abbrev pub sine_term : ℚ → List ℤ → ℚ
sine_term T row = weight T (nat_abs (column row 1)) (column row 4) *q sin° (row_angle T row)

abbrev pub cosine_term : ℚ → List ℤ → ℚ
cosine_term T row = weight T (nat_abs (column row 1)) (column row 5) *q cos° (row_angle T row)

abbrev pub added : ℤ → ℚ → ℚ
added w a = whole w *q sin° a

-- longitude is L' plus, over 10⁶, the l rows and its additions by sine, in degrees
abbrev pub moon_longitude : ℚ → ℚ
moon_longitude T = degrees T Of.L' +q (totalq (sine_term T) longitude_distance_terms
    +q added (pos 3958) (degrees T Of.A1)
    +q added (pos 1962) (degrees T Of.L' -q degrees T Of.F)
    +q added (pos 318) (degrees T Of.A2)) over 1_000_000

-- latitude, over 10⁶, the b rows and its additions by sine, in degrees
abbrev pub moon_latitude : ℚ → ℚ
moon_latitude T = (totalq (sine_term T) latitude_terms
    +q added (minus 2235) (degrees T Of.L')
    +q added (pos 382) (degrees T Of.A3)
    +q added (pos 175) (degrees T Of.A1 -q degrees T Of.F)
    +q added (pos 175) (degrees T Of.A1 +q degrees T Of.F)
    +q added (pos 127) (degrees T Of.L' -q degrees T Of.M')
    +q added (minus 115) (degrees T Of.L' +q degrees T Of.M')) over 1_000_000

-- metres: 385,000,560 plus the r rows by cosine
abbrev pub moon_metres : ℚ → ℚ
moon_metres T = nat 385_000_560 +q totalq (cosine_term T) longitude_distance_terms

-- THE SUN at τ. Radians times 180 / π
abbrev pub in_degrees : ℚ → ℚ
in_degrees x = x *q (nat (180 * 10 ^ 20) over π_digits)

-- a row is A cosine(B + C τ), the angle in radians
abbrev pub ray_angle : ℚ → ℕ → ℕ → ℚ
ray_angle τ b c = in_degrees (nat b over 100_000_000 +q nat c over 100_000_000 *q τ)

abbrev pub ray : ℚ → List ℕ → ℚ
ray τ row = nat (row_A row) *q cos° (ray_angle τ (row_B row) (row_C row))

-- the sum over the groups i of τⁱ times its rows added
unfoldable pub groups_from : ℚ → ℕ → List (List (List ℕ)) → ℚ
groups_from τ i [] = nat 0
groups_from τ i (rows ∷ above) = power τ i *q totalq (ray τ) rows +q groups_from τ (suc i) above

-- over 10⁸, in radians or AU
abbrev pub sun_L : ℚ → ℚ
sun_L τ = groups_from τ 0 L_groups over 100_000_000

abbrev pub sun_B : ℚ → ℚ
sun_B τ = groups_from τ 0 B_groups over 100_000_000

abbrev pub sun_R : ℚ → ℚ
sun_R τ = groups_from τ 0 R_groups over 100_000_000
