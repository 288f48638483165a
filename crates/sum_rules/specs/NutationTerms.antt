-- The terms of the nutation (004): the polynomials of X0 to X4, and the 63 rows.
use Rattle.std.specs.Prelude.{List, [], ◌∷◌, ℤ, pos}
use Rattle.sum_rules.specs.Instant.{polynomial, minus}
use Rattle.sum_rules.specs.declared.instant.Polynomial.{Polynomial}

-- the mean elongation
abbrev pub X0 : Polynomial
X0 = polynomial (pos 29_785_036_000) (pos 44_526_711_148_000) (minus 191_420) (pos 1) 189_474 (pos 0) 1

-- the Sun's mean anomaly
abbrev pub X1 : Polynomial
X1 = polynomial (pos 35_752_772_000) (pos 3_599_905_034_000) (minus 16_030) (minus 1) 300_000 (pos 0) 1

-- the Moon's mean anomaly
abbrev pub X2 : Polynomial
X2 = polynomial (pos 13_496_298_000) (pos 47_719_886_739_800) (pos 869_720) (pos 1) 56_250 (pos 0) 1

-- the Moon's argument of latitude
abbrev pub X3 : Polynomial
X3 = polynomial (pos 9_327_191_000) (pos 48_320_201_753_800) (minus 368_250) (pos 1) 327_270 (pos 0) 1

-- the longitude of the Moon's ascending node
abbrev pub X4 : Polynomial
X4 = polynomial (pos 12_504_452_000) (minus 193_413_626_100) (pos 207_080) (pos 1) 450_000 (pos 0) 1

-- multiples of X0 to X4, then a, 10 b, c, 10 d; a blank is 0
unfoldable pub nutation_terms : List (List ℤ)
nutation_terms =
    (pos 0 ∷ pos 0 ∷ pos 0 ∷ pos 0 ∷ pos 1 ∷ minus 171_996 ∷ minus 1742 ∷ pos 92_025 ∷ pos 89 ∷ []) ∷
    (minus 2 ∷ pos 0 ∷ pos 0 ∷ pos 2 ∷ pos 2 ∷ minus 13_187 ∷ minus 16 ∷ pos 5736 ∷ minus 31 ∷ []) ∷
    (pos 0 ∷ pos 0 ∷ pos 0 ∷ pos 2 ∷ pos 2 ∷ minus 2274 ∷ minus 2 ∷ pos 977 ∷ minus 5 ∷ []) ∷
    (pos 0 ∷ pos 0 ∷ pos 0 ∷ pos 0 ∷ pos 2 ∷ pos 2062 ∷ pos 2 ∷ minus 895 ∷ pos 5 ∷ []) ∷
    (pos 0 ∷ pos 1 ∷ pos 0 ∷ pos 0 ∷ pos 0 ∷ pos 1426 ∷ minus 34 ∷ pos 54 ∷ minus 1 ∷ []) ∷
    (pos 0 ∷ pos 0 ∷ pos 1 ∷ pos 0 ∷ pos 0 ∷ pos 712 ∷ pos 1 ∷ minus 7 ∷ pos 0 ∷ []) ∷
    (minus 2 ∷ pos 1 ∷ pos 0 ∷ pos 2 ∷ pos 2 ∷ minus 517 ∷ pos 12 ∷ pos 224 ∷ minus 6 ∷ []) ∷
    (pos 0 ∷ pos 0 ∷ pos 0 ∷ pos 2 ∷ pos 1 ∷ minus 386 ∷ minus 4 ∷ pos 200 ∷ pos 0 ∷ []) ∷
    (pos 0 ∷ pos 0 ∷ pos 1 ∷ pos 2 ∷ pos 2 ∷ minus 301 ∷ pos 0 ∷ pos 129 ∷ minus 1 ∷ []) ∷
    (minus 2 ∷ minus 1 ∷ pos 0 ∷ pos 2 ∷ pos 2 ∷ pos 217 ∷ minus 5 ∷ minus 95 ∷ pos 3 ∷ []) ∷
    (minus 2 ∷ pos 0 ∷ pos 1 ∷ pos 0 ∷ pos 0 ∷ minus 158 ∷ pos 0 ∷ pos 0 ∷ pos 0 ∷ []) ∷
    (minus 2 ∷ pos 0 ∷ pos 0 ∷ pos 2 ∷ pos 1 ∷ pos 129 ∷ pos 1 ∷ minus 70 ∷ pos 0 ∷ []) ∷
    (pos 0 ∷ pos 0 ∷ minus 1 ∷ pos 2 ∷ pos 2 ∷ pos 123 ∷ pos 0 ∷ minus 53 ∷ pos 0 ∷ []) ∷
    (pos 2 ∷ pos 0 ∷ pos 0 ∷ pos 0 ∷ pos 0 ∷ pos 63 ∷ pos 0 ∷ pos 0 ∷ pos 0 ∷ []) ∷
    (pos 0 ∷ pos 0 ∷ pos 1 ∷ pos 0 ∷ pos 1 ∷ pos 63 ∷ pos 1 ∷ minus 33 ∷ pos 0 ∷ []) ∷
    (pos 2 ∷ pos 0 ∷ minus 1 ∷ pos 2 ∷ pos 2 ∷ minus 59 ∷ pos 0 ∷ pos 26 ∷ pos 0 ∷ []) ∷
    (pos 0 ∷ pos 0 ∷ minus 1 ∷ pos 0 ∷ pos 1 ∷ minus 58 ∷ minus 1 ∷ pos 32 ∷ pos 0 ∷ []) ∷
    (pos 0 ∷ pos 0 ∷ pos 1 ∷ pos 2 ∷ pos 1 ∷ minus 51 ∷ pos 0 ∷ pos 27 ∷ pos 0 ∷ []) ∷
    (minus 2 ∷ pos 0 ∷ pos 2 ∷ pos 0 ∷ pos 0 ∷ pos 48 ∷ pos 0 ∷ pos 0 ∷ pos 0 ∷ []) ∷
    (pos 0 ∷ pos 0 ∷ minus 2 ∷ pos 2 ∷ pos 1 ∷ pos 46 ∷ pos 0 ∷ minus 24 ∷ pos 0 ∷ []) ∷
    (pos 2 ∷ pos 0 ∷ pos 0 ∷ pos 2 ∷ pos 2 ∷ minus 38 ∷ pos 0 ∷ pos 16 ∷ pos 0 ∷ []) ∷
    (pos 0 ∷ pos 0 ∷ pos 2 ∷ pos 2 ∷ pos 2 ∷ minus 31 ∷ pos 0 ∷ pos 13 ∷ pos 0 ∷ []) ∷
    (pos 0 ∷ pos 0 ∷ pos 2 ∷ pos 0 ∷ pos 0 ∷ pos 29 ∷ pos 0 ∷ pos 0 ∷ pos 0 ∷ []) ∷
    (minus 2 ∷ pos 0 ∷ pos 1 ∷ pos 2 ∷ pos 2 ∷ pos 29 ∷ pos 0 ∷ minus 12 ∷ pos 0 ∷ []) ∷
    (pos 0 ∷ pos 0 ∷ pos 0 ∷ pos 2 ∷ pos 0 ∷ pos 26 ∷ pos 0 ∷ pos 0 ∷ pos 0 ∷ []) ∷
    (minus 2 ∷ pos 0 ∷ pos 0 ∷ pos 2 ∷ pos 0 ∷ minus 22 ∷ pos 0 ∷ pos 0 ∷ pos 0 ∷ []) ∷
    (pos 0 ∷ pos 0 ∷ minus 1 ∷ pos 2 ∷ pos 1 ∷ pos 21 ∷ pos 0 ∷ minus 10 ∷ pos 0 ∷ []) ∷
    (pos 0 ∷ pos 2 ∷ pos 0 ∷ pos 0 ∷ pos 0 ∷ pos 17 ∷ minus 1 ∷ pos 0 ∷ pos 0 ∷ []) ∷
    (pos 2 ∷ pos 0 ∷ minus 1 ∷ pos 0 ∷ pos 1 ∷ pos 16 ∷ pos 0 ∷ minus 8 ∷ pos 0 ∷ []) ∷
    (minus 2 ∷ pos 2 ∷ pos 0 ∷ pos 2 ∷ pos 2 ∷ minus 16 ∷ pos 1 ∷ pos 7 ∷ pos 0 ∷ []) ∷
    (pos 0 ∷ pos 1 ∷ pos 0 ∷ pos 0 ∷ pos 1 ∷ minus 15 ∷ pos 0 ∷ pos 9 ∷ pos 0 ∷ []) ∷
    (minus 2 ∷ pos 0 ∷ pos 1 ∷ pos 0 ∷ pos 1 ∷ minus 13 ∷ pos 0 ∷ pos 7 ∷ pos 0 ∷ []) ∷
    (pos 0 ∷ minus 1 ∷ pos 0 ∷ pos 0 ∷ pos 1 ∷ minus 12 ∷ pos 0 ∷ pos 6 ∷ pos 0 ∷ []) ∷
    (pos 0 ∷ pos 0 ∷ pos 2 ∷ minus 2 ∷ pos 0 ∷ pos 11 ∷ pos 0 ∷ pos 0 ∷ pos 0 ∷ []) ∷
    (pos 2 ∷ pos 0 ∷ minus 1 ∷ pos 2 ∷ pos 1 ∷ minus 10 ∷ pos 0 ∷ pos 5 ∷ pos 0 ∷ []) ∷
    (pos 2 ∷ pos 0 ∷ pos 1 ∷ pos 2 ∷ pos 2 ∷ minus 8 ∷ pos 0 ∷ pos 3 ∷ pos 0 ∷ []) ∷
    (pos 0 ∷ pos 1 ∷ pos 0 ∷ pos 2 ∷ pos 2 ∷ pos 7 ∷ pos 0 ∷ minus 3 ∷ pos 0 ∷ []) ∷
    (minus 2 ∷ pos 1 ∷ pos 1 ∷ pos 0 ∷ pos 0 ∷ minus 7 ∷ pos 0 ∷ pos 0 ∷ pos 0 ∷ []) ∷
    (pos 0 ∷ minus 1 ∷ pos 0 ∷ pos 2 ∷ pos 2 ∷ minus 7 ∷ pos 0 ∷ pos 3 ∷ pos 0 ∷ []) ∷
    (pos 2 ∷ pos 0 ∷ pos 0 ∷ pos 2 ∷ pos 1 ∷ minus 7 ∷ pos 0 ∷ pos 3 ∷ pos 0 ∷ []) ∷
    (pos 2 ∷ pos 0 ∷ pos 1 ∷ pos 0 ∷ pos 0 ∷ pos 6 ∷ pos 0 ∷ pos 0 ∷ pos 0 ∷ []) ∷
    (minus 2 ∷ pos 0 ∷ pos 2 ∷ pos 2 ∷ pos 2 ∷ pos 6 ∷ pos 0 ∷ minus 3 ∷ pos 0 ∷ []) ∷
    (minus 2 ∷ pos 0 ∷ pos 1 ∷ pos 2 ∷ pos 1 ∷ pos 6 ∷ pos 0 ∷ minus 3 ∷ pos 0 ∷ []) ∷
    (pos 2 ∷ pos 0 ∷ minus 2 ∷ pos 0 ∷ pos 1 ∷ minus 6 ∷ pos 0 ∷ pos 3 ∷ pos 0 ∷ []) ∷
    (pos 2 ∷ pos 0 ∷ pos 0 ∷ pos 0 ∷ pos 1 ∷ minus 6 ∷ pos 0 ∷ pos 3 ∷ pos 0 ∷ []) ∷
    (pos 0 ∷ minus 1 ∷ pos 1 ∷ pos 0 ∷ pos 0 ∷ pos 5 ∷ pos 0 ∷ pos 0 ∷ pos 0 ∷ []) ∷
    (minus 2 ∷ minus 1 ∷ pos 0 ∷ pos 2 ∷ pos 1 ∷ minus 5 ∷ pos 0 ∷ pos 3 ∷ pos 0 ∷ []) ∷
    (minus 2 ∷ pos 0 ∷ pos 0 ∷ pos 0 ∷ pos 1 ∷ minus 5 ∷ pos 0 ∷ pos 3 ∷ pos 0 ∷ []) ∷
    (pos 0 ∷ pos 0 ∷ pos 2 ∷ pos 2 ∷ pos 1 ∷ minus 5 ∷ pos 0 ∷ pos 3 ∷ pos 0 ∷ []) ∷
    (minus 2 ∷ pos 0 ∷ pos 2 ∷ pos 0 ∷ pos 1 ∷ pos 4 ∷ pos 0 ∷ pos 0 ∷ pos 0 ∷ []) ∷
    (minus 2 ∷ pos 1 ∷ pos 0 ∷ pos 2 ∷ pos 1 ∷ pos 4 ∷ pos 0 ∷ pos 0 ∷ pos 0 ∷ []) ∷
    (pos 0 ∷ pos 0 ∷ pos 1 ∷ minus 2 ∷ pos 0 ∷ pos 4 ∷ pos 0 ∷ pos 0 ∷ pos 0 ∷ []) ∷
    (minus 1 ∷ pos 0 ∷ pos 1 ∷ pos 0 ∷ pos 0 ∷ minus 4 ∷ pos 0 ∷ pos 0 ∷ pos 0 ∷ []) ∷
    (minus 2 ∷ pos 1 ∷ pos 0 ∷ pos 0 ∷ pos 0 ∷ minus 4 ∷ pos 0 ∷ pos 0 ∷ pos 0 ∷ []) ∷
    (pos 1 ∷ pos 0 ∷ pos 0 ∷ pos 0 ∷ pos 0 ∷ minus 4 ∷ pos 0 ∷ pos 0 ∷ pos 0 ∷ []) ∷
    (pos 0 ∷ pos 0 ∷ pos 1 ∷ pos 2 ∷ pos 0 ∷ pos 3 ∷ pos 0 ∷ pos 0 ∷ pos 0 ∷ []) ∷
    (pos 0 ∷ pos 0 ∷ minus 2 ∷ pos 2 ∷ pos 2 ∷ minus 3 ∷ pos 0 ∷ pos 0 ∷ pos 0 ∷ []) ∷
    (minus 1 ∷ minus 1 ∷ pos 1 ∷ pos 0 ∷ pos 0 ∷ minus 3 ∷ pos 0 ∷ pos 0 ∷ pos 0 ∷ []) ∷
    (pos 0 ∷ pos 1 ∷ pos 1 ∷ pos 0 ∷ pos 0 ∷ minus 3 ∷ pos 0 ∷ pos 0 ∷ pos 0 ∷ []) ∷
    (pos 0 ∷ minus 1 ∷ pos 1 ∷ pos 2 ∷ pos 2 ∷ minus 3 ∷ pos 0 ∷ pos 0 ∷ pos 0 ∷ []) ∷
    (pos 2 ∷ minus 1 ∷ minus 1 ∷ pos 2 ∷ pos 2 ∷ minus 3 ∷ pos 0 ∷ pos 0 ∷ pos 0 ∷ []) ∷
    (pos 0 ∷ pos 0 ∷ pos 3 ∷ pos 2 ∷ pos 2 ∷ minus 3 ∷ pos 0 ∷ pos 0 ∷ pos 0 ∷ []) ∷
    (pos 2 ∷ minus 1 ∷ pos 0 ∷ pos 2 ∷ pos 2 ∷ minus 3 ∷ pos 0 ∷ pos 0 ∷ pos 0 ∷ []) ∷ []
