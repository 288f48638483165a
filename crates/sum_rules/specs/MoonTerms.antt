-- The Moon's terms (003): the polynomials of its arguments, and Tables 1 and 2.
use Rattle.std.specs.Prelude.{List, [], ◌∷◌, ℤ, pos}
use Rattle.sum_rules.specs.Instant.{polynomial, minus}
use Rattle.sum_rules.specs.declared.instant.Polynomial.{Polynomial}

-- L', the mean longitude
abbrev pub L' : Polynomial
L' = polynomial (pos 21_831_644_770) (pos 48_126_788_123_421) (minus 157_860) (pos 1) 538_841 (minus 1) 65_194_000

-- the mean elongation
abbrev pub D : Polynomial
D = polynomial (pos 29_785_019_210) (pos 44_526_711_140_340) (minus 188_190) (pos 1) 545_868 (minus 1) 113_065_000

-- the Sun's mean anomaly
abbrev pub M : Polynomial
M = polynomial (pos 35_752_910_920) (pos 3_599_905_029_090) (minus 15_360) (pos 1) 24_490_000 (pos 0) 1

-- M', the Moon's mean anomaly
abbrev pub M' : Polynomial
M' = polynomial (pos 13_496_339_640) (pos 47_719_886_750_550) (pos 874_140) (pos 1) 69_699 (minus 1) 14_712_000

-- the argument of latitude (01: read 93.2720950)
abbrev pub F : Polynomial
F = polynomial (pos 9_327_209_500) (pos 48_320_201_752_330) (minus 365_390) (minus 1) 3_526_000 (pos 1) 863_310_000

-- A1 = 119.75 + 131.849 T, A2 = 53.09 + 479264.290 T, A3 = 313.45 + 481266.484 T
abbrev pub A1 : Polynomial
A1 = polynomial (pos 11_975_000_000) (pos 13_184_900_000) (pos 0) (pos 0) 1 (pos 0) 1

abbrev pub A2 : Polynomial
A2 = polynomial (pos 5_309_000_000) (pos 47_926_429_000_000) (pos 0) (pos 0) 1 (pos 0) 1

abbrev pub A3 : Polynomial
A3 = polynomial (pos 31_345_000_000) (pos 48_126_648_400_000) (pos 0) (pos 0) 1 (pos 0) 1

-- Table 1: multiples of D, M, M' and F, then l and r; a blank is 0
unfoldable pub longitude_distance_terms : List (List ℤ)
longitude_distance_terms =
    (pos 0 ∷ pos 0 ∷ pos 1 ∷ pos 0 ∷ pos 6_288_774 ∷ minus 20_905_355 ∷ []) ∷
    (pos 2 ∷ pos 0 ∷ minus 1 ∷ pos 0 ∷ pos 1_274_027 ∷ minus 3_699_111 ∷ []) ∷
    (pos 2 ∷ pos 0 ∷ pos 0 ∷ pos 0 ∷ pos 658_314 ∷ minus 2_955_968 ∷ []) ∷
    (pos 0 ∷ pos 0 ∷ pos 2 ∷ pos 0 ∷ pos 213_618 ∷ minus 569_925 ∷ []) ∷
    (pos 0 ∷ pos 1 ∷ pos 0 ∷ pos 0 ∷ minus 185_116 ∷ pos 48_888 ∷ []) ∷
    (pos 0 ∷ pos 0 ∷ pos 0 ∷ pos 2 ∷ minus 114_332 ∷ minus 3149 ∷ []) ∷
    (pos 2 ∷ pos 0 ∷ minus 2 ∷ pos 0 ∷ pos 58_793 ∷ pos 246_158 ∷ []) ∷
    (pos 2 ∷ minus 1 ∷ minus 1 ∷ pos 0 ∷ pos 57_066 ∷ minus 152_138 ∷ []) ∷
    (pos 2 ∷ pos 0 ∷ pos 1 ∷ pos 0 ∷ pos 53_322 ∷ minus 170_733 ∷ []) ∷
    (pos 2 ∷ minus 1 ∷ pos 0 ∷ pos 0 ∷ pos 45_758 ∷ minus 204_586 ∷ []) ∷
    (pos 0 ∷ pos 1 ∷ minus 1 ∷ pos 0 ∷ minus 40_923 ∷ minus 129_620 ∷ []) ∷
    (pos 1 ∷ pos 0 ∷ pos 0 ∷ pos 0 ∷ minus 34_720 ∷ pos 108_743 ∷ []) ∷
    (pos 0 ∷ pos 1 ∷ pos 1 ∷ pos 0 ∷ minus 30_383 ∷ pos 104_755 ∷ []) ∷
    (pos 2 ∷ pos 0 ∷ pos 0 ∷ minus 2 ∷ pos 15_327 ∷ pos 10_321 ∷ []) ∷
    (pos 0 ∷ pos 0 ∷ pos 1 ∷ pos 2 ∷ minus 12_528 ∷ pos 0 ∷ []) ∷
    (pos 0 ∷ pos 0 ∷ pos 1 ∷ minus 2 ∷ pos 10_980 ∷ pos 79_661 ∷ []) ∷
    (pos 4 ∷ pos 0 ∷ minus 1 ∷ pos 0 ∷ pos 10_675 ∷ minus 34_782 ∷ []) ∷
    (pos 0 ∷ pos 0 ∷ pos 3 ∷ pos 0 ∷ pos 10_034 ∷ minus 23_210 ∷ []) ∷
    (pos 4 ∷ pos 0 ∷ minus 2 ∷ pos 0 ∷ pos 8548 ∷ minus 21_636 ∷ []) ∷
    (pos 2 ∷ pos 1 ∷ minus 1 ∷ pos 0 ∷ minus 7888 ∷ pos 24_208 ∷ []) ∷
    (pos 2 ∷ pos 1 ∷ pos 0 ∷ pos 0 ∷ minus 6766 ∷ pos 30_824 ∷ []) ∷
    (pos 1 ∷ pos 0 ∷ minus 1 ∷ pos 0 ∷ minus 5163 ∷ minus 8379 ∷ []) ∷
    (pos 1 ∷ pos 1 ∷ pos 0 ∷ pos 0 ∷ pos 4987 ∷ minus 16_675 ∷ []) ∷
    (pos 2 ∷ minus 1 ∷ pos 1 ∷ pos 0 ∷ pos 4036 ∷ minus 12_831 ∷ []) ∷
    (pos 2 ∷ pos 0 ∷ pos 2 ∷ pos 0 ∷ pos 3994 ∷ minus 10_445 ∷ []) ∷
    (pos 4 ∷ pos 0 ∷ pos 0 ∷ pos 0 ∷ pos 3861 ∷ minus 11_650 ∷ []) ∷
    (pos 2 ∷ pos 0 ∷ minus 3 ∷ pos 0 ∷ pos 3665 ∷ pos 14_403 ∷ []) ∷
    (pos 0 ∷ pos 1 ∷ minus 2 ∷ pos 0 ∷ minus 2689 ∷ minus 7003 ∷ []) ∷
    (pos 2 ∷ pos 0 ∷ minus 1 ∷ pos 2 ∷ minus 2602 ∷ pos 0 ∷ []) ∷
    (pos 2 ∷ minus 1 ∷ minus 2 ∷ pos 0 ∷ pos 2390 ∷ pos 10_056 ∷ []) ∷
    (pos 1 ∷ pos 0 ∷ pos 1 ∷ pos 0 ∷ minus 2348 ∷ pos 6322 ∷ []) ∷
    (pos 2 ∷ minus 2 ∷ pos 0 ∷ pos 0 ∷ pos 2236 ∷ minus 9884 ∷ []) ∷
    (pos 0 ∷ pos 1 ∷ pos 2 ∷ pos 0 ∷ minus 2120 ∷ pos 5751 ∷ []) ∷
    (pos 0 ∷ pos 2 ∷ pos 0 ∷ pos 0 ∷ minus 2069 ∷ pos 0 ∷ []) ∷
    (pos 2 ∷ minus 2 ∷ minus 1 ∷ pos 0 ∷ pos 2048 ∷ minus 4950 ∷ []) ∷
    (pos 2 ∷ pos 0 ∷ pos 1 ∷ minus 2 ∷ minus 1773 ∷ pos 4130 ∷ []) ∷
    (pos 2 ∷ pos 0 ∷ pos 0 ∷ pos 2 ∷ minus 1595 ∷ pos 0 ∷ []) ∷
    (pos 4 ∷ minus 1 ∷ minus 1 ∷ pos 0 ∷ pos 1215 ∷ minus 3958 ∷ []) ∷
    (pos 0 ∷ pos 0 ∷ pos 2 ∷ pos 2 ∷ minus 1110 ∷ pos 0 ∷ []) ∷
    (pos 3 ∷ pos 0 ∷ minus 1 ∷ pos 0 ∷ minus 892 ∷ pos 3258 ∷ []) ∷
    (pos 2 ∷ pos 1 ∷ pos 1 ∷ pos 0 ∷ minus 810 ∷ pos 2616 ∷ []) ∷
    (pos 4 ∷ minus 1 ∷ minus 2 ∷ pos 0 ∷ pos 759 ∷ minus 1897 ∷ []) ∷
    (pos 0 ∷ pos 2 ∷ minus 1 ∷ pos 0 ∷ minus 713 ∷ minus 2117 ∷ []) ∷
    (pos 2 ∷ pos 2 ∷ minus 1 ∷ pos 0 ∷ minus 700 ∷ pos 2354 ∷ []) ∷
    (pos 2 ∷ pos 1 ∷ minus 2 ∷ pos 0 ∷ pos 691 ∷ pos 0 ∷ []) ∷
    (pos 2 ∷ minus 1 ∷ pos 0 ∷ minus 2 ∷ pos 596 ∷ pos 0 ∷ []) ∷
    (pos 4 ∷ pos 0 ∷ pos 1 ∷ pos 0 ∷ pos 549 ∷ minus 1423 ∷ []) ∷
    (pos 0 ∷ pos 0 ∷ pos 4 ∷ pos 0 ∷ pos 537 ∷ minus 1117 ∷ []) ∷
    (pos 4 ∷ minus 1 ∷ pos 0 ∷ pos 0 ∷ pos 520 ∷ minus 1571 ∷ []) ∷
    (pos 1 ∷ pos 0 ∷ minus 2 ∷ pos 0 ∷ minus 487 ∷ minus 1739 ∷ []) ∷
    (pos 2 ∷ pos 1 ∷ pos 0 ∷ minus 2 ∷ minus 399 ∷ pos 0 ∷ []) ∷
    (pos 0 ∷ pos 0 ∷ pos 2 ∷ minus 2 ∷ minus 381 ∷ minus 4421 ∷ []) ∷
    (pos 1 ∷ pos 1 ∷ pos 1 ∷ pos 0 ∷ pos 351 ∷ pos 0 ∷ []) ∷
    (pos 3 ∷ pos 0 ∷ minus 2 ∷ pos 0 ∷ minus 340 ∷ pos 0 ∷ []) ∷
    (pos 4 ∷ pos 0 ∷ minus 3 ∷ pos 0 ∷ pos 330 ∷ pos 0 ∷ []) ∷
    (pos 2 ∷ minus 1 ∷ pos 2 ∷ pos 0 ∷ pos 327 ∷ pos 0 ∷ []) ∷
    (pos 0 ∷ pos 2 ∷ pos 1 ∷ pos 0 ∷ minus 323 ∷ pos 1165 ∷ []) ∷
    (pos 1 ∷ pos 1 ∷ minus 1 ∷ pos 0 ∷ pos 299 ∷ pos 0 ∷ []) ∷
    (pos 2 ∷ pos 0 ∷ pos 3 ∷ pos 0 ∷ pos 294 ∷ pos 0 ∷ []) ∷
    (pos 2 ∷ pos 0 ∷ minus 1 ∷ minus 2 ∷ pos 0 ∷ pos 8752 ∷ []) ∷ []

-- Table 2: multiples of D, M, M' and F, then b; nothing goes by cosine
unfoldable pub latitude_terms : List (List ℤ)
latitude_terms =
    (pos 0 ∷ pos 0 ∷ pos 0 ∷ pos 1 ∷ pos 5_128_122 ∷ pos 0 ∷ []) ∷
    (pos 0 ∷ pos 0 ∷ pos 1 ∷ pos 1 ∷ pos 280_602 ∷ pos 0 ∷ []) ∷
    (pos 0 ∷ pos 0 ∷ pos 1 ∷ minus 1 ∷ pos 277_693 ∷ pos 0 ∷ []) ∷
    (pos 2 ∷ pos 0 ∷ pos 0 ∷ minus 1 ∷ pos 173_237 ∷ pos 0 ∷ []) ∷
    (pos 2 ∷ pos 0 ∷ minus 1 ∷ pos 1 ∷ pos 55_413 ∷ pos 0 ∷ []) ∷
    (pos 2 ∷ pos 0 ∷ minus 1 ∷ minus 1 ∷ pos 46_271 ∷ pos 0 ∷ []) ∷
    (pos 2 ∷ pos 0 ∷ pos 0 ∷ pos 1 ∷ pos 32_573 ∷ pos 0 ∷ []) ∷
    (pos 0 ∷ pos 0 ∷ pos 2 ∷ pos 1 ∷ pos 17_198 ∷ pos 0 ∷ []) ∷
    (pos 2 ∷ pos 0 ∷ pos 1 ∷ minus 1 ∷ pos 9266 ∷ pos 0 ∷ []) ∷
    (pos 0 ∷ pos 0 ∷ pos 2 ∷ minus 1 ∷ pos 8822 ∷ pos 0 ∷ []) ∷
    (pos 2 ∷ minus 1 ∷ pos 0 ∷ minus 1 ∷ pos 8216 ∷ pos 0 ∷ []) ∷
    (pos 2 ∷ pos 0 ∷ minus 2 ∷ minus 1 ∷ pos 4324 ∷ pos 0 ∷ []) ∷
    (pos 2 ∷ pos 0 ∷ pos 1 ∷ pos 1 ∷ pos 4200 ∷ pos 0 ∷ []) ∷
    (pos 2 ∷ pos 1 ∷ pos 0 ∷ minus 1 ∷ minus 3359 ∷ pos 0 ∷ []) ∷
    (pos 2 ∷ minus 1 ∷ minus 1 ∷ pos 1 ∷ pos 2463 ∷ pos 0 ∷ []) ∷
    (pos 2 ∷ minus 1 ∷ pos 0 ∷ pos 1 ∷ pos 2211 ∷ pos 0 ∷ []) ∷
    (pos 2 ∷ minus 1 ∷ minus 1 ∷ minus 1 ∷ pos 2065 ∷ pos 0 ∷ []) ∷
    (pos 0 ∷ pos 1 ∷ minus 1 ∷ minus 1 ∷ minus 1870 ∷ pos 0 ∷ []) ∷
    (pos 4 ∷ pos 0 ∷ minus 1 ∷ minus 1 ∷ pos 1828 ∷ pos 0 ∷ []) ∷
    (pos 0 ∷ pos 1 ∷ pos 0 ∷ pos 1 ∷ minus 1794 ∷ pos 0 ∷ []) ∷
    (pos 0 ∷ pos 0 ∷ pos 0 ∷ pos 3 ∷ minus 1749 ∷ pos 0 ∷ []) ∷
    (pos 0 ∷ pos 1 ∷ minus 1 ∷ pos 1 ∷ minus 1565 ∷ pos 0 ∷ []) ∷
    (pos 1 ∷ pos 0 ∷ pos 0 ∷ pos 1 ∷ minus 1491 ∷ pos 0 ∷ []) ∷
    (pos 0 ∷ pos 1 ∷ pos 1 ∷ pos 1 ∷ minus 1475 ∷ pos 0 ∷ []) ∷
    (pos 0 ∷ pos 1 ∷ pos 1 ∷ minus 1 ∷ minus 1410 ∷ pos 0 ∷ []) ∷
    (pos 0 ∷ pos 1 ∷ pos 0 ∷ minus 1 ∷ minus 1344 ∷ pos 0 ∷ []) ∷
    (pos 1 ∷ pos 0 ∷ pos 0 ∷ minus 1 ∷ minus 1335 ∷ pos 0 ∷ []) ∷
    (pos 0 ∷ pos 0 ∷ pos 3 ∷ pos 1 ∷ pos 1107 ∷ pos 0 ∷ []) ∷
    (pos 4 ∷ pos 0 ∷ pos 0 ∷ minus 1 ∷ pos 1021 ∷ pos 0 ∷ []) ∷
    (pos 4 ∷ pos 0 ∷ minus 1 ∷ pos 1 ∷ pos 833 ∷ pos 0 ∷ []) ∷
    (pos 0 ∷ pos 0 ∷ pos 1 ∷ minus 3 ∷ pos 777 ∷ pos 0 ∷ []) ∷
    (pos 4 ∷ pos 0 ∷ minus 2 ∷ pos 1 ∷ pos 671 ∷ pos 0 ∷ []) ∷
    (pos 2 ∷ pos 0 ∷ pos 0 ∷ minus 3 ∷ pos 607 ∷ pos 0 ∷ []) ∷
    (pos 2 ∷ pos 0 ∷ pos 2 ∷ minus 1 ∷ pos 596 ∷ pos 0 ∷ []) ∷
    (pos 2 ∷ minus 1 ∷ pos 1 ∷ minus 1 ∷ pos 491 ∷ pos 0 ∷ []) ∷
    (pos 2 ∷ pos 0 ∷ minus 2 ∷ pos 1 ∷ minus 451 ∷ pos 0 ∷ []) ∷
    (pos 0 ∷ pos 0 ∷ pos 3 ∷ minus 1 ∷ pos 439 ∷ pos 0 ∷ []) ∷
    (pos 2 ∷ pos 0 ∷ pos 2 ∷ pos 1 ∷ pos 422 ∷ pos 0 ∷ []) ∷
    (pos 2 ∷ pos 0 ∷ minus 3 ∷ minus 1 ∷ pos 421 ∷ pos 0 ∷ []) ∷
    (pos 2 ∷ pos 1 ∷ minus 1 ∷ pos 1 ∷ minus 366 ∷ pos 0 ∷ []) ∷
    (pos 2 ∷ pos 1 ∷ pos 0 ∷ pos 1 ∷ minus 351 ∷ pos 0 ∷ []) ∷
    (pos 4 ∷ pos 0 ∷ pos 0 ∷ pos 1 ∷ pos 331 ∷ pos 0 ∷ []) ∷
    (pos 2 ∷ minus 1 ∷ pos 1 ∷ pos 1 ∷ pos 315 ∷ pos 0 ∷ []) ∷
    (pos 2 ∷ minus 2 ∷ pos 0 ∷ minus 1 ∷ pos 302 ∷ pos 0 ∷ []) ∷
    (pos 0 ∷ pos 0 ∷ pos 1 ∷ pos 3 ∷ minus 283 ∷ pos 0 ∷ []) ∷
    (pos 2 ∷ pos 1 ∷ pos 1 ∷ minus 1 ∷ minus 229 ∷ pos 0 ∷ []) ∷
    (pos 1 ∷ pos 1 ∷ pos 0 ∷ minus 1 ∷ pos 223 ∷ pos 0 ∷ []) ∷
    (pos 1 ∷ pos 1 ∷ pos 0 ∷ pos 1 ∷ pos 223 ∷ pos 0 ∷ []) ∷
    (pos 0 ∷ pos 1 ∷ minus 2 ∷ minus 1 ∷ minus 220 ∷ pos 0 ∷ []) ∷
    (pos 2 ∷ pos 1 ∷ minus 1 ∷ minus 1 ∷ minus 220 ∷ pos 0 ∷ []) ∷
    (pos 1 ∷ pos 0 ∷ pos 1 ∷ pos 1 ∷ minus 185 ∷ pos 0 ∷ []) ∷
    (pos 2 ∷ minus 1 ∷ minus 2 ∷ minus 1 ∷ pos 181 ∷ pos 0 ∷ []) ∷
    (pos 0 ∷ pos 1 ∷ pos 2 ∷ pos 1 ∷ minus 177 ∷ pos 0 ∷ []) ∷
    (pos 4 ∷ pos 0 ∷ minus 2 ∷ minus 1 ∷ pos 176 ∷ pos 0 ∷ []) ∷
    (pos 4 ∷ minus 1 ∷ minus 1 ∷ minus 1 ∷ pos 166 ∷ pos 0 ∷ []) ∷
    (pos 1 ∷ pos 0 ∷ pos 1 ∷ minus 1 ∷ minus 164 ∷ pos 0 ∷ []) ∷
    (pos 4 ∷ pos 0 ∷ pos 1 ∷ minus 1 ∷ pos 132 ∷ pos 0 ∷ []) ∷
    (pos 1 ∷ pos 0 ∷ minus 1 ∷ minus 1 ∷ minus 119 ∷ pos 0 ∷ []) ∷
    (pos 4 ∷ minus 1 ∷ pos 0 ∷ minus 1 ∷ pos 115 ∷ pos 0 ∷ []) ∷
    (pos 2 ∷ minus 2 ∷ pos 0 ∷ pos 1 ∷ pos 107 ∷ pos 0 ∷ []) ∷ []
