-- Cases by hand (01, ●; 02, Item 8) that belong to the sums: what a day, a century, a millennium and the divisor of the sidereal time count in milliseconds; 01's cases in TT and UT; and
-- whole values at five instants, worked by another program, the first and the last instant among them.
use Rattle.std.specs.Prelude.{List, [], ◌∷◌, ◌≡◌, ℕ, ℤ, pos}
use Rattle.arithmetic.specs.Each.{Each}
use Rattle.sum_rules.specs.Instant.{century, day, millennium, minus, value}
use Rattle.sum_rules.specs.Moon.{longitude, latitude, metres}
use Rattle.sum_rules.specs.MoonTerms.{L'}
use Rattle.sum_rules.specs.Nutation.{Δψ, Δε, obliquity}
use Rattle.sum_rules.specs.Sidereal.{mean, sidereal_divisor}
use Rattle.sum_rules.specs.Sun.{L, B, R}

pub data Case : Type 0 where
  counts : ℕ → ℕ → Case
  mean_longitude_at : ℤ → ℕ → Case
  moon_at : ℤ → ℕ → ℤ → ℤ → Case
  sun_at : ℤ → ℤ → ℤ → ℤ → Case
  nutation_at : ℤ → ℤ → ℤ → ℤ → Case
  sidereal_at : ℤ → ℕ → Case

abbrev pub Holds : Case → Type 0
Holds (counts time n) = time ≡ n
Holds (mean_longitude_at n l) = value L' n ≡ l
Holds (moon_at n l b m) = pos (longitude n) ∷ latitude n ∷ metres n ∷ [] ≡ pos l ∷ b ∷ m ∷ []
Holds (sun_at n l b r) = L n ∷ B n ∷ R n ∷ [] ≡ l ∷ b ∷ r ∷ []
Holds (nutation_at n ψ ε o) = Δψ n ∷ Δε n ∷ obliquity n ∷ [] ≡ ψ ∷ ε ∷ o ∷ []
Holds (sidereal_at ut s) = mean ut ≡ s

abbrev pub cases : List Case
cases =
    counts day 86_400_000 ∷
    counts century 3_155_760_000_000 ∷
    counts millennium 31_557_600_000_000 ∷
    counts sidereal_divisor 86_400_000_000 ∷
    mean_longitude_at (pos 0) 21_831_644_770 ∷
    mean_longitude_at (pos 86_400_000) 23_149_284_417 ∷
    sidereal_at (minus 86_400_000) 27_947_497_100 ∷
    moon_at (minus 3_155_724_800_900) 27_108_736_268 (pos 98_903_022) (pos 368_758_881) ∷
    sun_at (minus 3_155_724_800_900) (minus 6_265_721_570_182) (minus 13_843) (pos 9_832_672_648) ∷
    nutation_at (minus 3_155_724_800_900) (pos 483_613) (minus 63_709) (pos 2_345_165_585) ∷
    sidereal_at (minus 3_155_724_800_900) 6_675_541_900 ∷
    moon_at (pos 3_187_260_800_899) 29_526_647_379 (minus 291_646_992) (pos 367_927_233) ∷
    sun_at (pos 3_187_260_800_899) (pos 6_363_550_880_959) (pos 3161) (pos 9_834_157_074) ∷
    nutation_at (pos 3_187_260_800_899) (pos 243_726) (pos 206_527) (pos 2_342_822_452) ∷
    sidereal_at (pos 3_187_260_800_899) 13_392_788_587 ∷
    moon_at (pos 0) 22_331_871_102 (pos 517_128_006) (pos 402_444_812) ∷
    sun_at (pos 0) (pos 17_519_226_963) (minus 33_050) (pos 9_833_275_804) ∷
    nutation_at (pos 0) (minus 386_755) (minus 160_387) (pos 2_343_768_724) ∷
    sidereal_at (pos 0) 28_046_061_837 ∷
    moon_at (minus 1) 22_331_871_087 (pos 517_128_006) (pos 402_444_812) ∷
    sun_at (minus 1) (pos 17_519_226_958) (minus 33_050) (pos 9_833_275_803) ∷
    nutation_at (minus 1) (minus 386_755) (minus 160_386) (pos 2_343_768_726) ∷
    sidereal_at (minus 1) 28_046_061_419 ∷
    moon_at (pos 1) 22_331_871_115 (pos 517_128_006) (pos 402_444_812) ∷
    sun_at (pos 1) (pos 17_519_226_964) (minus 33_051) (pos 9_833_275_804) ∷
    nutation_at (pos 1) (minus 386_755) (minus 160_387) (pos 2_343_768_724) ∷
    sidereal_at (pos 1) 28_046_062_254 ∷ []

-- every one of them holds
abbrev pub CasesHold : Type 0
CasesHold = Each Holds cases
