-- The exact sums against numbers worked outside (tests/exact_cases.py, from 01's text and the csv tables): the reference at three angles; at two
-- instants the polynomials, E and some rows, with m 0, ±1 and ±2; and the six sums whole. Demand 3 alone lets an exact sum be off by its bound.
use Rattle.std.specs.Prelude.{List, [], ◌∷◌, ℕ, ◌^◌, ℤ, pos, get_or}
use Rattle.exact.specs.Fraction.{ℚ, whole, nat, ◌-q◌, ◌*q◌, ◌over◌, Within}
use Rattle.exact.specs.Reference.{sin°, cos°}
use Rattle.arithmetic.specs.Each.{Each}
use Rattle.sum_rules.specs.Instant.{minus}
use Rattle.sum_rules.specs.MoonTerms.{L', D, M, M', F, A1, A2, A3, longitude_distance_terms, latitude_terms}
use Rattle.sum_rules.specs.SunTerms.{L0, R1}
use Rattle.sum_rules.specs.ExactSums.{
  centuries,
  millennia,
  degrees,
  E,
  sine_term,
  cosine_term,
  ray,
  in_degrees,
  moon_longitude,
  moon_latitude,
  moon_metres,
  sun_L,
  sun_B,
  sun_R,
}

-- x is k times 10⁻³⁰, to the nearest whole k
infix 70 ◌≈◌e-30
pub data Case : Type 0 where
  ◌≈◌e-30 : ℚ → ℤ → Case

abbrev pub Nearest : ℚ → ℤ → Type 0
Nearest x k = Within (nat (10 ^ 30) *q x -q whole k) (nat 1 over 2)

abbrev pub Holds : Case → Type 0
Holds (x ≈ k e-30) = Nearest x k

-- two instants, TT: n, T and τ
abbrev pub n₁ : ℤ
n₁ = minus 3_155_724_800_900

abbrev pub n₂ : ℤ
n₂ = pos 1_234_567_890_123

abbrev pub T₁ : ℚ
T₁ = centuries n₁

abbrev pub T₂ : ℚ
T₂ = centuries n₂

abbrev pub τ₁ : ℚ
τ₁ = millennia n₁

abbrev pub τ₂ : ℚ
τ₂ = millennia n₂

-- row i of a table, counted from 0
abbrev pub row : {A : Type 0} → List (List A) → ℕ → List A
row rows i = get_or rows i []

-- the reference, and degrees in a radian: π's last digit, the seam at 180 degrees and the number of terms
abbrev pub reference : List Case
reference =
    in_degrees (nat 1) ≈ pos 57_295_779_513_082_320_876_846_364_344_191 e-30 ∷
    sin° (nat 180) ≈ minus 2_643_383_272 e-30 ∷
    cos° (nat 180) ≈ minus 1_000_000_000_000_000_000_000_000_000_094 e-30 ∷ []

-- the Moon's polynomials and E, and single rows, with m 0, ±1 and ±2
abbrev pub parts₁ : List Case
parts₁ =
    degrees T₁ L' ≈ minus 481_044_198_342_673_343_355_421_528_258_979_881 e-30 ∷
    degrees T₁ D ≈ minus 444_964_296_620_494_665_357_831_531_654_583_504 e-30 ∷
    degrees T₁ M ≈ minus 35_641_119_804_748_547_194_008_040_623_606_289 e-30 ∷
    degrees T₁ M' ≈ minus 477_058_572_743_497_943_160_743_570_403_203_216 e-30 ∷
    degrees T₁ F ≈ minus 483_103_359_484_356_420_827_405_764_612_577_294 e-30 ∷
    degrees T₁ A1 ≈ minus 12_097_529_366_575_436_661_850_077_318_934 e-30 ∷
    degrees T₁ A2 ≈ minus 479_205_854_323_627_227_989_454_204_375_491_165 e-30 ∷
    degrees T₁ A3 ≈ minus 480_947_665_991_312_088_244_986_944_507_820_620 e-30 ∷
    E T₁ ≈ pos 1_002_508_572_101_810_078_935_266_331_938 e-30 ∷
    sine_term T₁ (row longitude_distance_terms 0) ≈ minus 5_366_228_766_134_905_962_794_517_146_720_378_425 e-30 ∷
    sine_term T₁ (row longitude_distance_terms 4) ≈ pos 3_626_803_913_904_330_521_878_776_968_034_847 e-30 ∷
    sine_term T₁ (row longitude_distance_terms 7) ≈ pos 44_522_197_907_634_338_764_474_836_206_287_441 e-30 ∷
    sine_term T₁ (row longitude_distance_terms 33) ≈ pos 81_259_799_887_783_498_676_620_791_779_746 e-30 ∷
    sine_term T₁ (row longitude_distance_terms 34) ≈ pos 1_626_787_297_432_971_587_947_953_300_293_004 e-30 ∷
    cosine_term T₁ (row longitude_distance_terms 0) ≈ minus 10_900_378_646_789_402_161_024_331_086_015_647_885 e-30 ∷
    cosine_term T₁ (row longitude_distance_terms 7) ≈ minus 95_778_140_347_681_924_053_657_946_257_008_915 e-30 ∷
    cosine_term T₁ (row longitude_distance_terms 42) ≈ minus 1_179_482_372_226_790_682_701_973_953_207_954 e-30 ∷
    sine_term T₁ (row latitude_terms 10) ≈ minus 3_365_089_669_574_549_687_605_785_599_694_760 e-30 ∷
    ray τ₁ (row L0 1) ≈ minus 84_128_557_654_169_774_225_084_764_538_060_318 e-30 ∷
    ray τ₁ (row R1 0) ≈ pos 44_378_116_611_785_923_343_558_538_010_770_211 e-30 ∷ []

-- the same at the second instant
abbrev pub parts₂ : List Case
parts₂ =
    degrees T₂ L' ≈ pos 188_495_584_667_465_768_753_797_495_426_643_298 e-30 ∷
    degrees T₂ D ≈ pos 174_491_222_741_942_309_589_326_956_249_130_703 e-30 ∷
    degrees T₂ M ≈ pos 14_440_752_006_343_860_547_701_536_743_635_245 e-30 ∷
    degrees T₂ M' ≈ pos 186_820_390_440_898_526_538_990_942_059_375_636 e-30 ∷
    degrees T₂ F ≈ pos 189_127_195_305_927_343_068_865_559_780_689_578 e-30 ∷
    degrees T₂ A1 ≈ pos 171_330_773_488_740_407_065_176_059_015_895 e-30 ∷
    degrees T₂ A2 ≈ pos 187_546_531_616_788_858_363_753_897_634_801_126 e-30 ∷
    degrees T₂ A3 ≈ pos 188_590_171_847_920_798_011_255_608_791_543_083 e-30 ∷
    E T₂ ≈ pos 999_014_580_691_324_578_651_644_382_755 e-30 ∷
    sine_term T₂ (row longitude_distance_terms 0) ≈ minus 2_110_567_492_301_924_075_920_596_937_469_831_299 e-30 ∷
    sine_term T₂ (row longitude_distance_terms 4) ≈ minus 120_722_105_761_799_233_845_897_298_383_599_683 e-30 ∷
    sine_term T₂ (row longitude_distance_terms 7) ≈ pos 48_710_928_228_314_548_479_249_962_747_071_034 e-30 ∷
    sine_term T₂ (row longitude_distance_terms 33) ≈ minus 2_042_264_303_487_219_847_225_255_717_154_808 e-30 ∷
    sine_term T₂ (row longitude_distance_terms 34) ≈ pos 2_016_233_612_545_120_990_477_202_104_499_422 e-30 ∷
    cosine_term T₂ (row longitude_distance_terms 0) ≈ minus 19_692_875_217_731_846_276_430_265_105_177_469_600 e-30 ∷
    cosine_term T₂ (row longitude_distance_terms 7) ≈ pos 78_967_595_274_274_302_594_643_788_078_517_138 e-30 ∷
    cosine_term T₂ (row longitude_distance_terms 42) ≈ pos 407_257_243_356_044_302_974_522_339_187_007 e-30 ∷
    sine_term T₂ (row latitude_terms 10) ≈ minus 3_533_830_073_496_754_072_642_999_193_147_507 e-30 ∷
    ray τ₂ (row L0 1) ≈ pos 2_186_940_629_940_613_137_756_000_002_242_859_839 e-30 ∷
    ray τ₂ (row R1 0) ≈ minus 29_781_988_579_520_526_941_221_132_991_596_834 e-30 ∷ []

-- the Moon's sums, whole
abbrev pub moon_sums : List Case
moon_sums =
    moon_longitude T₁ ≈ minus 481_048_912_637_280_309_628_913_765_981_342_644 e-30 ∷
    moon_latitude T₁ ≈ pos 989_030_222_185_373_268_951_716_444_440 e-30 ∷
    moon_metres T₁ ≈ pos 368_758_880_930_065_593_395_734_350_189_456_559_396 e-30 ∷ []

-- the Sun's sums, whole
abbrev pub sun_sums : List Case
sun_sums =
    sun_L τ₁ ≈ minus 626_572_157_025_182_653_974_730_726_186_922 e-30 ∷
    sun_B τ₁ ≈ minus 1_384_012_345_786_449_506_683_918 e-30 ∷
    sun_R τ₁ ≈ pos 983_267_266_912_512_338_047_218_921_396 e-30 ∷ []

-- every case holds
abbrev pub ExactCasesHold : Type 0
ExactCasesHold = Each (Each Holds) (reference ∷ parts₁ ∷ parts₂ ∷ moon_sums ∷ sun_sums ∷ [])
