-- The tables' digests. The rule and the exact sum read the same tables, so no bound can refuse a wrong entry: a digest worked from the csv files does.
use mathlib.Core.List.{List, [], ◌∷◌, flatten, foldl, map}
use Rattle.std.specs.Prelude.{◌≡◌, ℕ, ◌-◌, ◌^◌, ℤ, pos, ◌+ℤ◌, ◌*ℤ◌}
use Rattle.arithmetic.specs.Floor.{◌modulo◌}
use Rattle.sum_rules.specs.MoonTerms.{L', D, M, M', F, A1, A2, A3, longitude_distance_terms, latitude_terms}
use Rattle.sum_rules.specs.NutationTerms.{X0, X1, X2, X3, X4, nutation_terms}
use Rattle.sum_rules.specs.SunTerms.{L0, L1, L2, L3, L4, L5, B0, B1, R0, R1, R2, R3, R4}
use Rattle.sum_rules.specs.declared.instant.Polynomial.{Polynomial}

-- one entry after another: h becomes 1,000,003 h + x, less multiples of 2⁶¹ - 1
unfoldable pub mixed : ℕ → ℤ → ℕ
mixed h x = (pos 1_000_003 *ℤ pos h +ℤ x) modulo (2 ^ 61 - 1)

-- from 1, so that a zero at the start counts too
abbrev pub digest : List ℤ → ℕ
digest entries = foldl mixed 1 entries

-- a table's entries in reading order, and their digest worked from the csv file
pub record Pin : Type 0 where
  pub entries : List ℤ
  pub expected : ℕ

abbrev pub signed_rows : List (List ℤ) → ℕ → Pin
signed_rows rows expected = record { entries = flatten rows; expected = expected }

abbrev pub unsigned_rows : List (List ℕ) → ℕ → Pin
unsigned_rows rows expected = record { entries = map pos (flatten rows); expected = expected }

abbrev pub coefficients : Polynomial → ℕ → Pin
coefficients p expected = record { entries = p.c0 ∷ p.c1 ∷ p.c2 ∷ p.s3 ∷ pos p.k3 ∷ p.s4 ∷ pos p.k4 ∷ []; expected = expected }

abbrev pub pins : List Pin
pins =
    signed_rows longitude_distance_terms 227_896_202_213_486_509 ∷
    signed_rows latitude_terms 1_554_832_673_562_142_123 ∷
    signed_rows nutation_terms 899_224_614_086_494_998 ∷
    unsigned_rows L0 1_468_690_884_821_095_386 ∷
    unsigned_rows L1 2_185_833_801_110_198_253 ∷
    unsigned_rows L2 561_606_037_668_852_612 ∷
    unsigned_rows L3 1_688_481_963_641_556_152 ∷
    unsigned_rows L4 1_327_150_217_310_192_217 ∷
    unsigned_rows L5 1_000_324_000_975_000_036 ∷
    unsigned_rows B0 1_382_186_606_741_114_219 ∷
    unsigned_rows B1 1_784_402_627_694_508_518 ∷
    unsigned_rows R0 1_181_160_058_582_640_815 ∷
    unsigned_rows R1 1_195_132_791_190_669_308 ∷
    unsigned_rows R2 389_522_086_172_993_552 ∷
    unsigned_rows R3 1_893_833_452_808_881_809 ∷
    unsigned_rows R4 1_000_269_629_127_000_063 ∷
    coefficients L' 379_007_623_278_975_207 ∷
    coefficients D 1_170_047_679_083_988_053 ∷
    coefficients M 1_546_052_137_402_216_423 ∷
    coefficients M' 1_141_251_668_745_065_427 ∷
    coefficients F 539_990_533_209_272_315 ∷
    coefficients A1 905_353_903_931_788_623 ∷
    coefficients A2 2_032_342_874_627_983_351 ∷
    coefficients A3 456_075_817_767_277_740 ∷
    coefficients X0 2_218_207_233_387_542_137 ∷
    coefficients X1 1_685_797_513_437_996_960 ∷
    coefficients X2 878_672_836_305_917_769 ∷
    coefficients X3 1_250_995_100_515_380_323 ∷
    coefficients X4 1_659_166_146_892_701_866 ∷ []

-- every table has its digest
abbrev pub Pinned : Type 0
Pinned = map (λ pin. digest pin.entries) pins ≡ map (λ pin. pin.expected) pins
