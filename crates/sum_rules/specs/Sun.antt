-- The Sun's sums (01, "Sun"), at TT n: L, B, R in 10⁻¹⁰ radian or AU.
use Rattle.std.specs.Prelude.{List, [], ◌∷◌, ℕ, ◌*◌, ◌/◌, ℤ, pos, ◌+ℤ◌, ◌*ℤ◌, get_or}
use Rattle.arithmetic.specs.Floor.{⌊◌÷◌⌋, ◌modulo◌}
use Rattle.number_rules.specs.Sine.{cosine}
use Rattle.sum_rules.specs.Instant.{millennium, u}
use Rattle.sum_rules.specs.Table.{total}
use Rattle.sum_rules.specs.SunTerms.{L_groups, B_groups, R_groups}

-- a row's A, B times 10⁸ and C times 10⁸
abbrev pub row_A : List ℕ → ℕ
row_A row = get_or row 0 0

abbrev pub row_B : List ℕ → ℕ
row_B row = get_or row 1 0

abbrev pub row_C : List ℕ → ℕ
row_C row = get_or row 2 0

-- B times 10⁸ plus ⌊C 10⁸ n / 31,557,600,000,000⌋, remainder by 628,318,531, times 5,729,577,951 over 10⁸
abbrev pub phase : ℤ → ℕ → ℤ
phase n c = ⌊ pos c *ℤ n ÷ millennium ⌋

unfoldable pub row_angle : ℤ → ℕ → ℕ → ℕ
row_angle n b c = (pos b +ℤ phase n c) modulo 628_318_531 * 5_729_577_951 / 100_000_000

-- ⌊A cosine / 10⁷⌋
unfoldable pub row_value : ℤ → List ℕ → ℤ
row_value n row = ⌊ pos (row_A row) *ℤ cosine (pos (row_angle n (row_B row) (row_C row))) ÷ 10_000_000 ⌋

abbrev pub group : ℤ → List (List ℕ) → ℤ
group n rows = total (row_value n) rows

-- from the highest group down, v = next + ⌊v u / 10⁷⌋
unfoldable pub down : ℤ → List (List (List ℕ)) → ℤ
down n [] = pos 0
down n (rows ∷ above) = group n rows +ℤ ⌊ down n above *ℤ u n ÷ 10_000_000 ⌋

-- but into group 0 with n / 31,557,600,000,000
unfoldable pub series : ℤ → List (List (List ℕ)) → ℤ
series n [] = pos 0
series n (rows ∷ above) = group n rows +ℤ ⌊ down n above *ℤ n ÷ millennium ⌋

abbrev pub L : ℤ → ℤ
L n = series n L_groups

abbrev pub B : ℤ → ℤ
B n = series n B_groups

abbrev pub R : ℤ → ℤ
R n = series n R_groups

-- to degrees: remainder by 62,831,853,072, times 5,729,577,951 over 10¹⁰; B without the remainder
unfoldable pub longitude_degrees : ℤ → ℤ
longitude_degrees l = ⌊ pos (l modulo 62_831_853_072) *ℤ pos 5_729_577_951 ÷ 10_000_000_000 ⌋

unfoldable pub latitude_degrees : ℤ → ℤ
latitude_degrees b = ⌊ b *ℤ pos 5_729_577_951 ÷ 10_000_000_000 ⌋
