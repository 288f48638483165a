-- The nutation and the obliquity (01, "Nutation"), at TT n.
use Rattle.std.specs.Prelude.{◌*◌, ◌/◌, List, [], ◌∷◌, ℤ, pos, ◌+ℤ◌, ◌*ℤ◌}
use Rattle.arithmetic.specs.Floor.{⌊◌÷◌⌋}
use Rattle.number_rules.specs.Sine.{sine, cosine}
use Rattle.sum_rules.specs.Instant.{u, p2, p3, minus}
use Rattle.sum_rules.specs.Table.{column, total}
use Rattle.sum_rules.specs.Moon.{argument}
use Rattle.sum_rules.specs.NutationTerms.{X0, X1, X2, X3, X4, nutation_terms}

-- X0 to X4, held together
abbrev pub arguments : ℤ → List ℤ
arguments n = argument X0 n ∷ argument X1 n ∷ argument X2 n ∷ argument X3 n ∷ argument X4 n ∷ []

-- all five columns of the table count
abbrev pub row_angle : List ℤ → List ℤ → ℤ
row_angle arguments row = column row 0 *ℤ column arguments 0 +ℤ column row 1 *ℤ column arguments 1 +ℤ column row 2 *ℤ column arguments 2
    +ℤ column row 3 *ℤ column arguments 3 +ℤ column row 4 *ℤ column arguments 4

-- weight 10 a + ⌊10 b u / 10⁶⌋, likewise c, d; the table has 10 b and 10 d
abbrev pub weight : ℤ → ℤ → ℤ → ℤ
weight u a b = pos 10 *ℤ a +ℤ ⌊ b *ℤ u ÷ 1_000_000 ⌋

abbrev pub sine_term : List ℤ → ℤ → List ℤ → ℤ
sine_term arguments u row = weight u (column row 5) (column row 6) *ℤ sine (row_angle arguments row)

abbrev pub cosine_term : List ℤ → ℤ → List ℤ → ℤ
cosine_term arguments u row = weight u (column row 7) (column row 8) *ℤ cosine (row_angle arguments row)

-- Δψ by sine, Δε by cosine: ⌊25 sum / (9 10¹⁰)⌋
unfoldable pub Δψ : ℤ → ℤ
Δψ n = ⌊ pos 25 *ℤ total (sine_term (arguments n) (u n)) nutation_terms ÷ 90_000_000_000 ⌋

unfoldable pub Δε : ℤ → ℤ
Δε n = ⌊ pos 25 *ℤ total (cosine_term (arguments n) (u n)) nutation_terms ÷ 90_000_000_000 ⌋

-- ⌊84,381,448 · 250 / 9⌋ + ⌊-468,093 u / 360,000⌋ + ⌊-155 p2 / (36 10⁶)⌋ + ⌊199,925 p3 / (36 10⁸)⌋ + Δε
unfoldable pub mean_obliquity : ℤ → ℤ
mean_obliquity n = pos (84_381_448 * 250 / 9) +ℤ ⌊ minus 468_093 *ℤ u n ÷ 360_000 ⌋ +ℤ ⌊ minus 155 *ℤ p2 n ÷ 36_000_000 ⌋
    +ℤ ⌊ pos 199_925 *ℤ p3 n ÷ 3_600_000_000 ⌋

abbrev pub obliquity : ℤ → ℤ
obliquity n = mean_obliquity n +ℤ Δε n
