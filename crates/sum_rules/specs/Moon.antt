-- The Moon's sums (01, "Moon"), at TT n.
use Rattle.std.specs.Prelude.{ℕ, zero, suc, List, [], ◌∷◌, ℤ, pos, nat_abs, ◌+ℤ◌, ◌*ℤ◌, ◌-ℤ◌}
use Rattle.arithmetic.specs.Floor.{⌊◌÷◌⌋}
use Rattle.number_rules.specs.Angle.{reduced}
use Rattle.number_rules.specs.Sine.{sine, cosine}
use Rattle.sum_rules.specs.Instant.{u, p2, value, minus}
use Rattle.sum_rules.specs.Table.{column, total}
use Rattle.sum_rules.specs.MoonTerms as Of
use Rattle.sum_rules.specs.MoonTerms.{longitude_distance_terms, latitude_terms}
use Rattle.sum_rules.specs.declared.moon.Eccentricity.{Eccentricity}
use Rattle.sum_rules.specs.declared.instant.Polynomial.{Polynomial}

-- an argument, as a signed number
abbrev pub argument : Polynomial → ℤ → ℤ
argument p n = pos (value p n)

-- L', D, M, M', F, held together
abbrev pub arguments : ℤ → List ℤ
arguments n = argument Of.L' n ∷ argument Of.D n ∷ argument Of.M n ∷ argument Of.M' n ∷ argument Of.F n ∷ []

unfoldable pub E : ℤ → ℤ
E n = pos 1_000_000 +ℤ ⌊ minus 2516 *ℤ u n ÷ 1_000_000 ⌋ +ℤ ⌊ minus 74 *ℤ p2 n ÷ 10_000_000 ⌋

unfoldable pub E2 : ℤ → ℤ
E2 n = ⌊ E n *ℤ E n ÷ 1_000_000 ⌋

abbrev pub eccentricity : ℤ → Eccentricity
eccentricity n = record { e = E n; e2 = E2 n }

-- a row's weight by the size of its column m: 0, 100 l; 1, ⌊l E / 10⁴⌋; 2, ⌊l E2 / 10⁴⌋
unfoldable pub weight : Eccentricity → ℕ → ℤ → ℤ
weight e zero l = pos 100 *ℤ l
weight e (suc zero) l = ⌊ l *ℤ e.e ÷ 10_000 ⌋
weight e (suc (suc m)) l = ⌊ l *ℤ e.e2 ÷ 10_000 ⌋

-- a row's angle: its four column numbers times D, M, M' and F, which are the arguments from 1 on
abbrev pub row_angle : List ℤ → List ℤ → ℤ
row_angle arguments row = column row 0 *ℤ column arguments 1 +ℤ column row 1 *ℤ column arguments 2
    +ℤ column row 2 *ℤ column arguments 3 +ℤ column row 3 *ℤ column arguments 4

-- a row by sine, of the weight in column 4, and by cosine, of that in column 5
abbrev pub sine_term : List ℤ → Eccentricity → List ℤ → ℤ
sine_term arguments e row = weight e (nat_abs (column row 1)) (column row 4) *ℤ sine (row_angle arguments row)

abbrev pub cosine_term : List ℤ → Eccentricity → List ℤ → ℤ
cosine_term arguments e row = weight e (nat_abs (column row 1)) (column row 5) *ℤ cosine (row_angle arguments row)

abbrev pub by_sine : ℤ → List (List ℤ) → ℤ
by_sine n terms = total (sine_term (arguments n) (eccentricity n)) terms

abbrev pub by_cosine : ℤ → List (List ℤ) → ℤ
by_cosine n terms = total (cosine_term (arguments n) (eccentricity n)) terms

-- added at weight 100
abbrev pub added : ℤ → ℤ → ℤ
added w a = pos 100 *ℤ w *ℤ sine a

abbrev pub longitude_added : ℤ → List ℤ → ℤ → ℤ → ℤ
longitude_added sum arguments a1 a2 = sum
    +ℤ added (pos 3958) a1
    +ℤ added (pos 1962) (column arguments 0 -ℤ column arguments 4)
    +ℤ added (pos 318) a2

abbrev pub latitude_added : ℤ → List ℤ → ℤ → ℤ → ℤ
latitude_added sum arguments a1 a3 = sum
    +ℤ added (minus 2235) (column arguments 0)
    +ℤ added (pos 382) a3
    +ℤ added (pos 175) (a1 -ℤ column arguments 4)
    +ℤ added (pos 175) (a1 +ℤ column arguments 4)
    +ℤ added (pos 127) (column arguments 0 -ℤ column arguments 3)
    +ℤ added (minus 115) (column arguments 0 +ℤ column arguments 3)

abbrev pub longitude_sum : ℤ → ℤ
longitude_sum n = longitude_added (by_sine n longitude_distance_terms) (arguments n) (argument Of.A1 n) (argument Of.A2 n)

abbrev pub latitude_sum : ℤ → ℤ
latitude_sum n = latitude_added (by_sine n latitude_terms) (arguments n) (argument Of.A1 n) (argument Of.A3 n)

abbrev pub distance_sum : ℤ → ℤ
distance_sum n = by_cosine n longitude_distance_terms

-- longitude = L' + ⌊sum / 10⁹⌋, reduced; latitude = ⌊sum / 10⁹⌋; metres = 385,000,560 + ⌊sum / 10¹¹⌋
unfoldable pub longitude : ℤ → ℕ
longitude n = reduced (argument Of.L' n +ℤ ⌊ longitude_sum n ÷ 1_000_000_000 ⌋)

unfoldable pub latitude : ℤ → ℤ
latitude n = ⌊ latitude_sum n ÷ 1_000_000_000 ⌋

unfoldable pub metres : ℤ → ℤ
metres n = pos 385_000_560 +ℤ ⌊ distance_sum n ÷ 100_000_000_000 ⌋
