-- What keeps the Moon's sums within 64 bits: E and E2 little above a million, and tables whose weights add up to little.
use Rattle.std.specs.Prelude.{List, [], ◌∷◌, ℕ, ◌+◌, ◌*◌, ◌^◌, ◌≤◌, ◌<◌, ℤ, nat_abs, get_or, length}
use Rattle.sum_rules.specs.Table.{Bounded, column, count}
use Rattle.sum_rules.specs.declared.moon.Eccentricity.{Eccentricity}

pub record Slight (e : Eccentricity) : Type 0 where
  pub once : nat_abs e.e ≤ 2 ^ 20
  pub twice : nat_abs e.e2 ≤ 2 ^ 20

abbrev pub row_bounds : List ℕ
row_bounds = 4 ∷ 4 ∷ 4 ∷ 4 ∷ 2 ^ 25 ∷ 2 ^ 25 ∷ []

abbrev pub SmallRow : List ℤ → Type 0
SmallRow row = Bounded row_bounds row

abbrev pub spread : ℕ → List ℤ → ℕ
spread i row = (105 * nat_abs (column row i) + 1) * 1_000_000_001

pub record Summable (terms : List (List ℤ)) : Type 0 where
  pub each : (i : ℕ) → i < length terms → SmallRow (get_or terms i [])
  pub by_sine : count (spread 4) terms ≤ 2 ^ 62
  pub by_cosine : count (spread 5) terms ≤ 2 ^ 62
