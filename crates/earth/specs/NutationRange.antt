-- What keeps the sums of the nutation within 64 bits.
use Rattle.std.specs.Prelude.{List, [], ◌∷◌, ℕ, ◌+◌, ◌*◌, ◌^◌, ◌≤◌, ◌<◌, ℤ, nat_abs, get_or, length}
use Rattle.sum_rules.specs.Table.{Bounded, column, count}

abbrev pub row_bounds : List ℕ
row_bounds = 4 ∷ 4 ∷ 4 ∷ 4 ∷ 4 ∷ 2 ^ 18 ∷ 2 ^ 18 ∷ 2 ^ 18 ∷ 2 ^ 18 ∷ []

abbrev pub SmallRow : List ℤ → Type 0
SmallRow row = Bounded row_bounds row

abbrev pub spread : ℕ → ℕ → List ℤ → ℕ
spread i j row = (10 * nat_abs (column row i) + 2 * nat_abs (column row j) + 1) * 1_000_000_001

pub record Summable (terms : List (List ℤ)) : Type 0 where
  pub each : (i : ℕ) → i < length terms → SmallRow (get_or terms i [])
  pub by_sine : count (spread 5 6) terms ≤ 2 ^ 57
  pub by_cosine : count (spread 7 8) terms ≤ 2 ^ 57
