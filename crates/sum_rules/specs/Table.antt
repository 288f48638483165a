-- Tables: a list of rows, each a list of numbers; their columns, and sums over the rows.
use Rattle.std.specs.Prelude.{List, [], ◌∷◌, ℕ, ◌+◌, ◌≤◌, ◌<◌, ℤ, pos, nat_abs, ◌+ℤ◌, get_or, length}

abbrev pub column : List ℤ → ℕ → ℤ
column row i = get_or row i (pos 0)

unfoldable pub total : {A : Type 0} → (A → ℤ) → List A → ℤ
total f [] = pos 0
total f (row ∷ rows) = f row +ℤ total f rows

-- the same over whole numbers from 0
unfoldable pub count : {A : Type 0} → (A → ℕ) → List A → ℕ
count f [] = 0
count f (row ∷ rows) = f row + count f rows

-- a row none of whose columns passes its bound, on either side of zero
pub record Bounded (bounds : List ℕ) (row : List ℤ) : Type 0 where
  pub each : (i : ℕ) → i < length bounds → nat_abs (column row i) ≤ get_or bounds i 0
