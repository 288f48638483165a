-- What the Moon's rows and those of the nutation share: an angle of five arguments, and what keeps it and a table's sum within 64 bits.
use Rattle.std.specs.Prelude.{List, ℕ, ◌≤◌, ℤ, nat_abs, ◌+ℤ◌, ◌*ℤ◌}
use Rattle.number_rules.specs.Angle.{full_turn}
use Rattle.sum_rules.specs.Table.{column, count}

-- so many times each argument, added
abbrev pub angle_of : List ℤ → List ℤ → ℤ
angle_of arguments multiples = column multiples 0 *ℤ column arguments 0 +ℤ column multiples 1 *ℤ column arguments 1
    +ℤ column multiples 2 *ℤ column arguments 2 +ℤ column multiples 3 *ℤ column arguments 3 +ℤ column multiples 4 *ℤ column arguments 4

pub record Turns (arguments : List ℤ) : Type 0 where
  pub below : (i : ℕ) → nat_abs (column arguments i) ≤ full_turn

pub record Few (multiples : List ℤ) : Type 0 where
  pub below : (i : ℕ) → nat_abs (column multiples i) ≤ 4

-- the rows by f are of sizes that add up to at most m
pub record Summing {A : Type 0} (f : List A → ℤ) (rows : List (List A)) (m : ℕ) : Type 0 where
  pub size : List A → ℕ
  pub sized : (row : List A) → nat_abs (f row) ≤ size row
  pub fit : count size rows ≤ m
