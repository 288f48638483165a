-- What keeps the Sun's sums within 64 bits: a row that moves has a small A, and a group's A add up to little.
use Rattle.std.specs.Prelude.{List, [], ℕ, zero, suc, ◌+◌, ◌*◌, ◌^◌, ◌≤◌, ◌<◌, ℤ, nat_abs, get_or, length, drop}
use Rattle.sum_rules.specs.Table.{count}
use Rattle.sum_rules.specs.Instant.{furthest}
use Rattle.sum_rules.specs.Sun.{down, row_A, row_B, row_C}

pub record SmallRay (row : List ℕ) : Type 0 where
  pub constant : row_A row ≤ 2 ^ 40
  pub moving : 0 < row_B row + row_C row → row_A row ≤ 2 ^ 32
  pub phase_B : row_B row ≤ 2 ^ 30
  pub phase_C : row_C row ≤ 2 ^ 44

abbrev pub spread : List ℕ → ℕ
spread row = 101 * row_A row + 1

pub record Summable (rows : List (List ℕ)) : Type 0 where
  pub each : (i : ℕ) → i < length rows → SmallRay (get_or rows i [])
  pub all : count spread rows ≤ 2 ^ 46

-- how large v may be that group k is handed: 2⁴⁶ into group 0, and 2⁴² above it
abbrev pub top : ℕ → ℕ
top zero = 2 ^ 46
top (suc k) = 2 ^ 42

-- every group of a series fits, and so does what each is handed
pub record Sound (groups : List (List (List ℕ))) : Type 0 where
  pub each : (k : ℕ) → k < length groups → Summable (get_or groups k [])
  pub above : (n : ℤ) → nat_abs n ≤ furthest → (k : ℕ) → nat_abs (down n (drop k (drop 1 groups))) ≤ top k
