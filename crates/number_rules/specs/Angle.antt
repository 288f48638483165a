-- Angles (01, "Units and rounding"): in 10⁻⁸ degree.
use Rattle.std.specs.Prelude.{ℕ, ℤ}
use Rattle.arithmetic.specs.Floor.{◌modulo◌}

abbrev pub full_turn : ℕ
full_turn = 36_000_000_000

abbrev pub half_turn : ℕ
half_turn = 18_000_000_000

abbrev pub quarter_turn : ℕ
quarter_turn = 9_000_000_000

-- "reduced": 0 to 35,999,999,999 by whole turns
unfoldable pub reduced : ℤ → ℕ
reduced x = x modulo full_turn
