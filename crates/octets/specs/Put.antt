-- Octets stored in a lent buffer from a place on.
use Rattle.std.specs.Prelude.{List, ◌≡◌, ◌+◌, ℕ, length}
use Rattle.std.proofs.lemmas.List.Edits.{sets}

-- what the buffer held, the place, the octets, what it holds after, and the place behind them
pub record Put (before : List ℕ) (at : ℕ) (added after : List ℕ) (next : ℕ) : Type 0 where
  pub stored : after ≡ sets before at added
  pub behind : next ≡ at + length added
