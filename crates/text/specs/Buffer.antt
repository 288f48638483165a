-- A place that has room for so many bytes.
use Rattle.std.specs.Prelude.{◌≡◌, ℕ, ◌-◌, ◌≤◌, List, drop, length, replicate}

-- as many bytes as there is room for, of which some are in use, and zeros behind these
pub record Padded (room used : ℕ) (bytes : List ℕ) : Type 0 where
  pub whole : length bytes ≡ room
  pub within : used ≤ length bytes
  pub zeros : drop used bytes ≡ replicate (room - used) 0
