-- Demand 3 of batches (01: "at every accepted instant"): where a batch is answered, the sums behind every sample lie within 01's bounds of the exact ones.
use Rattle.std.specs.Prelude.{List, ◌≡◌, ℕ, ◌<◌, get_or, length}
use Rattle.sum_rules.specs.Accuracy.{SumsNear}
use Rattle.request.specs.Request.{instant}
use Rattle.request.specs.declared.start.Start.{Start}
use Rattle.sky_vectors.specs.declared.station.Point.{Point}
use Rattle.batch.specs.Batch.{batch, later}

-- behind every sample of a batch, with buffers of m and n entries
pub record SamplesNear (start : Start) (point : Point) (offsets : List ℕ) (m n : ℕ) : Type 0 where
  pub near : (batch start point offsets m n).refusal ≡ 0 → (i : ℕ) → i < length offsets → SumsNear (later (instant start) (get_or offsets i 0)).tt

-- THE CLAIM, for every batch
abbrev pub EverySampleNear : Type 0
EverySampleNear = (start : Start) (point : Point) (offsets : List ℕ) (m n : ℕ) → SamplesNear start point offsets m n
