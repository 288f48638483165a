-- DEMAND 3 of batches: a batch that is not refused has accepted samples only, and at every accepted instant the sums lie within 01's bounds.
use mathlib.Core.Bool.{Bool, cond, false, true}
use mathlib.Core.Path.{◌≡◌, refl}
use Prim.Native.Nat.{ℕ, ◌<◌}
use native.Mathlib.Omega.{arith}
use lib.Dec.{eqb}
use lib.ListN.{get_or, length}
use borrow.Author.Tests.{eqb-false, eqb-true}
use Rattle.sum_rules.specs.Accuracy.{SumsNear}
use Rattle.sum_rules.proofs.Accurate.{sums_near}
use Rattle.calendar.specs.Refusal.{first}
use Rattle.request.specs.Request.{instant, utc}
use Rattle.request.proofs.RequestLaws.{start_passes}
use Rattle.batch.specs.Batch.{BatchAnswer, batch, first_late, later, room_refusals}
use Rattle.batch.specs.Demand3.{EverySampleNear}
use Rattle.batch.proofs.BatchLaws.{all_in_time, sample_reachable}

-- a batch that is not refused has passed 1 to 9 and 12, and none of its offsets is late
done : (refusal late count : ℕ)
    → (cond {A = BatchAnswer} (eqb refusal 0) (cond (eqb late count) (record { refusal = 0; index = 0; count = count }) (record { refusal = 13; index = late; count = 0 }))
    (record { refusal = refusal; index = 0; count = 0 })).refusal ≡ 0 → (refusal ≡ 0) × (late ≡ count)
done refusal late count e = go (eqb refusal 0) (eqb late count) (eqb-true refusal 0) (eqb-false refusal 0) (eqb-true late count) e
  where
    go : (b c : Bool) → (b ≡ true → refusal ≡ 0) → (b ≡ false → refusal ≡ 0 → ⊥) → (c ≡ true → late ≡ count)
        → (cond {A = BatchAnswer} b (cond c (record { refusal = 0; index = 0; count = count }) (record { refusal = 13; index = late; count = 0 }))
        (record { refusal = refusal; index = 0; count = 0 })).refusal ≡ 0 → (refusal ≡ 0) × (late ≡ count)
    go true true is isn't in_time e = (is refl, in_time refl)
    go true false is isn't in_time e = absurd (omega (arith, e))
    go false c is isn't in_time e = absurd (isn't refl e)

pub every_sample_near : EverySampleNear
unfolding batch
every_sample_near start point offsets m n = record { near = accepted }
  where
    accepted : (batch start point offsets m n).refusal ≡ 0 → (i : ℕ) → i < length offsets → SumsNear (later (instant start) (get_or offsets i 0)).tt
    accepted e i h =
        let both = done (first (room_refusals start point offsets m n)) (first_late (utc start) offsets) (length offsets) e in
        let offset = get_or offsets i 0 in
        sums_near (later (instant start) offset).tt
        (sample_reachable start offset (start_passes start point _ both.0) (all_in_time (utc start) offsets both.1 i h)).tt_near
