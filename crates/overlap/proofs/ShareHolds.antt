-- What 02 asks of the share holds of any three numbers: case by case.
use mathlib.Core.Path.{◌∙◌, ◌≡◌}
use Prim.Native.Nat.{◌*◌, ◌+◌, ◌-◌, ◌/◌, ◌<◌, ◌≤◌, ℕ}
use native.Mathlib.Decide.{dec_lt}
use native.Mathlib.Nat.{div-le_of_le-mul}
use native.Mathlib.Omega.{arith}
use Rattle.overlap.specs.Overlap.{lens, ring, share}
use Rattle.overlap.specs.Share.{EveryShareHolds}
use Rattle.overlap.proofs.OverlapLaws.{millionths_most, ring_most, share_large_moon, share_nothing, share_ring, share_small_moon, share_whole}

share_most : (apart rs rm : ℕ) → share apart rs rm ≤ 1_000_000
share_most apart rs rm = go (dec_lt apart (rs + rm)) (dec_lt rm rs) (dec_lt (rm - rs) apart) (dec_lt (rs - rm) apart)
  where
    go : Dec (apart < rs + rm) → Dec (rm < rs) → Dec (rm - rs < apart) → Dec (rs - rm < apart) → share apart rs rm ≤ 1_000_000
    go (no f) g k l = rw (share_nothing apart rs rm (omega arith)) (omega arith)
    go (yes n) (yes h) k (yes l) = rw (share_small_moon apart rs rm n h l) (millionths_most (lens apart rs rm))
    go (yes n) (yes h) k (no l) = rw (share_ring apart rs rm n h (omega arith)) (ring_most rs rm (omega arith))
    go (yes n) (no h) (yes k) l = rw (share_large_moon apart rs rm n (omega arith) k) (millionths_most (lens apart rs rm))
    go (yes n) (no h) (no k) l = rw (share_whole apart rs rm n (omega arith) (omega arith)) (omega arith)

-- a Moon of radius 0 at the Sun's rim is counted as nothing, which the ring's floor says too
share_ringed : (apart rs rm : ℕ) → rm < rs → apart ≤ rs - rm → share apart rs rm ≡ 1_000_000 * (rm * rm) / (rs * rs)
unfolding ring
share_ringed apart rs rm h k = go (dec_lt apart (rs + rm))
  where
    none : rm ≡ 0 → 0 ≡ 1_000_000 * (rm * rm) / (rs * rs)
    none e = let l : 1_000_000 * (rm * rm) / (rs * rs) ≤ 0 = div-le_of_le-mul (rs * rs) (rw e (omega arith)) in omega arith

    go : Dec (apart < rs + rm) → share apart rs rm ≡ 1_000_000 * (rm * rm) / (rs * rs)
    go (yes near) = share_ring apart rs rm near h k
    go (no f) = share_nothing apart rs rm (omega arith) ∙ none (omega arith)

pub every_share_holds : EveryShareHolds
every_share_holds apart rs rm =
    record {
      at_most_whole = share_most apart rs rm;
      none_apart = share_nothing apart rs rm;
      whole_inside = λ p h k. share_whole apart rs rm (omega arith) h k;
      ring_floor = share_ringed apart rs rm;
    }
