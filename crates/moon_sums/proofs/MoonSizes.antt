-- The Moon keeps its distance within reach, which a parallax needs and a disk, and its longitude is reduced.
use Prim.Native.Nat.{◌≤◌}
use native.Mathlib.Nat.{le_of_lt, le_refl, le_trans}
use native.Mathlib.Omega.{arith}
use lib.Dec.{T, leb, leb→le}
use lib.IntN.{◌+ℤ◌, nat_abs, pos, ℤ}
use lib.Signed.{◌≤ℤ◌}
use Rattle.arithmetic.specs.Floor.{⌊◌÷◌⌋}
use Rattle.arithmetic.proofs.Difference.{#◌, ◌⊞◌, by_le, to_le, ⊟◌, ⟨◌⟩}
use Rattle.arithmetic.proofs.Sizes.{add_bound, not_far_below}
use Rattle.number_rules.specs.Angle.{full_turn}
use Rattle.number_rules.proofs.SineLaws.{reduced_below}
use Rattle.sum_rules.specs.Instant.{furthest}
use Rattle.sum_rules.specs.Moon.{argument, arguments, cosine_term, distance_sum, eccentricity, longitude, longitude_sum, metres}
use Rattle.sum_rules.specs.MoonTerms.{L', longitude_distance_terms}
use Rattle.sum_rules.specs.Table.{count}
use Rattle.sum_terms.proofs.InstantLaws.{floor_size}
use Rattle.sum_terms.proofs.TableLaws.{total_size}
use Rattle.moon_sums.specs.MoonRange.{spread}
use Rattle.moon_sums.proofs.MoonLaws.{cosine_term_most, eccentricity_slight}

distance_most : T (leb (count (spread 5) longitude_distance_terms) 3_200_000_000_000_000_000)
unfolding longitude_distance_terms count
distance_most = tt

-- how far the metres lie from their constant
off_constant : (n : ℤ) → nat_abs n ≤ furthest → nat_abs ⌊ distance_sum n ÷ 100_000_000_000 ⌋ ≤ 35_000_000
off_constant n h =
    floor_size (distance_sum n) 100_000_000_000 {m = 3_200_000_000_000_000_000}
    (le_trans (total_size (cosine_term (arguments n) (eccentricity n)) (spread 5) (cosine_term_most (arguments n) (eccentricity n) (eccentricity_slight n h)) longitude_distance_terms)
    (leb→le (count (spread 5) longitude_distance_terms) 3_200_000_000_000_000_000 distance_most)) tt

pub metres_least : (n : ℤ) → nat_abs n ≤ furthest → pos 350_000_000 ≤ℤ metres n
unfolding metres
metres_least n h =
    let q = ⌊ distance_sum n ÷ 100_000_000_000 ⌋ in
    let low = to_le (⊟ (# 35_000_000)) ⟨ q ⟩ (not_far_below q 35_000_000 (off_constant n h)) in
    by_le (# 350_000_000) (# 385_000_560 ⊞ ⟨ q ⟩) (omega (arith, low))

pub metres_most : (n : ℤ) → nat_abs n ≤ furthest → nat_abs (metres n) ≤ 420_000_560
unfolding metres
metres_most n h = add_bound (pos 385_000_560) ⌊ distance_sum n ÷ 100_000_000_000 ⌋ (le_refl 385_000_560) (off_constant n h)

pub moon_longitude_most : (n : ℤ) → longitude n ≤ full_turn
unfolding longitude
moon_longitude_most n = le_of_lt (reduced_below (argument L' n +ℤ ⌊ longitude_sum n ÷ 1_000_000_000 ⌋))
