-- The Sun keeps its distance within reach, which a parallax needs and a disk, and its angles are not large.
use mathlib.Core.List.{List, [], ◌∷◌}
use mathlib.Core.Path.{◌∙◌, ◌≡◌, ap, refl, subst⁻¹}
use Prim.Native.Nat.{◌*◌, ◌^◌, ◌≤◌, ℕ}
use native.Mathlib.Nat.{le_of_lt, le_refl, le_trans}
use native.Mathlib.Omega.{arith}
use lib.Dec.{T, leb, leb→le, lit<, lit≤}
use lib.IntN.{◌*ℤ◌, ◌+ℤ◌, nat_abs, pos, ℤ}
use lib.ListN.{drop}
use lib.Signed.{◌≤ℤ◌}
use Rattle.arithmetic.specs.Floor.{◌modulo◌, ⌊◌÷◌⌋}
use Rattle.arithmetic.proofs.Difference.{#◌, ◌⊞◌, by_le, to_le, ⊟◌, ⟨◌⟩}
use Rattle.arithmetic.proofs.FloorLaws.{modulo_below}
use Rattle.arithmetic.proofs.Sizes.{add_bound, mul_bound, not_far_below}
use Rattle.sum_rules.specs.Instant.{furthest, millennium}
use Rattle.sum_rules.specs.Sun.{B, R, down, group, latitude_degrees, longitude_degrees, row_value, series}
use Rattle.sum_rules.specs.SunTerms.{B_groups, B0, R_groups, R0, R1, R2, R3, R4}
use Rattle.sum_rules.specs.Table.{count, total}
use Rattle.sum_terms.proofs.InstantLaws.{floor_size}
use Rattle.sum_terms.proofs.TableLaws.{total_size}
use Rattle.sun_sums.specs.SunRange.{spread}
use Rattle.sun_sums.proofs.SunLaws.{B_sound, constant_value, down_most, group_most, level, row_value_most}

-- the Sun's distance is its constant row, and little more or less
abbrev constant_row : List ℕ
constant_row = 100_013_989 ∷ 0 ∷ 0 ∷ []

R0_first : R0 ≡ constant_row ∷ drop 1 R0
unfolding R0
R0_first = refl

others_most : T (leb (count spread (drop 1 R0)) 172_000_000)
unfolding R0 count
others_most = tt

above_most : T (leb (level (drop 1 R_groups)) 11_000_000)
unfolding level count R1 R2 R3 R4
above_most = tt

first_group : (n : ℤ) → group n R0 ≡ pos 10_001_398_900 +ℤ total (row_value n) (drop 1 R0)
unfolding total
first_group n = ap (group n) R0_first ∙ ap (λ (z : ℤ). z +ℤ total (row_value n) (drop 1 R0)) (constant_value n constant_row refl)

-- the other rows, and the later groups
module _ (n : ℤ) where
  abbrev rest : ℤ
  rest = total (row_value n) (drop 1 R0)

  abbrev later : ℤ
  later = ⌊ down n (drop 1 R_groups) *ℤ n ÷ millennium ⌋

  rest_small : nat_abs rest ≤ 172_000_000
  rest_small = le_trans (total_size (row_value n) spread (row_value_most n) (drop 1 R0)) (leb→le (count spread (drop 1 R0)) 172_000_000 others_most)

  later_small : nat_abs n ≤ furthest → nat_abs later ≤ 2_000_000
  later_small h =
      floor_size (down n (drop 1 R_groups) *ℤ n) millennium {m = 11_000_000 * furthest}
      (mul_bound (down n (drop 1 R_groups)) n (le_trans (down_most n h (drop 1 R_groups)) (leb→le (level (drop 1 R_groups)) 11_000_000 above_most)) h) tt

pub R_least : (n : ℤ) → nat_abs n ≤ furthest → pos 9_800_000_000 ≤ℤ R n
unfolding series
R_least n h =
    let low = to_le (⊟ (# 172_000_000)) ⟨ rest n ⟩ (not_far_below (rest n) 172_000_000 (rest_small n)) in
    let low_later = to_le (⊟ (# 2_000_000)) ⟨ later n ⟩ (not_far_below (later n) 2_000_000 (later_small n h)) in
    subst⁻¹ (λ (z : ℤ). pos 9_800_000_000 ≤ℤ (z +ℤ later n)) (first_group n)
    (by_le (# 9_800_000_000) (# 10_001_398_900 ⊞ ⟨ rest n ⟩ ⊞ ⟨ later n ⟩) (omega (arith, low, low_later)))

pub R_most : (n : ℤ) → nat_abs n ≤ furthest → nat_abs (R n) ≤ 10_175_398_900
unfolding series
R_most n h =
    subst⁻¹ (λ (z : ℤ). nat_abs (z +ℤ later n) ≤ 10_175_398_900) (first_group n)
    (add_bound (pos 10_001_398_900 +ℤ rest n) (later n) (add_bound (pos 10_001_398_900) (rest n) (le_refl 10_001_398_900) (rest_small n)) (later_small n h))

-- ---- angles
pub longitude_degrees_most : (l : ℤ) → nat_abs (longitude_degrees l) ≤ 2 ^ 36
unfolding longitude_degrees
longitude_degrees_most l =
    floor_size (pos (l modulo 62_831_853_072) *ℤ pos 5_729_577_951) 10_000_000_000
    (mul_bound (pos (l modulo 62_831_853_072)) (pos 5_729_577_951) (le_of_lt (modulo_below l (lit< tt))) (le_refl 5_729_577_951)) tt

pub latitude_degrees_most : (b : ℤ) → nat_abs b ≤ 2 ^ 46 → nat_abs (latitude_degrees b) ≤ 2 ^ 46
unfolding latitude_degrees
latitude_degrees_most b h = floor_size (b *ℤ pos 5_729_577_951) 10_000_000_000 (mul_bound b (pos 5_729_577_951) h (le_refl 5_729_577_951)) tt

B_test : T (leb (count spread B0) (2 ^ 45))
unfolding count B0
B_test = tt

pub B_most : (n : ℤ) → nat_abs n ≤ furthest → nat_abs (B n) ≤ 2 ^ 46
unfolding series
B_most n h =
    le_trans
    (add_bound (group n B0) ⌊ down n (drop 1 B_groups) *ℤ n ÷ millennium ⌋ (le_trans (group_most n B0) (leb→le (count spread B0) (2 ^ 45) B_test))
    (floor_size (down n (drop 1 B_groups) *ℤ n) millennium {m = 2 ^ 46 * furthest} {k = 2 ^ 45} (mul_bound (down n (drop 1 B_groups)) n (B_sound.above n h 0) h) tt))
    (lit≤ tt)
