-- Sizes of the terms of the nutation.
use mathlib.Core.List.{List}
use Prim.Native.Nat.{◌*◌, ◌+◌, ◌/◌, ◌^◌, ◌≤◌, ℕ}
use native.Mathlib.Nat.{le_refl, le_trans}
use native.Mathlib.Omega.{arith}
use lib.Dec.{leb→le}
use lib.IntN.{◌*ℤ◌, nat_abs, pos, ℤ}
use Rattle.arithmetic.specs.Floor.{⌊◌÷◌⌋}
use Rattle.arithmetic.proofs.FloorLaws.{floor_most}
use Rattle.arithmetic.proofs.Sizes.{add_bound, mul_bound}
use Rattle.number_rules.specs.Angle.{full_turn}
use Rattle.number_rules.specs.Sine.{cosine, sine}
use Rattle.number_rules.proofs.SineSize.{cosine_most, sine_most}
use Rattle.sum_rules.specs.Instant.{furthest, u}
use Rattle.sum_terms.specs.TermRange.{Summing, Turns}
use Rattle.sum_rules.specs.Nutation.{arguments, cosine_term, row_angle, sine_term, weight, Δε, Δψ}
use Rattle.earth.specs.NutationRange.{Summable, row_bounds, spread}
use Rattle.sum_rules.specs.NutationTerms.{X0, X1, X2, X3, X4, nutation_terms}
use Rattle.sum_rules.specs.Table.{column, count, total}
use Rattle.sum_terms.proofs.InstantLaws.{floor_size, u_most, value_small}
use Rattle.sum_terms.proofs.TableLaws.{bounded_rows, bounded_test}
use Rattle.sum_terms.proofs.SumLoop.{all_small}
use Rattle.sum_terms.proofs.TermLaws.{five}

-- a weight is at most 10 a and 2 b, and one
pub weight_most : (u : ℤ) → nat_abs u ≤ 2 ^ 20 → (a b : ℤ) → nat_abs (weight u a b) ≤ 10 * nat_abs a + 2 * nat_abs b + 1
weight_most u h a b =
    le_trans
    (add_bound (pos 10 *ℤ a) ⌊ b *ℤ u ÷ 1_000_000 ⌋ (mul_bound (pos 10) a (le_refl 10) (le_refl (nat_abs a)))
    (floor_most (b *ℤ u) 1_000_000 (nat_abs b * 2 ^ 20) (mul_bound b u (le_refl (nat_abs b)) h)))
    (below (nat_abs a) (nat_abs b))
  where
    below : (x y : ℕ) → 10 * x + (y * 2 ^ 20 / 1_000_000 + 1) ≤ 10 * x + 2 * y + 1
    below x y = omega arith

module _ (args : List ℤ) (u : ℤ) (h : nat_abs u ≤ 2 ^ 20) where
  sine_term_most : (row : List ℤ) → nat_abs (sine_term args u row) ≤ spread 5 6 row
  sine_term_most row =
      mul_bound (weight u (column row 5) (column row 6)) (sine (row_angle args row)) (weight_most u h (column row 5) (column row 6))
      (sine_most (row_angle args row))

  cosine_term_most : (row : List ℤ) → nat_abs (cosine_term args u row) ≤ spread 7 8 row
  cosine_term_most row =
      mul_bound (weight u (column row 7) (column row 8)) (cosine (row_angle args row)) (weight_most u h (column row 7) (column row 8))
      (cosine_most (row_angle args row))

  -- the sums of a table are small
  module _ (terms : List (List ℤ)) (fit : Summable terms) where
    pub sine_summing : Summing (sine_term args u) terms (2 ^ 57)
    sine_summing = record { size = spread 5 6; sized = sine_term_most; fit = fit.by_sine }

    pub cosine_summing : Summing (cosine_term args u) terms (2 ^ 57)
    cosine_summing = record { size = spread 7 8; sized = cosine_term_most; fit = fit.by_cosine }

pub weight_small : (u : ℤ) → nat_abs u ≤ 2 ^ 20 → (a b : ℤ) → nat_abs a ≤ 2 ^ 18 → nat_abs b ≤ 2 ^ 18 → nat_abs (weight u a b) ≤ 2 ^ 32
weight_small u h a b k l = omega (arith, weight_most u h a b, k, l)

-- the arguments are reduced
pub arguments_turn : (n : ℤ) → Turns (arguments n)
arguments_turn n = record { below = five full_turn _ _ _ _ _ (value_small X0 n) (value_small X1 n) (value_small X2 n) (value_small X3 n) (value_small X4 n) }

-- the table, by one test
pub nutation_fits : Summable nutation_terms
unfolding nutation_terms bounded_test count
nutation_fits = record {
  each = bounded_rows row_bounds nutation_terms tt;
  by_sine = leb→le (count (spread 5 6) nutation_terms) (2 ^ 57) tt;
  by_cosine = leb→le (count (spread 7 8) nutation_terms) (2 ^ 57) tt;
}

-- the nutation itself, within reach
module _ (n : ℤ) (h : nat_abs n ≤ furthest) where
  pub u_small : nat_abs (u n) ≤ 2 ^ 20
  u_small = le_trans (u_most n h) (leb→le 1_011_001 (2 ^ 20) tt)

  pub Δψ_most : nat_abs (Δψ n) ≤ 2 ^ 26
  unfolding Δψ
  Δψ_most =
      let sum = total (sine_term (arguments n) (u n)) nutation_terms in
      floor_size (pos 25 *ℤ sum) 90_000_000_000 (mul_bound (pos 25) sum (le_refl 25) (all_small (sine_summing (arguments n) (u n) u_small nutation_terms nutation_fits))) tt

  pub Δε_most : nat_abs (Δε n) ≤ 2 ^ 26
  unfolding Δε
  Δε_most =
      let sum = total (cosine_term (arguments n) (u n)) nutation_terms in
      floor_size (pos 25 *ℤ sum) 90_000_000_000 (mul_bound (pos 25) sum (le_refl 25) (all_small (cosine_summing (arguments n) (u n) u_small nutation_terms nutation_fits))) tt
