-- Sizes of the Moon's terms.
use mathlib.Core.Bool.{Bool, ◌&&◌}
use mathlib.Core.List.{List, [], ◌∷◌}
use mathlib.Core.Path.{◌∙◌, ◌≡◌, ap}
use Prim.Native.Nat.{◌*◌, ◌+◌, ◌/◌, ◌<◌, ◌^◌, ◌≤◌, suc, zero, ℕ}
use native.Mathlib.Nat.{le_refl, le_trans}
use native.Mathlib.Omega.{arith}
use lib.Dec.{T, leb, leb→le}
use lib.IntN.{◌*ℤ◌, ◌+ℤ◌, nat_abs, pos, ℤ}
use lib.Signed.{mag}
use mir.Facts.{and_yes}
use Rattle.arithmetic.specs.Floor.{⌊◌÷◌⌋}
use Rattle.arithmetic.proofs.FloorLaws.{floor_most}
use Rattle.arithmetic.proofs.Sizes.{abs_mul, add_bound, mul_bound}
use Rattle.arithmetic.proofs.Integers.{solveℤ}
use Rattle.arithmetic.proofs.Solver.{◌:*◌, ◌:+◌, k0, x0, x1, x2, x3, x4}
use Rattle.arithmetic.proofs.Table.{every}
use Rattle.number_rules.specs.Angle.{full_turn}
use Rattle.number_rules.specs.Sine.{cosine, sine}
use Rattle.numbers.proofs.Machine.{Mirror, gave}
use Rattle.number_rules.proofs.SineSize.{cosine_most, sine_most}
use Rattle.sum_rules.specs.Instant.{furthest, minus, p2, u}
use Rattle.sum_rules.specs.Moon.{E, E2, added, arguments, cosine_term, eccentricity, row_angle, sine_term, weight}
use Rattle.moon_sums.specs.MoonRange.{Slight, Summable, row_bounds, spread}
use Rattle.sum_terms.specs.TermRange.{Summing, Turns, angle_of}
use Rattle.sum_rules.specs.MoonTerms.{latitude_terms, longitude_distance_terms}
use Rattle.sum_rules.specs.Table.{column, count}
use Rattle.sum_rules.specs.declared.moon.Eccentricity.{Eccentricity}
use Rattle.sum_terms.proofs.InstantLaws.{floor_size, p2_most, u_most, value_small}
use Rattle.sum_terms.proofs.TableLaws.{bounded_rows, bounded_test}
use Rattle.sum_terms.proofs.TermLaws.{five}
use Rattle.sum_rules.specs.MoonTerms as Of

scaled : (l e : ℤ) → nat_abs e ≤ 2 ^ 20 → nat_abs ⌊ l *ℤ e ÷ 10_000 ⌋ ≤ 105 * nat_abs l + 1
scaled l e h = le_trans (floor_most (l *ℤ e) 10_000 (nat_abs l * 2 ^ 20) (mul_bound l e (le_refl (nat_abs l)) h)) (below (nat_abs l))
  where
    below : (x : ℕ) → x * 2 ^ 20 / 10_000 + 1 ≤ 105 * x + 1
    below x = omega arith

-- a weight is at most 105 times its l, and one
pub weight_most : (e : Eccentricity) → Slight e → (m : ℕ) (l : ℤ) → nat_abs (weight e m l) ≤ 105 * nat_abs l + 1
unfolding weight
weight_most e s zero l = omega (arith, abs_mul (pos 100) l)
weight_most e s (suc zero) l = scaled l e.e s.once
weight_most e s (suc (suc m)) l = scaled l e.e2 s.twice

module _ (args : List ℤ) (e : Eccentricity) (slight : Slight e) where
  sine_term_most : (row : List ℤ) → nat_abs (sine_term args e row) ≤ spread 4 row
  sine_term_most row =
      mul_bound (weight e (nat_abs (column row 1)) (column row 4)) (sine (row_angle args row)) (weight_most e slight (nat_abs (column row 1)) (column row 4)) (sine_most (row_angle args row))

  pub cosine_term_most : (row : List ℤ) → nat_abs (cosine_term args e row) ≤ spread 5 row
  cosine_term_most row =
      mul_bound (weight e (nat_abs (column row 1)) (column row 5)) (cosine (row_angle args row)) (weight_most e slight (nat_abs (column row 1)) (column row 5)) (cosine_most (row_angle args row))

  -- the sums of a table are small
  module _ (terms : List (List ℤ)) (fit : Summable terms) where
    pub sine_summing : Summing (sine_term args e) terms (2 ^ 62)
    sine_summing = record { size = spread 4; sized = sine_term_most; fit = fit.by_sine }

    pub cosine_summing : Summing (cosine_term args e) terms (2 ^ 62)
    cosine_summing = record { size = spread 5; sized = cosine_term_most; fit = fit.by_cosine }

pub weight_small : (e : Eccentricity) → Slight e → (m : ℕ) (l : ℤ) → nat_abs l ≤ 2 ^ 25 → nat_abs (weight e m l) ≤ 2 ^ 32
weight_small e s m l h = omega (arith, weight_most e s m l, h)

-- no row has L' in its angle
pub moon_angle : (args row : List ℤ) → angle_of args (pos 0 ∷ column row 0 ∷ column row 1 ∷ column row 2 ∷ column row 3 ∷ []) ≡ row_angle args row
moon_angle args row =
    solveℤ (k0 :* x0 :+ x1 :+ x2 :+ x3 :+ x4) (x1 :+ x2 :+ x3 :+ x4)
    (column args 0 ∷ (column row 0 *ℤ column args 1) ∷ (column row 1 *ℤ column args 2) ∷ (column row 2 *ℤ column args 3) ∷ (column row 3 *ℤ column args 4) ∷ []) tt

-- the arguments are reduced
pub arguments_turn : (n : ℤ) → Turns (arguments n)
arguments_turn n = record { below = five full_turn _ _ _ _ _ (value_small Of.L' n) (value_small Of.D n) (value_small Of.M n) (value_small Of.M' n) (value_small Of.F n) }

module _ (n : ℤ) (h : nat_abs n ≤ furthest) where
  E_most : nat_abs (E n) ≤ 1_003_000
  unfolding E
  E_most =
      le_trans
      (add_bound (pos 1_000_000 +ℤ ⌊ minus 2516 *ℤ u n ÷ 1_000_000 ⌋) ⌊ minus 74 *ℤ p2 n ÷ 10_000_000 ⌋
      (add_bound (pos 1_000_000) ⌊ minus 2516 *ℤ u n ÷ 1_000_000 ⌋ (le_refl 1_000_000)
      (floor_size (minus 2516 *ℤ u n) 1_000_000 {k = 2_545} (mul_bound (minus 2516) (u n) (le_refl 2516) (u_most n h)) tt))
      (floor_size (minus 74 *ℤ p2 n) 10_000_000 {k = 9} (mul_bound (minus 74) (p2 n) (le_refl 74) (p2_most n h)) tt))
      (leb→le (1_000_000 + 2_545 + 9) 1_003_000 tt)

  E2_most : nat_abs (E2 n) ≤ 2 ^ 20
  unfolding E2
  E2_most = floor_size (E n *ℤ E n) 1_000_000 (mul_bound (E n) (E n) E_most E_most) tt

  pub eccentricity_slight : Slight (eccentricity n)
  eccentricity_slight = record { once = le_trans E_most (leb→le 1_003_000 (2 ^ 20) tt); twice = E2_most }

-- a table, by one test
abbrev fits_test : List (List ℤ) → Bool
fits_test terms = every (bounded_test row_bounds) [] 0 terms && (leb (count (spread 4) terms) (2 ^ 62) && leb (count (spread 5) terms) (2 ^ 62))

summable : (terms : List (List ℤ)) → T (fits_test terms) → Summable terms
summable terms t =
    let t₁ = and_yes (every (bounded_test row_bounds) [] 0 terms) _ t in
    let t₂ = and_yes (leb (count (spread 4) terms) (2 ^ 62)) _ t₁.1 in
    record {
      each = bounded_rows row_bounds terms t₁.0;
      by_sine = leb→le (count (spread 4) terms) (2 ^ 62) t₂.0;
      by_cosine = leb→le (count (spread 5) terms) (2 ^ 62) t₂.1;
    }

pub longitude_distance_fits : Summable longitude_distance_terms
unfolding longitude_distance_terms bounded_test count
longitude_distance_fits = summable longitude_distance_terms tt

pub latitude_fits : Summable latitude_terms
unfolding latitude_terms bounded_test count
latitude_fits = summable latitude_terms tt

-- what a term outside the tables gave, at the angle a
pub added_small : (w a : ℤ) → T (leb (nat_abs w) 4_000) → nat_abs (added w a) ≤ 2 ^ 49
added_small w a t =
    le_trans (mul_bound (pos 100 *ℤ w) (sine a) (mul_bound (pos 100) w (le_refl 100) (leb→le (nat_abs w) 4_000 t)) (sine_most a))
    (leb→le (100 * 4_000 * 1_000_000_001) (2 ^ 49) tt)

abbrev pub added_gave : (w a : ℤ) {r z : ℤ} → mag r < 2 ^ 63 → r ≡ added w z → z ≡ a → T (leb (nat_abs w) 4_000) → Mirror
added_gave w a {r} ok e same t = gave {r = r} {v = added w a} ok (e ∙ ap (added w) same) (added_small w a t)
