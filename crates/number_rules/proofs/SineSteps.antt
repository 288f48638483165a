-- How large the steps of the sine rule are, over ℕ.
use Prim.Native.Nat.{◌%◌, ◌*◌, ◌/◌, ◌≤◌, ℕ}
use native.Mathlib.Nat.{mul-le-mul, mul-le-mul_right}
use native.Mathlib.Omega.{arith}
use Rattle.number_rules.specs.Sine.{radians, rest_cosine, rest_sine}

-- ---- the rest: r is at most a quarter degree in radians
pub radians_most : (y : ℕ) → radians (y % 25_000_000) ≤ 4_363_323
radians_most y = omega arith

module _ (r : ℕ) (h : r ≤ 4_363_323) where
  pub square_most : r * r ≤ 4_363_323 * 4_363_323
  square_most = mul-le-mul h h

  -- r² / 10⁹ times r is at most 19,039 r
  pub cube_most : r * r / 1_000_000_000 * r ≤ 19_039 * r
  cube_most = mul-le-mul_right r (ninth (r * r) square_most)
    where
      ninth : (s : ℕ) → s ≤ 4_363_323 * 4_363_323 → s / 1_000_000_000 ≤ 19_039
      ninth s h = omega arith

  pub cosine_fits : r * r / 2_000_000_000 ≤ 1_000_000_000
  cosine_fits = let s = square_most in omega arith

  pub sine_fits : r * r / 1_000_000_000 * r / 6_000_000_000 ≤ r
  sine_fits = sixth (r * r / 1_000_000_000 * r) r cube_most
    where
      sixth : (p r : ℕ) → p ≤ 19_039 * r → p / 6_000_000_000 ≤ r
      sixth p r h = omega arith

  pub rest_sine_most : rest_sine r ≤ 4_363_323
  rest_sine_most = omega arith

pub rest_cosine_most : (r : ℕ) → rest_cosine r ≤ 1_000_000_000
rest_cosine_most r = omega arith
