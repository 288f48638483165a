-- `numbers::sine::quarter_sine` meets its contract.
use mathlib.Core.Path.{◌≡◌, ap₂, subst⁻¹}
use Prim.Native.Nat.{◌%◌, ◌*◌, ◌+◌, ◌-◌, ◌/◌, ◌≤◌, ℕ}
use native.Mathlib.Nat.{mul-le-mul}
use native.Mathlib.Omega.{arith}
use Rattle.number_rules.specs.Sine.{entry, quarter_sine, radians, rest_cosine, rest_sine}
use Rattle.number_rules.proofs.SineSteps.{cosine_fits, cube_most, radians_most, rest_cosine_most, rest_sine_most, sine_fits, square_most}
use Rattle.number_rules.proofs.SineTableLaws.{entry_small}
use Rattle.numbers.proofs.sine.quarter_sine.Goals as goal
use Rattle.numbers.proofs.sine.quarter_sine.Goals.{After-entry_at, After-entry_at-2}

-- the two entries
module _ (c : After-entry_at) where
  abbrev k : ℕ
  k = c.args.y / 25_000_000

  first_is : c.entry_at.result ≡ entry k
  first_is = c.entry_at.ensures

  first_small : c.entry_at.result ≤ 1_000_000_000
  first_small = subst⁻¹ (λ (n : ℕ). n ≤ 1_000_000_000) first_is (entry_small k (omega arith))

  first_most : c.entry_at.result * rest_cosine (radians (c.args.y % 25_000_000)) ≤ 1_000_000_000 * 1_000_000_000
  first_most = mul-le-mul first_small (rest_cosine_most (radians (c.args.y % 25_000_000)))

module _ (c : After-entry_at-2) where
  abbrev y₀ : ℕ
  y₀ = c.args.y

  second_is : c.entry_at-2.result ≡ entry (360 - y₀ / 25_000_000)
  second_is = c.entry_at-2.ensures

  second_small : c.entry_at-2.result ≤ 1_000_000_000
  second_small = subst⁻¹ (λ (n : ℕ). n ≤ 1_000_000_000) second_is (entry_small (360 - y₀ / 25_000_000) (omega arith))

  second_most : c.entry_at-2.result * rest_sine (radians (y₀ % 25_000_000)) ≤ 1_000_000_000 * 4_363_323
  second_most = mul-le-mul second_small (rest_sine_most (radians (y₀ % 25_000_000)) (radians_most y₀))

pub overflow_mul-q : goal.overflow_mul-q
overflow_mul-q c = omega (arith, square_most (radians (c.args.y % 25_000_000)) (radians_most c.args.y))

pub overflow_mul-cosine : goal.overflow_mul-cosine
overflow_mul-cosine c = omega (arith, square_most (radians (c.args.y % 25_000_000)) (radians_most c.args.y))

pub overflow_sub-cosine : goal.overflow_sub-cosine
overflow_sub-cosine c = cosine_fits (radians (c.args.y % 25_000_000)) (radians_most c.args.y)

pub overflow_mul-sine : goal.overflow_mul-sine
overflow_mul-sine c = omega (arith, cube_most (radians (c.args.y % 25_000_000)) (radians_most c.args.y), radians_most c.args.y)

pub overflow_sub-sine : goal.overflow_sub-sine
overflow_sub-sine c = sine_fits (radians (c.args.y % 25_000_000)) (radians_most c.args.y)

pub overflow_mul-result : goal.overflow_mul-result
overflow_mul-result c = omega (arith, first_most (goal.at.overflow_mul-result c).After-entry_at)

pub overflow_mul-result-2 : goal.overflow_mul-result-2
overflow_mul-result-2 c = omega (arith, second_most (goal.at.overflow_mul-result-2 c).After-entry_at-2)

pub overflow_add-result : goal.overflow_add-result
overflow_add-result c = omega (arith, first_most (goal.at.overflow_add-result c).After-entry_at, second_most (goal.at.overflow_add-result c).After-entry_at-2)

pub returns : goal.returns
unfolding quarter_sine
returns c =
    let r = radians (y₀ (goal.at.returns c).After-entry_at-2 % 25_000_000) in
    ap₂ (λ (a b : ℕ). (a * rest_cosine r + b * rest_sine r) / 1_000_000_000) (first_is (goal.at.returns c).After-entry_at) (second_is (goal.at.returns c).After-entry_at-2)
