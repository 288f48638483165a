-- Exact fractions (01, "Reference"): a whole number over a whole number above zero. Ratios that are equal by cross-multiplying are one fraction.
use Rattle.std.specs.Prelude.{Bool, ℕ, zero, suc, T, ℤ, pos}
use Rattle.std.proofs.Math.Bool.{Bool-set}
use mathlib.Core.Quot.{Quot, mk, sound, Quot-set, lift}
use mathlib.Mathlib.Data.Quot.{lift₂}
use Rattle.std.proofs.Math.IntN.{ℤ_set}
use Rattle.arithmetic.specs.Ratio.{Ratio, ◌~◌, sum, product, opposite, not_negative}
use Rattle.arithmetic.specs.Ratio as Ratio
use Rattle.arithmetic.proofs.RatioLaws.{sum_right, sum_left, product_right, product_left, opposite_same, not_negative_same, floor_same}

abbrev pub ℚ : Type 0
ℚ = Quot ◌~◌

-- whole numbers among the fractions
unfoldable pub whole : ℤ → ℚ
whole a = mk (Ratio.whole a)

abbrev pub nat : ℕ → ℚ
nat n = whole (pos n)

infixl 6 ◌+q◌ ◌-q◌
infixl 7 ◌*q◌ ◌over◌
unfoldable pub ◌+q◌ : ℚ → ℚ → ℚ
p +q q =
    lift₂ Quot-set (λ x y. mk (sum x y)) (λ x y z h. sound (sum_right x y z h)) (λ x y z h. sound (sum_left x y z h)) p q

unfoldable pub ◌*q◌ : ℚ → ℚ → ℚ
p *q q =
    lift₂ Quot-set (λ x y. mk (product x y)) (λ x y z h. sound (product_right x y z h)) (λ x y z h. sound (product_left x y z h)) p q

unfoldable pub negq : ℚ → ℚ
negq p = lift Quot-set (λ x. mk (opposite x)) (λ x y h. sound (opposite_same x y h)) p

abbrev pub ◌-q◌ : ℚ → ℚ → ℚ
p -q q = p +q negq q

-- 1 / (n + 1)
unfoldable pub inv : ℕ → ℚ
inv n = mk (record { num = pos 1; den_1 = n })

-- p / d, for d above zero
abbrev pub ◌over◌ : ℚ → ℕ → ℚ
p over zero = p
p over suc d = p *q inv d

-- the greatest whole number that is not above p
unfoldable pub floor : ℚ → ℤ
floor p = lift ℤ_set Ratio.floor floor_same p

-- at or above zero: `nn` is the test, `NN` the statement
unfoldable pub nn : ℚ → Bool
nn p = lift Bool-set not_negative not_negative_same p

pub record NN (p : ℚ) : Type 0 where
  pub is : T (nn p)

-- a / d ≤ b / e where b d - a e is at or above zero: by cross-multiplying
infix 5 ◌≤q◌
pub record ◌≤q◌ (p q : ℚ) : Type 0 where
  pub diff : NN (q -q p)

-- -b ≤ x ≤ b
pub record Within (x b : ℚ) : Type 0 where
  pub lo : NN (b +q x)
  pub hi : NN (b -q x)
