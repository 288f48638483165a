-- What a rotation makes of two numbers. A sum of two products keeps to 1.423 times the larger number, since that bounds
-- the sizes of a sine and a cosine of one angle together.
use mathlib.Core.Path.{◌∙◌, ◌≡◌, ap}
use Prim.Native.Nat.{◌*◌, ◌+◌, ◌/◌, ◌≤◌, ℕ}
use native.Mathlib.Nat.{le_refl, le_trans, mul-le-mul_left}
use native.Mathlib.Omega.{arith}
use lib.IntN.{+ℤ_comm, ◌*ℤ◌, nat_abs, ℤ}
use mir.Syntax.{w64}
use mir.Val.{of_z, to_z}
use Rattle.arithmetic.specs.Floor.{⌊◌÷◌⌋}
use Rattle.arithmetic.proofs.FloorLaws.{floor_most}
use Rattle.arithmetic.proofs.Sizes.{add_bound, mul_bound, sub_bound}
use Rattle.numbers.specs.declared.sine.SineCosine.{SineCosine}
use Rattle.numbers.proofs.Machine.{field, told}
use Rattle.sky_vectors.specs.Product.{◌·◌}
use Rattle.sky_vectors.specs.Rotation.{rotated}
use Rattle.numbers.specs.SineCosine.{OneAngle}
use Rattle.sky_vectors.specs.SkyRange.{vector_limit}
use Rattle.sky_vectors.specs.Vector.{equatorial}
use Rattle.sky_vectors.specs.declared.rotation.Pair.{Pair}
use Rattle.sky_vectors.specs.declared.vector.Vector.{Vector}

-- a product over a numeral, and over 10⁹
pub floored_most : (x y : ℤ) (d : ℕ) {m n : ℕ} → nat_abs x ≤ m → nat_abs y ≤ n → nat_abs ⌊ x *ℤ y ÷ d ⌋ ≤ m * n / d + 1
floored_most x y d {m} {n} h k = floor_most (x *ℤ y) d (m * n) (mul_bound x y h k)

pub product_most : (x y : ℤ) {m n : ℕ} → nat_abs x ≤ m → nat_abs y ≤ n → nat_abs (x · y) ≤ m * n / 1_000_000_000 + 1
unfolding ◌·◌
product_most x y h k = floored_most x y 1_000_000_000 h k

-- two of them, by a sine and a cosine
abbrev pub grown : ℕ → ℕ
grown m = m * 1_423_000_000 / 1_000_000_000 + 2

two : (m sine cosine : ℕ) → sine + cosine ≤ 1_423_000_000
    → (m * cosine / 1_000_000_000 + 1) + (m * sine / 1_000_000_000 + 1) ≤ grown m
two m sine cosine h = let k = mul-le-mul_left m h in floored (m * cosine) (m * sine) (m * 1_423_000_000) (omega arith)
  where
    floored : (x y z : ℕ) → x + y ≤ z → (x / 1_000_000_000 + 1) + (y / 1_000_000_000 + 1) ≤ z / 1_000_000_000 + 2
    floored x y z h = omega arith

module _ (angle : SineCosine) (x y : ℤ) {m : ℕ} (one : OneAngle angle) (h : nat_abs x ≤ m) (k : nat_abs y ≤ m) where
  by_cosine : (z : ℤ) → nat_abs z ≤ m → nat_abs (z · angle.cosine) ≤ m * nat_abs angle.cosine / 1_000_000_000 + 1
  by_cosine z l = product_most z angle.cosine l (le_refl (nat_abs angle.cosine))

  by_sine : (z : ℤ) → nat_abs z ≤ m → nat_abs (z · angle.sine) ≤ m * nat_abs angle.sine / 1_000_000_000 + 1
  by_sine z l = product_most z angle.sine l (le_refl (nat_abs angle.sine))

  by_both : (m * nat_abs angle.cosine / 1_000_000_000 + 1) + (m * nat_abs angle.sine / 1_000_000_000 + 1) ≤ grown m
  by_both = two m (nat_abs angle.sine) (nat_abs angle.cosine) one.together

  pub along_most : nat_abs (rotated angle x y).along ≤ grown m
  unfolding rotated
  along_most = le_trans (add_bound (x · angle.cosine) (y · angle.sine) (by_cosine x h) (by_sine y k)) by_both

  pub across_most : nat_abs (rotated angle x y).across ≤ grown m
  unfolding rotated
  across_most = le_trans (sub_bound (y · angle.cosine) (x · angle.sine) (by_cosine y k) (by_sine x h)) by_both

-- what a call of `rotated` with two fields of a vector gave
module _ (angle : SineCosine) (x y : ℤ) (one : OneAngle angle) (h : nat_abs x ≤ vector_limit) (k : nat_abs y ≤ vector_limit)
    {pair : Pair} (e : pair ≡ rotated angle (to_z w64 (of_z w64 x)) (to_z w64 (of_z w64 y))) where
  rotated_is : pair ≡ rotated angle x y
  rotated_is = e ∙ (λ i. rotated angle ((field x h tt).same i) ((field y k tt).same i))

  pub gave_along : to_z w64 (of_z w64 pair.along) ≡ (rotated angle x y).along
  gave_along = (told (ap (λ (p : Pair). p.along) rotated_is) (along_most angle x y one h k) tt).same

  pub gave_across : to_z w64 (of_z w64 pair.across) ≡ (rotated angle x y).across
  gave_across = (told (ap (λ (p : Pair). p.across) rotated_is) (across_most angle x y one h k) tt).same

-- 01 has the sine first in z = Y sinε + Z cosε
pub equatorial_z : (ε : SineCosine) (vector : Vector) → (rotated ε vector.z vector.y).along ≡ (equatorial ε vector).z
unfolding rotated equatorial
equatorial_z ε vector = +ℤ_comm (vector.z · ε.cosine) (vector.y · ε.sine)
