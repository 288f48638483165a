-- How large a cross product is, and a separation: 2ab ≤ a² + b² bounds its coordinates by the squares of the two lengths, where bounds of single coordinates would be too weak
-- for three squares in 64 bits.
use mathlib.Core.Path.{◌∙◌, ◌≡◌}
use Prim.Native.Nat.{◌*◌, ◌+◌, ◌-◌, ◌/◌, ◌<◌, ◌^◌, ◌≤◌, ℕ}
use native.Mathlib.Decide.{dec_lt}
use native.Mathlib.Nat.{le_refl, le_trans}
use native.Mathlib.Omega.{arith}
use lib.IntN.{◌*ℤ◌, ◌+ℤ◌, nat_abs, pos, ℤ}
use lib.Signed.{mag}
use Rattle.arithmetic.proofs.Sizes.{add_bound, mul_bound, sub_bound}
use Rattle.number_rules.specs.Angle.{half_turn}
use Rattle.numbers.proofs.Machine.{Mirror, gave}
use Rattle.numbers.proofs.RootLaws.{root_most, under}
use Rattle.overlap.proofs.ShortWayLaws.{short_most}
use Rattle.sky_vectors.specs.Product.{◌·◌}
use Rattle.sky_vectors.specs.SkyRange.{SmallVector}
use Rattle.sky_vectors.specs.declared.vector.Vector.{Vector}
use Rattle.sky_vectors.proofs.RotationLaws.{product_most}
use Rattle.eclipse.specs.EclipseRange.{ShortVector, coordinate_limit, cross_limit, square_of, squared_limit}
use Rattle.eclipse.specs.Separation.{cross, dot, length, minor, separation}

-- ---- a short vector's coordinates are small
pub short_small : {vector : Vector} → ShortVector vector → SmallVector coordinate_limit vector
short_small {vector} short =
    let h = short.size in
    record { x_size = side vector.x (omega arith); y_size = side vector.y (omega arith); z_size = side vector.z (omega arith) }
  where
    side : (z : ℤ) → square_of z ≤ squared_limit → nat_abs z ≤ coordinate_limit
    side z h = under squared_limit (nat_abs z) coordinate_limit h (omega arith)

-- ---- what a call of `product` gave
abbrev pub product_gave : {r : ℤ} (x y : Mirror) → mag r < 2 ^ 63 → r ≡ x.machine · y.machine → Mirror
product_gave {r} x y ok e =
    gave {r = r} {v = x.number · y.number} {m = x.most * y.most / 1_000_000_000 + 1} ok (e ∙ (λ i. x.same i · y.same i))
    (product_most x.number y.number x.bound y.bound)

-- ---- the mean of two squares
mean : (a b : ℕ) → 2 * (a * b) ≤ a * a + b * b
mean a b = go (dec_lt a b)
  where
    at : (a d : ℕ) → 2 * (a * (a + d)) ≤ a * a + (a + d) * (a + d)
    at a d = omega arith

    go : Dec (a < b) → 2 * (a * b) ≤ a * a + b * b
    go (yes l) = let e : b ≡ a + (b - a) = omega arith in rw e (at a (b - a))
    go (no f) = let e : a ≡ b + (a - b) = omega arith in rw e (omega (arith, at b (a - b)))

minor_most : (s₁ s₂ m₁ m₂ : ℤ) → square_of s₁ + square_of s₂ ≤ squared_limit → square_of m₁ + square_of m₂ ≤ squared_limit
    → nat_abs (minor s₁ s₂ m₁ m₂) ≤ cross_limit
unfolding minor
minor_most s₁ s₂ m₁ m₂ h k =
    le_trans (sub_bound (s₁ · m₂) (s₂ · m₁) (product s₁ m₂) (product s₂ m₁))
    (floored (nat_abs s₁ * nat_abs m₂) (nat_abs s₂ * nat_abs m₁) (omega (arith, mean (nat_abs s₁) (nat_abs m₂), mean (nat_abs s₂) (nat_abs m₁))))
  where
    product : (p q : ℤ) → nat_abs (p · q) ≤ nat_abs p * nat_abs q / 1_000_000_000 + 1
    product p q = product_most p q (le_refl (nat_abs p)) (le_refl (nat_abs q))

    floored : (x y : ℕ) → x + y ≤ squared_limit → (x / 1_000_000_000 + 1) + (y / 1_000_000_000 + 1) ≤ cross_limit
    floored x y h = omega arith

-- ---- the cross product, and its length
pub cross_small : {s m : Vector} → ShortVector s → ShortVector m → SmallVector cross_limit (cross s m)
unfolding cross
cross_small {s} {m} of_s of_m =
    let h = of_s.size in
    let k = of_m.size in
    record {
      x_size = minor_most s.y s.z m.y m.z (omega arith) (omega arith);
      y_size = minor_most s.z s.x m.z m.x (omega arith) (omega arith);
      z_size = minor_most s.x s.y m.x m.y (omega arith) (omega arith);
    }

pub length_most : {vector : Vector} → SmallVector cross_limit vector → length vector ≤ 4_294_967_295
unfolding length
length_most {vector} small =
    root_most (nat_abs (vector.x *ℤ vector.x +ℤ vector.y *ℤ vector.y +ℤ vector.z *ℤ vector.z)) 4_294_967_295
    (omega (
      arith,
      add_bound (vector.x *ℤ vector.x +ℤ vector.y *ℤ vector.y) (vector.z *ℤ vector.z)
          (add_bound (vector.x *ℤ vector.x) (vector.y *ℤ vector.y) (own vector.x small.x_size) (own vector.y small.y_size))
          (own vector.z small.z_size),
    ))
  where
    own : (z : ℤ) → nat_abs z ≤ cross_limit → nat_abs (z *ℤ z) ≤ cross_limit * cross_limit
    own z h = mul_bound z z h h

pub separation_most : (s m : Vector) → separation s m ≤ half_turn
unfolding separation
separation_most s m = short_most (pos (length (cross s m))) (dot s m)
