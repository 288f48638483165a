-- How long a direction can be. A rotation in whole numbers keeps the sum of the squares but for two things: sin² + cos², which by |sin|, |cos| ≤ 10⁹ + 1 and |sin| + |cos| ≤ 1.423·10⁹ is
-- at most 1.179·10¹⁸, and the floors, which move each number by two units at most. From the unit vector to the one less the parallax the sum grows to 1.3581, 1.6013, 1.8881 and
-- 2.0521·10¹⁸.
use mathlib.Core.List.{[], ◌∷◌}
use mathlib.Core.Path.{◌∙◌, ◌≡◌, ap, ap₂, subst, sym}
use Prim.Native.Nat.{◌*◌, ◌+◌, ◌-◌, ◌<◌, ◌≤◌, ℕ}
use native.Mathlib.Decide.{dec_lt}
use native.Mathlib.Nat.{le_refl, le_trans, mul-le-mul, mul-le-mul_left, mul-le-mul_right}
use native.Mathlib.Omega.{arith}
use lib.Dec.{lit<, lit≤}
use lib.IntN.{◌*ℤ◌, ◌+ℤ◌, ◌-ℤ◌, nat_abs, pos, ℤ}
use Rattle.arithmetic.specs.Floor.{◌modulo◌, ⌊◌÷◌⌋}
use Rattle.arithmetic.proofs.Difference.{#◌, ◌⊞◌, ◌⊟ℤ◌, ◌⊠◌, by_eq, ⟨◌⟩}
use Rattle.arithmetic.proofs.FloorLaws.{modulo_below, split_nat}
use Rattle.arithmetic.proofs.Integers.{solveℤ}
use Rattle.arithmetic.proofs.Sizes.{abs_mul, add_bound, sub_bound}
use Rattle.arithmetic.proofs.Solver.{◌:*◌, ◌:+◌, ◌:-◌, x0, x1, x2, x3}
use Rattle.numbers.specs.SineCosine.{OneAngle}
use Rattle.numbers.specs.declared.sine.SineCosine.{SineCosine}
use Rattle.sky_vectors.specs.Observer.{shifted}
use Rattle.sky_vectors.specs.Product.{◌·◌}
use Rattle.sky_vectors.specs.Rotation.{rotated}
use Rattle.sky_vectors.specs.SkyRange.{SmallObserver, SmallVector, parallax_limit}
use Rattle.sky_vectors.specs.Vector.{equatorial, meridian, unit_vector}
use Rattle.sky_vectors.specs.declared.observer.Observer.{Observer}
use Rattle.sky_vectors.specs.declared.vector.Vector.{Vector}
use Rattle.sky_vectors.proofs.RotationLaws.{equatorial_z, product_most}
use Rattle.sky_vectors.proofs.SkyMirror.{square_is}
use Rattle.eclipse.specs.EclipseRange.{ShortVector, square_of, squared_length}

-- ---- sin² + cos²
abbrev circle : ℕ
circle = 1_179_000_000_000_000_000

together : (s c : ℕ) → s ≤ 1_000_000_001 → c ≤ 1_000_000_001 → s + c ≤ 1_423_000_000 → s * s + c * c ≤ circle
together s c h k l = go (dec_lt 422_999_999 c)
  where
    -- c is 422,999,999 + e, and s at most 1,000,000,001 - e
    above : (e s : ℕ) → e ≤ 577_000_002 → s ≤ 1_000_000_001 - e → s * s + (422_999_999 + e) * (422_999_999 + e) ≤ circle
    above e s i j =
        let t : ℕ = 1_000_000_001 - e in
        let sum : t + e ≡ 1_000_000_001 = omega arith in
        let wide : (t + e) * (t + e) ≡ 1_000_000_002_000_000_001 = rw sum (omega arith) in
        let cross : e * 422_999_999 ≤ e * t = mul-le-mul_left e (omega arith) in
        omega (arith, mul-le-mul j j)

    go : Dec (422_999_999 < c) → s * s + c * c ≤ circle
    go (yes m) = let e : c ≡ 422_999_999 + (c - 422_999_999) = omega arith in rw e (above (c - 422_999_999) s (omega arith) (omega arith))
    go (no f) = let m : c ≤ 422_999_999 = omega arith in omega (arith, mul-le-mul h h, mul-le-mul m m)

one_square : {t : SineCosine} → OneAngle t → square_of t.sine + square_of t.cosine ≤ circle
one_square {t} one = together (nat_abs t.sine) (nat_abs t.cosine) one.sine_size one.cosine_size one.together

-- ---- the identity of a rotation: (x c + y s)² + (y c - x s)² = (x² + y²)(s² + c²)
identity : (x y s c : ℤ)
    → (x *ℤ c +ℤ y *ℤ s) *ℤ (x *ℤ c +ℤ y *ℤ s) +ℤ (y *ℤ c -ℤ x *ℤ s) *ℤ (y *ℤ c -ℤ x *ℤ s) ≡ (x *ℤ x +ℤ y *ℤ y) *ℤ (s *ℤ s +ℤ c *ℤ c)
identity x y s c =
    solveℤ ((x0 :* x3 :+ x1 :* x2) :* (x0 :* x3 :+ x1 :* x2) :+ (x1 :* x3 :- x0 :* x2) :* (x1 :* x3 :- x0 :* x2))
    ((x0 :* x0 :+ x1 :* x1) :* (x2 :* x2 :+ x3 :* x3)) (x ∷ y ∷ s ∷ c ∷ []) tt

identity_sizes : (x y s c : ℤ) → square_of (x *ℤ c +ℤ y *ℤ s) + square_of (y *ℤ c -ℤ x *ℤ s) ≡ (square_of x + square_of y) * (square_of s + square_of c)
identity_sizes x y s c =
    ap nat_abs
    (sym (ap₂ ◌+ℤ◌ (square_is (x *ℤ c +ℤ y *ℤ s)) (square_is (y *ℤ c -ℤ x *ℤ s)))
    ∙ identity x y s c
    ∙ ap₂ ◌*ℤ◌ (ap₂ ◌+ℤ◌ (square_is x) (square_is y)) (ap₂ ◌+ℤ◌ (square_is s) (square_is c)))

-- ---- with floors: 10⁹ |⌊a / 10⁹⌋ ± ⌊b / 10⁹⌋| ≤ |a ± b| + 2·10⁹
abbrev unit : ℕ
unit = 1_000_000_000

near : (q a r : ℤ) (m : ℕ) → pos unit *ℤ q ≡ a -ℤ r → nat_abs r ≤ m → unit * nat_abs q ≤ nat_abs a + m
near q a r m e h = subst (λ (n : ℕ). n ≤ nat_abs a + m) (ap nat_abs (sym e) ∙ abs_mul (pos unit) q) (sub_bound a r (le_refl (nat_abs a)) h)

module _ (a b : ℤ) where
  left_most : (z : ℤ) → nat_abs (pos (z modulo unit)) ≤ unit
  left_most z = omega (arith, modulo_below z {d = unit} (lit< tt))

  sum_near : unit * nat_abs (⌊ a ÷ unit ⌋ +ℤ ⌊ b ÷ unit ⌋) ≤ nat_abs (a +ℤ b) + 2 * unit
  sum_near =
      near (⌊ a ÷ unit ⌋ +ℤ ⌊ b ÷ unit ⌋) (a +ℤ b) (pos (a modulo unit) +ℤ pos (b modulo unit)) (2 * unit)
      (by_eq (# unit ⊠ (⟨ ⌊ a ÷ unit ⌋ ⟩ ⊞ ⟨ ⌊ b ÷ unit ⌋ ⟩)) (⟨ a ⟩ ⊞ ⟨ b ⟩ ⊟ℤ (# (a modulo unit) ⊞ # (b modulo unit)))
      (omega (arith, split_nat a {d = unit} (lit< tt), split_nat b {d = unit} (lit< tt))))
      (add_bound (pos (a modulo unit)) (pos (b modulo unit)) (left_most a) (left_most b))

  difference_near : unit * nat_abs (⌊ a ÷ unit ⌋ -ℤ ⌊ b ÷ unit ⌋) ≤ nat_abs (a -ℤ b) + 2 * unit
  difference_near =
      near (⌊ a ÷ unit ⌋ -ℤ ⌊ b ÷ unit ⌋) (a -ℤ b) (pos (a modulo unit) -ℤ pos (b modulo unit)) (2 * unit)
      (by_eq (# unit ⊠ (⟨ ⌊ a ÷ unit ⌋ ⟩ ⊟ℤ ⟨ ⌊ b ÷ unit ⌋ ⟩)) (⟨ a ⟩ ⊟ℤ ⟨ b ⟩ ⊟ℤ (# (a modulo unit) ⊟ℤ # (b modulo unit)))
      (omega (arith, split_nat a {d = unit} (lit< tt), split_nat b {d = unit} (lit< tt))))
      (sub_bound (pos (a modulo unit)) (pos (b modulo unit)) (left_most a) (left_most b))

-- two squares, each number off by two units
squares : (p q a b : ℕ) → unit * p ≤ a + 2 * unit → unit * q ≤ b + 2 * unit
    → unit * unit * (p * p + q * q) ≤ (a * a + b * b) + 4 * unit * (a + b) + 8 * (unit * unit)
squares p q a b h k = omega (arith, mul-le-mul h h, mul-le-mul k k)

-- ---- the law of a rotation: n bounds the sum of the squares, m each number
module _ (angle : SineCosine) (x y : ℤ) {m n : ℕ} (hx : nat_abs x ≤ m) (hy : nat_abs y ≤ m) (hn : square_of x + square_of y ≤ n) (one : OneAngle angle) where
  abbrev s : ℤ
  s = angle.sine

  abbrev c : ℤ
  c = angle.cosine

  abbrev along : ℤ
  along = x *ℤ c +ℤ y *ℤ s

  abbrev across : ℤ
  across = y *ℤ c -ℤ x *ℤ s

  product : (u v : ℤ) → nat_abs u ≤ m → nat_abs (u *ℤ v) ≤ m * nat_abs v
  product u v h = rw abs_mul (mul-le-mul_right (nat_abs v) h)

  sizes : nat_abs along + nat_abs across ≤ 2 * (m * 1_423_000_000)
  sizes =
      omega
      (arith, add_bound (x *ℤ c) (y *ℤ s) (product x c hx) (product y s hy), sub_bound (y *ℤ c) (x *ℤ s) (product y c hy) (product x s hx), mul-le-mul_left m one.together)

  pub rotated_length : 1000 * (square_of (rotated angle x y).along + square_of (rotated angle x y).across) ≤ 1179 * n + 11384 * m + 8000
  unfolding rotated ◌·◌
  rotated_length =
      last (square_of (x · c +ℤ y · s) + square_of (y · c -ℤ x · s)) (square_of along + square_of across) (nat_abs along + nat_abs across)
      (squares (nat_abs (x · c +ℤ y · s)) (nat_abs (y · c -ℤ x · s)) (nat_abs along) (nat_abs across) (sum_near (x *ℤ c) (y *ℤ s)) (difference_near (y *ℤ c) (x *ℤ s)))
      (rw (identity_sizes x y s c) (mul-le-mul hn (one_square one)))
      sizes
    where
      last : (w e l : ℕ) → unit * unit * w ≤ e + 4 * unit * l + 8 * (unit * unit) → e ≤ n * circle → l ≤ 2 * (m * 1_423_000_000)
          → 1000 * w ≤ 1179 * n + 11384 * m + 8000
      last w e l h k j = omega arith

-- ---- the chain, from the unit vector to the one less the parallax: what bounds its squared length on the way
abbrev unit_limit : ℕ
unit_limit = 1_358_100_000_000_000_000

abbrev equatorial_limit : ℕ
equatorial_limit = 1_601_300_000_000_000_000

abbrev pub centre_limit : ℕ
centre_limit = 1_888_100_000_000_000_000

-- one product: 10⁹ |⌊a b / 10⁹⌋| ≤ |a| |b| + 10⁹
product_near : (a b : ℤ) → unit * nat_abs (a · b) ≤ nat_abs a * nat_abs b + unit
product_near a b = omega (arith, product_most a b (le_refl (nat_abs a)) (le_refl (nat_abs b)))

pub unit_length : {l t : SineCosine} → OneAngle l → OneAngle t → squared_length (unit_vector l t) ≤ unit_limit
unfolding unit_vector
unit_length {l} {t} by_l by_t =
    let T = nat_abs t.cosine in
    let a = nat_abs l.cosine in
    let b = nat_abs l.sine in
    last (square_of (t.cosine · l.cosine) + square_of (t.cosine · l.sine)) (T * T) (square_of t.sine) (T * a + T * b)
    (flat (nat_abs (t.cosine · l.cosine)) (nat_abs (t.cosine · l.sine)) T a b (product_near t.cosine l.cosine) (product_near t.cosine l.sine) (one_square by_l))
    (one_square by_t)
    (mul-le-mul by_t.cosine_size by_t.cosine_size)
    (omega (arith, mul-le-mul by_t.cosine_size by_l.together))
  where
    flat : (x y T a b : ℕ) → unit * x ≤ T * a + unit → unit * y ≤ T * b + unit → b * b + a * a ≤ circle
        → unit * unit * (x * x + y * y) ≤ T * T * circle + 2 * unit * (T * a + T * b) + 2 * (unit * unit)
    flat x y T a b h k one =
        omega (arith, squared (unit * x) (unit * y) (T * a) (T * b) (T * T * (b * b + a * a)) h k (omega arith) (mul-le-mul_left (T * T) one))
      where
        squared : (x' y' p q r : ℕ) → x' ≤ p + unit → y' ≤ q + unit → p * p + q * q ≡ r → r ≤ T * T * circle
            → x' * x' + y' * y' ≤ T * T * circle + 2 * unit * (p + q) + 2 * (unit * unit)
        squared x' y' p q r h k e l = omega (arith, mul-le-mul h h, mul-le-mul k k)

    last : (w T Z l : ℕ) → unit * unit * w ≤ T * circle + 2 * unit * l + 2 * (unit * unit) → Z + T ≤ circle
        → T ≤ 1_000_000_002_000_000_001 → l ≤ 1_423_000_001_423_000_000 → w + Z ≤ unit_limit
    last w T Z l h k i j = omega arith

pub equatorial_length : {ε : SineCosine} {v : Vector} → OneAngle ε → SmallVector 1_001_000_000 v → squared_length v ≤ unit_limit
    → squared_length (equatorial ε v) ≤ equatorial_limit
unfolding equatorial rotated
equatorial_length {ε} {v} one small h =
    let r = rotated_length ε v.z v.y {n = square_of v.z + square_of v.y} small.z_size small.y_size (le_refl (square_of v.z + square_of v.y)) one in
    rw (sym (equatorial_z ε v)) (omega arith)

pub meridian_length : {θ : SineCosine} {v : Vector} → OneAngle θ → SmallVector 1_425_000_000 v → squared_length v ≤ equatorial_limit
    → squared_length (meridian θ v) ≤ centre_limit
unfolding meridian rotated
meridian_length {θ} {v} one small h =
    let r = rotated_length θ v.x v.y {n = square_of v.x + square_of v.y} small.x_size small.y_size (le_refl (square_of v.x + square_of v.y)) one in
    omega arith

-- a number less a small one
less_small : (a b : ℤ) → nat_abs a ≤ 2_028_000_000 → nat_abs b ≤ 20_040_001 → square_of (a -ℤ b) ≤ square_of a + 82_000_000_000_000_000
less_small a b h k =
    grown (nat_abs a) (nat_abs (a -ℤ b)) h (sub_bound a b (le_refl (nat_abs a)) k)
  where
    grown : (x y : ℕ) → x ≤ 2_028_000_000 → y ≤ x + 20_040_001 → y * y ≤ x * x + 82_000_000_000_000_000
    grown x y h k = omega (arith, mul-le-mul k k)

pub shifted_short : {observer : Observer} {v : Vector} (p : ℤ) → nat_abs p ≤ parallax_limit → SmallObserver observer → SmallVector 2_028_000_000 v
    → squared_length v ≤ centre_limit → ShortVector (shifted p observer v)
unfolding shifted
shifted_short {observer} {v} p h near small l =
    let x = less_small v.x (p · observer.f) small.x_size (le_trans (product_most p observer.f h near.f_size) (lit≤ tt)) in
    let z = less_small v.z (p · observer.g) small.z_size (le_trans (product_most p observer.g h near.g_size) (lit≤ tt)) in
    record { size = omega arith }
