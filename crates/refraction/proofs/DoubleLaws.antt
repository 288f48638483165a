-- Doubles within bounds: what is at most a whole number up to 2⁵³, or 1 or more, is so when it is rounded, since rounding keeps the order.
-- So a product is at most the product of two bounds, and a quotient by 1 or more at most the bound of what is divided.
-- A zero times what is finite is a zero.
use mathlib.Core.Bool.{Bool, ◌&&◌, ◌||◌, cond, false, true}
use mathlib.Core.Path.{◌≡◌, refl, subst, subst⁻¹, sym}
use Prim.Native.Nat.{◌*◌, ◌+◌, ◌<◌, ◌^◌, ◌≤◌, suc, zero, ℕ}
use native.Mathlib.Nat.{le_of_eq, le_of_lt, le_trans, lt_irrefl, mul_assoc, mul_comm, mul-le-mul, mul-le-mul_right, mul-mul-mul_comm, mul-pos, zero-mul}
use native.Mathlib.Omega.{arith}
use lib.Dec.{T, eqb, eqb→eq, lit<, ltb, ltb→lt}
use lib.IntN.{nat_abs, negsuc, pos, ℤ}
use lib.Ieee as Ieee
use lib.Ieee.{Float, binary64, down, fin, inf, nan, unlike, up}
use lib.Ieee.Back.{round_whole}
use lib.Ieee.Exact.{HasValue}
use lib.Ieee.Fits.{down_pos, round_is}
use lib.Ieee.Order.{round_mono}
use lib.Ieee.Positive.{above_of_le, first_pos, le→cross, through}
use lib.Ieee.Scale.{round_same}
use mir.Facts.{and_yes}
use borrow.Author.Tests.{ne_eqb}
use Rattle.refraction.specs.Air.{between_doubles}
use Rattle.refraction.specs.Double.{IsFinite, IsZero, ◌*d◌, ◌/d◌, double, nearest}

holds : {b : Bool} → b ≡ true → T b
holds e = subst⁻¹ T e tt

-- finite, and at most this in size
pub data AtMost : ℕ → Float → Type 0 where
  bounded : {most n : ℕ} {s : Bool} {d : ℤ} → n * up d ≤ most * down d → AtMost most (fin s n d)

-- finite, and 1 or more
pub data AtLeast1 : Float → Type 0 where
  from_one : {n : ℕ} {d : ℤ} → down d ≤ n * up d → AtLeast1 (fin false n d)

pub bounded_finite : {most : ℕ} {x : Float} → AtMost most x → IsFinite x
bounded_finite (bounded h) = tt

-- ---- a value compared with a whole number
less_or_level : (a b : ℕ) (p q r : Bool) → (T p → a < b) → (T q → a ≡ b) → T (p || (q && r)) → a ≤ b
less_or_level a b true q r l e t = le_of_lt (l tt)
less_or_level a b false true r l e t = le_of_eq (e tt)
less_or_level a b false false r l e t = absurd t

-- n·2ᵈ ≤ m·2ᵉ, which is a whole number
to_whole : (most n m : ℕ) (d e : ℤ) → m * up e * 1 ≡ most * down e → n * up d * down e ≤ m * up e * down d → n * up d ≤ most * down d
to_whole most n m d e v l = omega (arith, through (n * up d) (m * up e) most (down d) (down e) 1 (down_pos e) l (le_of_eq v))

-- a value above zero, at most a whole number
le_above : (most n : ℕ) (d : ℤ) (y : Float) → HasValue y false most 1 → T (Ieee.le (fin false n d) y) → n * up d ≤ most * down d
unfolding Ieee.le
le_above most n d nan v t = absurd v
le_above most n d (inf r) v t = absurd v
le_above most n d (fin true m e) v t = absurd (subst T v.0 tt)
le_above most n d (fin false m e) v t =
    let a = n * up d * down e in
    let b = m * up e * down d in
    to_whole most n m d e v.1 (less_or_level a b (ltb a b) (eqb a b) _ (ltb→lt a b) (eqb→eq a b) t)

-- a value below zero, at least a whole number of either sign
le_below : (most n : ℕ) (d : ℤ) (s : Bool) (y : Float) → HasValue y s most 1 → T (Ieee.le y (fin true n d)) → n * up d ≤ most * down d
unfolding Ieee.le
le_below most n d s nan v t = absurd v
le_below most n d s (inf r) v t = absurd v
le_below most n d s (fin r m e) v t = to_whole most n m d e v.1 (go r t)
  where
    a : ℕ
    a = n * up d * down e

    b : ℕ
    b = m * up e * down d

    go : (r : Bool) → T (Ieee.le (fin r m e) (fin true n d)) → a ≤ b
    go true t = less_or_level a b (ltb a b) (eqb b a) _ (ltb→lt a b) (λ t. sym (eqb→eq b a t)) t
    go false t = less_or_level a b false (eqb b a) _ (λ t. absurd t) (λ t. sym (eqb→eq b a t)) t

no_infinity : (most : ℕ) (s : Bool) (y : Float) → HasValue y s most 1 → (T (Ieee.le (inf false) y) → ⊥) × (T (Ieee.le y (inf true)) → ⊥)
unfolding Ieee.le
no_infinity most s nan v = absurd v
no_infinity most s (inf r) v = absurd v
no_infinity most s (fin r n d) v = (λ t. t, λ t. t)

-- what lies from a whole number to a larger one is at most the larger in size
between_most : (least most : ℕ) (s : Bool) (lo x hi : Float) → least ≤ most → HasValue lo s least 1 → HasValue hi false most 1
    → T (Ieee.le lo x) → T (Ieee.le x hi) → AtMost most x
unfolding Ieee.le
between_most least most s lo nan hi h v w l u = absurd u
between_most least most s lo (inf true) hi h v w l u = absurd ((no_infinity least s lo v).1 l)
between_most least most s lo (inf false) hi h v w l u = absurd ((no_infinity most false hi w).0 u)
between_most least most s lo (fin true n d) hi h v w l u = bounded (le_trans (le_below least n d s lo v l) (mul-le-mul_right (down d) h))
between_most least most s lo (fin false n d) hi h v w l u = bounded (le_above most n d hi w u)

valued : (z : ℤ) → nat_abs z ≤ 2 ^ 53 → (s : Bool) × (HasValue (double z) s (nat_abs z) 1)
unfolding Ieee.of_int
valued (pos n) h = (false, round_whole binary64 false n h)
valued (negsuc n) h = (true, round_whole binary64 true (suc n) h)

pub within_most : (lo : ℤ) (most : ℕ) (x : Float) → nat_abs lo ≤ most → most ≤ 2 ^ 53 → between_doubles (double lo) x (double (pos most)) ≡ true → AtMost most x
unfolding Ieee.of_int
within_most lo most x h fits w =
    let both = and_yes (Ieee.le (double lo) x) (Ieee.le x (double (pos most))) (holds w) in
    let low = valued lo (le_trans h fits) in
    between_most (nat_abs lo) most low.0 (double lo) x (double (pos most)) h low.1 (round_whole binary64 false most fits) both.0 both.1

-- ---- rounding within bounds
-- the size does not depend on the sign
odd_most : (most w q k l : ℕ) (s : Bool) (y : Float) → HasValue y false most 1 → T (Ieee.le (Ieee.odd w false q k l) y) → AtMost most (Ieee.odd w s q k l)
unfolding Ieee.odd
odd_most most w zero k l s y v u = bounded (le_above most _ _ y v u)
odd_most most w (suc q) k l s y v u = bounded (le_above most _ _ y v u)

abbrev written : Bool → ℕ → ℕ → Float
written s q k = Ieee.odd (suc (Ieee.prec binary64)) s q k (Ieee.low binary64)

units_most : (most : ℕ) (s : Bool) (q k : ℕ) (y : Float) → HasValue y false most 1 → T (Ieee.le (Ieee.units binary64 false q k) y)
    → AtMost most (Ieee.units binary64 s q k)
unfolding Ieee.units
units_most most s q k y v l = go (ltb (q * 2 ^ k) (2 ^ (Ieee.low binary64 + suc (Ieee.emax binary64)))) l
  where
    go : (c : Bool) → T (Ieee.le (cond c (written false q k) (inf false)) y) → AtMost most (cond c (written s q k) (inf s))
    go true l = odd_most most (suc (Ieee.prec binary64)) q k (Ieee.low binary64) s y v l
    go false l = absurd ((no_infinity most false y v).0 l)

pub rounds_most : (s : Bool) (most n d : ℕ) → most ≤ 2 ^ 53 → 0 < d → n ≤ most * d → AtMost most (Ieee.round binary64 s n d)
rounds_most s most n d fits h u =
    let high = rw (round_is binary64 false n d) at (round_mono binary64 n d most 1 h (lit< tt) (omega arith)) in
    rw (round_is binary64 s n d) (units_most most s _ _ (nearest most 1) (round_whole binary64 false most fits) high)

one_or_more : (most : ℕ) (x : Float) → AtMost most x → T (Ieee.le (nearest 1 1) x) → AtLeast1 x
unfolding Ieee.round
one_or_more most nan h l = elim h [ ]
one_or_more most (inf _) h l = elim h [ ]
one_or_more most (fin true n d) (bounded h) l = absurd (above_of_le (nearest 1 1) (fin true n d) tt l)
one_or_more most (fin false n d) (bounded h) l =
    from_one {n = n} {d = d} (omega (arith, le→cross (nearest 1 1) (fin false n d) tt (above_of_le (nearest 1 1) (fin false n d) tt l) l))

pub rounds_least : (most n d : ℕ) → most ≤ 2 ^ 53 → 0 < d → d ≤ n → n ≤ most * d → AtLeast1 (nearest n d)
rounds_least most n d fits h l u = one_or_more most (nearest n d) (rounds_most false most n d fits h u) (round_mono binary64 1 1 n d (lit< tt) h (omega arith))

-- ---- whole numbers, products and quotients
pub whole_most : (z : ℤ) (most : ℕ) → nat_abs z ≤ most → most ≤ 2 ^ 53 → AtMost most (double z)
unfolding Ieee.of_int
whole_most (pos n) most h fits = rounds_most false most n 1 fits (lit< tt) (omega arith)
whole_most (negsuc n) most h fits = rounds_most true most (suc n) 1 fits (lit< tt) (omega arith)

pub whole_least : (n : ℕ) → 0 < n → n ≤ 2 ^ 53 → AtLeast1 (double (pos n))
unfolding Ieee.of_int
whole_least n h fits = rounds_least n n 1 fits (lit< tt) h (omega arith)

pub product_most : {a b : ℕ} {x y : Float} → AtMost a x → AtMost b y → a * b ≤ 2 ^ 53 → AtMost (a * b) (x *d y)
unfolding Ieee.mul
product_most {a} {b} (bounded {n} {s} {d} h) (bounded {n = m} {s = r} {d = e} g) fits =
    rounds_most (unlike s r) (a * b) (n * up d * (m * up e)) (down d * down e) fits (mul-pos (down_pos d) (down_pos e))
    (rw (mul-mul-mul_comm a b (down d) (down e)) (mul-le-mul h g))

pub product_least : {a b : ℕ} {x y : Float} → AtMost a x → AtMost b y → a * b ≤ 2 ^ 53 → AtLeast1 x → AtLeast1 y → AtLeast1 (x *d y)
unfolding Ieee.mul
product_least {a} {b} (bounded h) (bounded g) fits (from_one {n} {d} l) (from_one {n = m} {d = e} k) =
    rounds_least (a * b) (n * up d * (m * up e)) (down d * down e) fits (mul-pos (down_pos d) (down_pos e)) (mul-le-mul l k)
    (rw (mul-mul-mul_comm a b (down d) (down e)) (mul-le-mul h g))

-- n/d ≤ most and 1 ≤ m/e
cross : (most n d m e : ℕ) → n ≤ most * d → e ≤ m → n * e ≤ most * (m * d)
cross most n d m e h l = rw (mul_comm m d, ← mul_assoc most d m) (mul-le-mul h l)

pub quotient_most : {most : ℕ} {y x : Float} → AtMost most y → most ≤ 2 ^ 53 → AtLeast1 x → AtMost most (y /d x)
unfolding Ieee.div
quotient_most {most} (bounded {n} {s} {d} h) fits (from_one {n = m} {d = e} l) =
    let above : 0 < m * up e = le_trans (down_pos e) l in
    rw (ne_eqb m 0 (λ z. lt_irrefl 0 (rw z at (first_pos m (up e) above))))
    (rounds_most (unlike s false) most (n * up d * down e) (m * up e * down d) fits (mul-pos above (down_pos d))
    (cross most (n * up d) (down d) (m * up e) (down e) h l))

-- ---- zero times what is finite, and over 1010
zero_rounds : (s : Bool) (d : ℕ) → 0 < d → IsZero (Ieee.round binary64 s 0 d)
unfolding Ieee.round Ieee.eq Ieee.of_int
zero_rounds s d h = rw (round_same binary64 s 0 d 0 1 h (lit< tt) (omega arith)) (go s)
  where
    go : (s : Bool) → IsZero (fin s 0 (pos 0))
    go true = refl
    go false = refl

no_digits : (s : Bool) (n : ℕ) (d : ℤ) → IsZero (fin s n d) → n * up d ≡ 0
unfolding Ieee.eq Ieee.of_int
no_digits s n d z = omega (arith, eqb→eq (n * up d * 1) (0 * down d) (and_yes (eqb (n * up d * 1) (0 * down d)) _ (holds z)).0)

pub zero_times : (x y : Float) → IsZero x → IsFinite y → IsZero (x *d y)
unfolding Ieee.mul Ieee.eq Ieee.of_int
zero_times nan y z t = absurd (holds z)
zero_times (inf s) y z t = absurd (holds z)
zero_times (fin s n d) nan z t = absurd t
zero_times (fin s n d) (inf r) z t = absurd t
zero_times (fin s n d) (fin r m e) z t =
    rw (no_digits s n d z, zero-mul (m * up e)) (zero_rounds (unlike s r) (down d * down e) (mul-pos (down_pos d) (down_pos e)))

pub zero_over : (x : Float) → IsZero x → IsZero (x /d double (pos 1010))
unfolding Ieee.div Ieee.eq Ieee.of_int
zero_over nan z = absurd (holds z)
zero_over (inf s) z = absurd (holds z)
zero_over (fin s n d) z = rw (no_digits s n d z) (zero_rounds (unlike s false) (1010 * down d) (omega (arith, down_pos d)))
