-- Equal ratios have equal sums, products, opposites, signs and floors.
use mathlib.Core.List.{[], ◌∷◌}
use mathlib.Core.Path.{◌∙◌, ◌≡◌, ap, refl, sym}
use Prim.Native.Nat.{◌*◌, ◌+◌, ◌<◌, suc, ℕ}
use native.Mathlib.Nat.{mul_comm, mul-lt-mul_of_pos_right, zero-lt-suc}
use native.Mathlib.Omega.{arith}
use lib.IntN.{◌*ℤ◌, ◌+ℤ◌, negsuc, neg_ℤ, pos, pos-ne-negsuc, ℤ}
use lib.Signed.{non_neg}
use Rattle.arithmetic.specs.Floor.{◌modulo◌, ⌊◌÷◌⌋}
use Rattle.arithmetic.specs.Ratio.{Ratio, ◌~◌, den, floor, opposite, not_negative, product, sum, times}
use Rattle.arithmetic.proofs.FloorLaws.{modulo_below, split, unique_floor}
use Rattle.arithmetic.proofs.Integers.{linℤ}
use Rattle.arithmetic.proofs.Solver.{◌:*◌, ◌:+◌, con, neg', x0, x1, x2, x3, x4, x5}

-- the denominator of a sum or a product
pub den_times : (a b : ℕ) → pos (suc (times a b)) ≡ pos (suc a) *ℤ pos (suc b)
den_times a b = ap pos (e a b)
  where
    e : (a b : ℕ) → suc (b + a * suc b) ≡ suc a * suc b
    e a b = omega arith

-- ---- the laws over ℤ: b / e ~ b' / e' on the right of a / d, and on the left
module _ (a d b e b' e' : ℤ) (h : b *ℤ e' ≡ b' *ℤ e) where
  sum_at_right : (a *ℤ e +ℤ b *ℤ d) *ℤ (d *ℤ e') ≡ (a *ℤ e' +ℤ b' *ℤ d) *ℤ (d *ℤ e)
  sum_at_right =
      linℤ ((x0 :* x3 :+ x2 :* x1) :* (x1 :* x5)) ((x0 :* x5 :+ x4 :* x1) :* (x1 :* x3)) (x1 :* x1) (x2 :* x5) (x4 :* x3)
      (a ∷ d ∷ b ∷ e ∷ b' ∷ e' ∷ []) tt h

  sum_at_left : (b *ℤ d +ℤ a *ℤ e) *ℤ (e' *ℤ d) ≡ (b' *ℤ d +ℤ a *ℤ e') *ℤ (e *ℤ d)
  sum_at_left =
      linℤ ((x2 :* x1 :+ x0 :* x3) :* (x5 :* x1)) ((x4 :* x1 :+ x0 :* x5) :* (x3 :* x1)) (x1 :* x1) (x2 :* x5) (x4 :* x3)
      (a ∷ d ∷ b ∷ e ∷ b' ∷ e' ∷ []) tt h

  product_at_right : (a *ℤ b) *ℤ (d *ℤ e') ≡ (a *ℤ b') *ℤ (d *ℤ e)
  product_at_right =
      linℤ ((x0 :* x2) :* (x1 :* x5)) ((x0 :* x4) :* (x1 :* x3)) (x0 :* x1) (x2 :* x5) (x4 :* x3) (a ∷ d ∷ b ∷ e ∷ b' ∷ e' ∷ []) tt h

  product_at_left : (b *ℤ a) *ℤ (e' *ℤ d) ≡ (b' *ℤ a) *ℤ (e *ℤ d)
  product_at_left =
      linℤ ((x2 :* x0) :* (x5 :* x1)) ((x4 :* x0) :* (x3 :* x1)) (x0 :* x1) (x2 :* x5) (x4 :* x3) (a ∷ d ∷ b ∷ e ∷ b' ∷ e' ∷ []) tt h

-- ---- at pairs
-- an equation whose two sides hold the denominators of two products
crossed : (n m : ℤ) (x y z w : Ratio) → n *ℤ (den z *ℤ den w) ≡ m *ℤ (den x *ℤ den y)
    → n *ℤ pos (suc (times z.den_1 w.den_1)) ≡ m *ℤ pos (suc (times x.den_1 y.den_1))
crossed n m x y z w h =
    ap (λ (d : ℤ). n *ℤ d) (den_times z.den_1 w.den_1) ∙ h ∙ ap (λ (d : ℤ). m *ℤ d) (sym (den_times x.den_1 y.den_1))

module _ (x y z : Ratio) (h : y ~ z) where
  pub sum_right : sum x y ~ sum x z
  sum_right = crossed (sum x y).num (sum x z).num x y x z (sum_at_right x.num (den x) y.num (den y) z.num (den z) h)

  pub product_right : product x y ~ product x z
  product_right = crossed (product x y).num (product x z).num x y x z (product_at_right x.num (den x) y.num (den y) z.num (den z) h)

module _ (x y z : Ratio) (h : x ~ y) where
  pub sum_left : sum x z ~ sum y z
  sum_left = crossed (sum x z).num (sum y z).num x z y z (sum_at_left z.num (den z) x.num (den x) y.num (den y) h)

  pub product_left : product x z ~ product y z
  product_left = crossed (product x z).num (product y z).num x z y z (product_at_left z.num (den z) x.num (den x) y.num (den y) h)

pub opposite_same : (x y : Ratio) → x ~ y → opposite x ~ opposite y
opposite_same x y h =
    linℤ (neg' x0 :* x3) (neg' x2 :* x1) (con (negsuc 0)) (x0 :* x3) (x2 :* x1) (x.num ∷ den x ∷ y.num ∷ den y ∷ []) tt h

-- ---- the sign
product_suc : (b d : ℕ) → suc b * suc d ≡ suc (b * d + b + d)
product_suc b d = omega arith

same_sign : (a : ℤ) (d : ℕ) (b : ℤ) (e : ℕ) → a *ℤ pos (suc e) ≡ b *ℤ pos (suc d) → non_neg a ≡ non_neg b
same_sign (pos a) d (pos b) e h = refl
same_sign (pos a) d (negsuc b) e h = absurd (pos-ne-negsuc (a * suc e) _ (h ∙ ap (λ (n : ℕ). neg_ℤ (pos n)) (product_suc b d)))
same_sign (negsuc a) d (pos b) e h = absurd (pos-ne-negsuc (b * suc d) _ (sym h ∙ ap (λ (n : ℕ). neg_ℤ (pos n)) (product_suc a e)))
same_sign (negsuc a) d (negsuc b) e h = refl

pub not_negative_same : (x y : Ratio) → x ~ y → not_negative x ≡ not_negative y
not_negative_same x y h = same_sign x.num x.den_1 y.num y.den_1 h

-- ---- the floor
-- both numbers times k
scaled_floor : (z : ℤ) {d k : ℕ} → 0 < d → 0 < k → ⌊ z *ℤ pos k ÷ d * k ⌋ ≡ ⌊ z ÷ d ⌋
scaled_floor z {d} {k} h l =
    unique_floor (z *ℤ pos k) ⌊ z ÷ d ⌋ (z modulo d * k) (mul-lt-mul_of_pos_right (modulo_below z h) l)
    (linℤ (x0 :* x1) (x2 :* x1 :* x3 :+ x4 :* x1) x1 x0 (x2 :* x3 :+ x4) (z ∷ pos k ∷ pos d ∷ ⌊ z ÷ d ⌋ ∷ pos (z modulo d) ∷ []) tt (split z h))

pub floor_same : (x y : Ratio) → x ~ y → floor x ≡ floor y
floor_same x y h =
    sym (scaled_floor x.num (zero-lt-suc x.den_1) (zero-lt-suc y.den_1))
    ∙ (λ i. ⌊ h i ÷ mul_comm (suc x.den_1) (suc y.den_1) i ⌋)
    ∙ scaled_floor y.num (zero-lt-suc y.den_1) (zero-lt-suc x.den_1)
