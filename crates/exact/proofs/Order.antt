-- The order of the fractions. An inequality is proved by a certificate: a sum of products of things that are at least 0, which the solver finds
-- equal to the difference.
use mathlib.Core.Bool.{Bool, ◌&&◌, false, not, true}
use mathlib.Core.HLevel.{Π_prop}
use mathlib.Core.List.{List, [], ◌∷◌}
use mathlib.Core.Logic.{◌⊎◌, inl, inr}
use mathlib.Core.Path.{◌≡◌, refl, subst, sym}
use mathlib.Core.Quot.{mk, ind}
use Prim.Native.Nat.{suc, ℕ}
use lib.Dec.{T, T_prop}
use lib.IntN.{◌*ℤ◌, ◌+ℤ◌, negsuc, neg_ℤ, pos, ℤ}
use lib.Signed.{non_neg}
use mir.Facts.{and_yes}
use Rattle.arithmetic.specs.Ratio.{Ratio, den}
use Rattle.arithmetic.proofs.Solver.{Expr, ◌:*◌, ◌:+◌, ◌:-◌, is_zero, k0, neg', norm, x0, x1, x2, x3, ⟦◌⟧}
use Rattle.exact.specs.Fraction.{NN, Within, ◌*q◌, ◌+q◌, ◌-q◌, ◌≤q◌, inv, negq, nn, whole, ℚ}
use Rattle.exact.proofs.FractionLaws.{solveq, ℚ_ring}

-- ---- sums, products and whole numbers
add_nn : (a b : ℤ) (d e : ℕ) → T (non_neg a) → T (non_neg b) → T (non_neg (a *ℤ pos (suc e) +ℤ b *ℤ pos (suc d)))
add_nn (pos a) (pos b) d e s t = tt
add_nn (pos a) (negsuc b) d e s t = absurd t
add_nn (negsuc a) b d e s t = absurd s

mul_nn : (a b : ℤ) → T (non_neg a) → T (non_neg b) → T (non_neg (a *ℤ b))
mul_nn (pos a) (pos b) s t = tt
mul_nn (pos a) (negsuc b) s t = absurd t
mul_nn (negsuc a) b s t = absurd s

ind₂ : (P : ℚ → ℚ → Type 0) → ((p q : ℚ) → IsProp (P p q)) → ((x y : Ratio) → P (mk x) (mk y)) → (p q : ℚ) → P p q
ind₂ P c h p q = ind {β = λ p. P p q} (λ p. c p q) (λ x. ind {β = λ q. P (mk x) q} (λ q. c (mk x) q) (h x) q) p

nn_add' : (p q : ℚ) → T (nn p) → T (nn q) → T (nn (p +q q))
unfolding nn ◌+q◌
nn_add' = ind₂ (λ p q. T (nn p) → T (nn q) → T (nn (p +q q))) (λ p q. Π_prop λ _. Π_prop λ _. T_prop (nn (p +q q)))
    (λ x y s t. add_nn x.num y.num x.den_1 y.den_1 s t)

nn_mul' : (p q : ℚ) → T (nn p) → T (nn q) → T (nn (p *q q))
unfolding nn ◌*q◌
nn_mul' = ind₂ (λ p q. T (nn p) → T (nn q) → T (nn (p *q q))) (λ p q. Π_prop λ _. Π_prop λ _. T_prop (nn (p *q q)))
    (λ x y s t. mul_nn x.num y.num s t)

infixl 6 ◌⊹◌
infixl 7 ◌∗◌
pub ◌⊹◌ : {p q : ℚ} → NN p → NN q → NN (p +q q)
◌⊹◌ {p} {q} s t = record { is = nn_add' p q s.is t.is }

pub ◌∗◌ : {p q : ℚ} → NN p → NN q → NN (p *q q)
◌∗◌ {p} {q} s t = record { is = nn_mul' p q s.is t.is }

pub nn_int : (n : ℕ) → NN (whole (pos n))
unfolding nn whole
nn_int n = record { is = tt }

pub nn_inv : (n : ℕ) → NN (inv n)
unfolding nn inv
nn_inv n = record { is = tt }

not_nn : (a : ℤ) → T (not (non_neg a)) → T (non_neg (neg_ℤ a))
not_nn (pos a) t = absurd t
not_nn (negsuc a) t = tt

neg_nn : (p : ℚ) → T (not (nn p)) → T (nn (negq p))
unfolding nn negq
neg_nn p = ind {β = λ p. T (not (nn p)) → T (nn (negq p))} (λ p. Π_prop λ _. T_prop (nn (negq p))) (λ x t. not_nn x.num t) p

pub total : (p : ℚ) → NN p ⊎ NN (negq p)
total p = go (nn p) refl
  where
    go : (b : Bool) → nn p ≡ b → NN p ⊎ NN (negq p)
    go true e = inl (record { is = subst T (sym e) tt })
    go false e = inr (record { is = neg_nn p (subst (λ b. T (not b)) (sym e) tt) })

-- ---- certificates
-- e is at least 0 because d is, and the two are equal in every commutative ring
pub nnby : (e d : Expr) (ρ : List ℚ) → T (is_zero (norm (e :- d))) → NN (⟦ ℚ_ring ⟧ d ρ) → NN (⟦ ℚ_ring ⟧ e ρ)
nnby e d ρ t h = subst NN (sym (solveq e d ρ t)) h

pub halve : (p : ℚ) → NN (p +q p) → NN p
halve p h = go (total p)
  where
    go : NN p ⊎ NN (negq p) → NN p
    go (inl s) = s
    go (inr s) = nnby x0 (x0 :+ x0 :+ neg' x0) (p ∷ []) tt (h ⊹ s)

-- e ≤ f because f - e is d
pub leby : (e f d : Expr) (ρ : List ℚ) → T (is_zero (norm ((f :- e) :- d))) → NN (⟦ ℚ_ring ⟧ d ρ) → ⟦ ℚ_ring ⟧ e ρ ≤q ⟦ ℚ_ring ⟧ f ρ
leby e f d ρ t h = record { diff = nnby (f :- e) d ρ t h }

pub ≤q_refl : (p : ℚ) → p ≤q p
≤q_refl p = leby x0 x0 k0 (p ∷ []) tt (nn_int 0)

pub ≤q_trans : {p q r : ℚ} → p ≤q q → q ≤q r → p ≤q r
≤q_trans {p} {q} {r} h l = leby x0 x2 ((x1 :- x0) :+ (x2 :- x1)) (p ∷ q ∷ r ∷ []) tt (h.diff ⊹ l.diff)

pub ≤q_add : {p q r s : ℚ} → p ≤q q → r ≤q s → p +q r ≤q q +q s
≤q_add {p} {q} {r} {s} h l = leby (x0 :+ x2) (x1 :+ x3) ((x1 :- x0) :+ (x3 :- x2)) (p ∷ q ∷ r ∷ s ∷ []) tt (h.diff ⊹ l.diff)

-- 0 ≤ p ≤ q and 0 ≤ r ≤ s give p r ≤ q s
pub ≤q_mul : {p q r s : ℚ} → NN p → NN s → p ≤q q → r ≤q s → p *q r ≤q q *q s
≤q_mul {p} {q} {r} {s} np ns h l = leby (x0 :* x2) (x1 :* x3) ((x1 :- x0) :* x3 :+ x0 :* (x3 :- x2)) (p ∷ q ∷ r ∷ s ∷ []) tt (h.diff ∗ ns ⊹ np ∗ l.diff)

pub within_nn : {x b : ℚ} → Within x b → NN b
within_nn {x} {b} h = halve b (nnby (x1 :+ x1) ((x1 :+ x0) :+ (x1 :- x0)) (x ∷ b ∷ []) tt (h.lo ⊹ h.hi))

pub within_self : {x : ℚ} → NN x → Within x x
within_self {x} h = record { lo = h ⊹ h; hi = nnby (x0 :- x0) k0 (x ∷ []) tt (nn_int 0) }

pub within_add : {x b y c : ℚ} → Within x b → Within y c → Within (x +q y) (b +q c)
within_add {x} {b} {y} {c} h l = record {
  lo = nnby ((x1 :+ x3) :+ (x0 :+ x2)) ((x1 :+ x0) :+ (x3 :+ x2)) (x ∷ b ∷ y ∷ c ∷ []) tt (h.lo ⊹ l.lo);
  hi = nnby ((x1 :+ x3) :- (x0 :+ x2)) ((x1 :- x0) :+ (x3 :- x2)) (x ∷ b ∷ y ∷ c ∷ []) tt (h.hi ⊹ l.hi);
}

pub within_neg : {x b : ℚ} → Within x b → Within (negq x) b
within_neg {x} {b} h = record { lo = h.hi; hi = nnby (x1 :- neg' x0) (x1 :+ x0) (x ∷ b ∷ []) tt h.lo }

pub within_sub : {x b y c : ℚ} → Within x b → Within y c → Within (x -q y) (b +q c)
within_sub h l = within_add h (within_neg l)

-- |x y| ≤ b c: twice the difference is a sum of two products
pub within_mul : {x b y c : ℚ} → Within x b → Within y c → Within (x *q y) (b *q c)
within_mul {x} {b} {y} {c} h l = record {
  lo = halve _ (nnby ((x1 :* x3 :+ x0 :* x2) :+ (x1 :* x3 :+ x0 :* x2)) ((x1 :+ x0) :* (x3 :+ x2) :+ (x1 :- x0) :* (x3 :- x2)) (x ∷ b ∷ y ∷ c ∷ []) tt (h.lo ∗ l.lo ⊹ h.hi ∗ l.hi));
  hi = halve _ (nnby ((x1 :* x3 :- x0 :* x2) :+ (x1 :* x3 :- x0 :* x2)) ((x1 :- x0) :* (x3 :+ x2) :+ (x1 :+ x0) :* (x3 :- x2)) (x ∷ b ∷ y ∷ c ∷ []) tt (h.hi ∗ l.lo ⊹ h.lo ∗ l.hi));
}

pub within_le : {x b c : ℚ} → Within x b → b ≤q c → Within x c
within_le {x} {b} {c} h l = record {
  lo = nnby (x2 :+ x0) ((x1 :+ x0) :+ (x2 :- x1)) (x ∷ b ∷ c ∷ []) tt (h.lo ⊹ l.diff);
  hi = nnby (x2 :- x0) ((x1 :- x0) :+ (x2 :- x1)) (x ∷ b ∷ c ∷ []) tt (h.hi ⊹ l.diff);
}

-- |a b - c d| ≤ |a| |b - d| + |d| |a - c|
pub within_prod : (a b c d : ℚ) {A D u v : ℚ} → Within a A → Within d D → Within (b -q d) u → Within (a -q c) v → Within (a *q b -q c *q d) (A *q u +q D *q v)
within_prod a b c d {A} {D} {u} {v} ha hd hu hv =
    subst (λ z. Within z (A *q u +q D *q v)) (solveq (x0 :* (x1 :- x3) :+ x3 :* (x0 :- x2)) (x0 :* x1 :- x2 :* x3) (a ∷ b ∷ c ∷ d ∷ []) tt)
    (within_add (within_mul ha hu) (within_mul hd hv))

-- the test of a bound
pub within_test : (x b : ℚ) → T (nn (b +q x) && nn (b -q x)) → Within x b
within_test x b t =
    let u = and_yes (nn (b +q x)) (nn (b -q x)) t in record { lo = record { is = u.0 }; hi = record { is = u.1 } }

-- the order of two ratios, by cross-multiplying
pub cross : (x y : Ratio) → mk x ≤q mk y → T (non_neg (y.num *ℤ den x +ℤ neg_ℤ x.num *ℤ den y))
unfolding nn ◌+q◌ negq
cross x y h = h.diff.is

pub from_cross : (x y : Ratio) → T (non_neg (y.num *ℤ den x +ℤ neg_ℤ x.num *ℤ den y)) → mk x ≤q mk y
unfolding nn ◌+q◌ negq
from_cross x y t = record { diff = record { is = t } }
