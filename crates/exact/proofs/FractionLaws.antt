-- The fractions as a commutative ring, and the solver at ℚ.
use mathlib.Core.List.{List, [], ◌∷◌}
use mathlib.Core.Path.{◌∙◌, ◌≡◌, ap, refl}
use mathlib.Core.Quot.{Quot-set, mk, sound, ind}
use Prim.Native.Nat.{suc, ℕ}
use lib.Dec.{T}
use lib.IntN.{◌*ℤ◌, ◌+ℤ◌, ◌-ℤ◌, neg_ℤ, pos, ℤ}
use Rattle.arithmetic.specs.Ratio.{Ratio, den, times}
use Rattle.arithmetic.proofs.Integers.{solveℤ}
use Rattle.arithmetic.proofs.RatioLaws.{den_times}
use Rattle.arithmetic.proofs.Solver.{CRing, Expr, ◌:*◌, ◌:+◌, ◌:-◌, is_zero, k0, k1, lin, lin₂, neg', norm, solve, x0, x1, x2, x3, x4, x5, ⟦◌⟧}
use Rattle.exact.specs.Fraction.{◌*q◌, ◌+q◌, ◌-q◌, inv, nat, negq, whole, ℚ}

-- an equation on ℚ is proved at pairs
eq₁ : (f g : ℚ → ℚ) → ((x : Ratio) → f (mk x) ≡ g (mk x)) → (p : ℚ) → f p ≡ g p
eq₁ f g h p = ind {β = λ p. f p ≡ g p} (λ p. Quot-set (f p) (g p)) h p

eq₂ : (f g : ℚ → ℚ → ℚ) → ((x y : Ratio) → f (mk x) (mk y) ≡ g (mk x) (mk y)) → (p q : ℚ) → f p q ≡ g p q
eq₂ f g h p q = eq₁ (λ p. f p q) (λ p. g p q) (λ x. eq₁ (f (mk x)) (g (mk x)) (h x) q) p

eq₃ : (f g : ℚ → ℚ → ℚ → ℚ) → ((x y z : Ratio) → f (mk x) (mk y) (mk z) ≡ g (mk x) (mk y) (mk z)) → (p q r : ℚ) → f p q r ≡ g p q r
eq₃ f g h p q r = eq₁ (λ p. f p q r) (λ p. g p q r) (λ x. eq₂ (f (mk x)) (g (mk x)) (h x) q r) p

add_assoc_z : (a d b e c f de ef l r : ℤ) → de ≡ d *ℤ e → ef ≡ e *ℤ f → l ≡ de *ℤ f → r ≡ d *ℤ ef
    → ((a *ℤ e +ℤ b *ℤ d) *ℤ f +ℤ c *ℤ de) *ℤ r ≡ (a *ℤ ef +ℤ (b *ℤ f +ℤ c *ℤ e) *ℤ d) *ℤ l
add_assoc_z a d b e c f de ef l r h₁ h₂ h₃ h₄ = rw (h₃, h₄, h₁, h₂) (solveℤ
    (((x0 :* x3 :+ x2 :* x1) :* x5 :+ x4 :* (x1 :* x3)) :* (x1 :* (x3 :* x5)))
    ((x0 :* (x3 :* x5) :+ (x2 :* x5 :+ x4 :* x3) :* x1) :* (x1 :* x3 :* x5)) (a ∷ d ∷ b ∷ e ∷ c ∷ f ∷ []) tt)

pub +q_assoc : (p q r : ℚ) → (p +q q) +q r ≡ p +q (q +q r)
unfolding ◌+q◌
+q_assoc = eq₃ (λ p q r. (p +q q) +q r) (λ p q r. p +q (q +q r)) (λ x y z. sound
    (add_assoc_z x.num (den x) y.num (den y) z.num (den z) _ _ _ _
    (den_times x.den_1 y.den_1) (den_times y.den_1 z.den_1) (den_times (times x.den_1 y.den_1) z.den_1) (den_times x.den_1 (times y.den_1 z.den_1))))

add_comm_z : (a d b e l r : ℤ) → l ≡ d *ℤ e → r ≡ e *ℤ d → (a *ℤ e +ℤ b *ℤ d) *ℤ r ≡ (b *ℤ d +ℤ a *ℤ e) *ℤ l
add_comm_z a d b e l r h₁ h₂ = rw (h₁, h₂) (solveℤ ((x0 :* x3 :+ x2 :* x1) :* (x3 :* x1)) ((x2 :* x1 :+ x0 :* x3) :* (x1 :* x3)) (a ∷ d ∷ b ∷ e ∷ []) tt)

pub +q_comm : (p q : ℚ) → p +q q ≡ q +q p
unfolding ◌+q◌
+q_comm = eq₂ (λ p q. p +q q) (λ p q. q +q p) (λ x y. sound
    (add_comm_z x.num (den x) y.num (den y) _ _ (den_times x.den_1 y.den_1) (den_times y.den_1 x.den_1)))

add_zero_z : (a d l : ℤ) → l ≡ d *ℤ pos 1 → (a *ℤ pos 1 +ℤ pos 0 *ℤ d) *ℤ d ≡ a *ℤ l
add_zero_z a d l h = rw h (solveℤ ((x0 :* k1 :+ k0 :* x1) :* x1) (x0 :* (x1 :* k1)) (a ∷ d ∷ []) tt)

pub +q_zero : (p : ℚ) → p +q nat 0 ≡ p
unfolding ◌+q◌ whole
+q_zero = eq₁ (λ p. p +q nat 0) (λ p. p) (λ x. sound (add_zero_z x.num (den x) _ (den_times x.den_1 0)))

add_neg_z : (a d l : ℤ) → l ≡ d *ℤ d → (a *ℤ d +ℤ neg_ℤ a *ℤ d) *ℤ pos 1 ≡ pos 0 *ℤ l
add_neg_z a d l h = rw h (solveℤ ((x0 :* x1 :+ neg' x0 :* x1) :* k1) (k0 :* (x1 :* x1)) (a ∷ d ∷ []) tt)

pub +q_neg : (p : ℚ) → p +q negq p ≡ nat 0
unfolding ◌+q◌ whole negq
+q_neg = eq₁ (λ p. p +q negq p) (λ p. nat 0) (λ x. sound (add_neg_z x.num (den x) _ (den_times x.den_1 x.den_1)))

mul_assoc_z : (a d b e c f de ef l r : ℤ) → de ≡ d *ℤ e → ef ≡ e *ℤ f → l ≡ de *ℤ f → r ≡ d *ℤ ef
    → ((a *ℤ b) *ℤ c) *ℤ r ≡ (a *ℤ (b *ℤ c)) *ℤ l
mul_assoc_z a d b e c f de ef l r h₁ h₂ h₃ h₄ = rw (h₃, h₄, h₁, h₂) (solveℤ
    (((x0 :* x2) :* x4) :* (x1 :* (x3 :* x5))) ((x0 :* (x2 :* x4)) :* (x1 :* x3 :* x5)) (a ∷ d ∷ b ∷ e ∷ c ∷ f ∷ []) tt)

pub *q_assoc : (p q r : ℚ) → (p *q q) *q r ≡ p *q (q *q r)
unfolding ◌*q◌
*q_assoc = eq₃ (λ p q r. (p *q q) *q r) (λ p q r. p *q (q *q r)) (λ x y z. sound
    (mul_assoc_z x.num (den x) y.num (den y) z.num (den z) _ _ _ _
    (den_times x.den_1 y.den_1) (den_times y.den_1 z.den_1) (den_times (times x.den_1 y.den_1) z.den_1) (den_times x.den_1 (times y.den_1 z.den_1))))

mul_comm_z : (a d b e l r : ℤ) → l ≡ d *ℤ e → r ≡ e *ℤ d → (a *ℤ b) *ℤ r ≡ (b *ℤ a) *ℤ l
mul_comm_z a d b e l r h₁ h₂ = rw (h₁, h₂) (solveℤ ((x0 :* x2) :* (x3 :* x1)) ((x2 :* x0) :* (x1 :* x3)) (a ∷ d ∷ b ∷ e ∷ []) tt)

pub *q_comm : (p q : ℚ) → p *q q ≡ q *q p
unfolding ◌*q◌
*q_comm = eq₂ (λ p q. p *q q) (λ p q. q *q p) (λ x y. sound
    (mul_comm_z x.num (den x) y.num (den y) _ _ (den_times x.den_1 y.den_1) (den_times y.den_1 x.den_1)))

mul_one_z : (a d l : ℤ) → l ≡ d *ℤ pos 1 → (a *ℤ pos 1) *ℤ d ≡ a *ℤ l
mul_one_z a d l h = rw h (solveℤ ((x0 :* k1) :* x1) (x0 :* (x1 :* k1)) (a ∷ d ∷ []) tt)

pub *q_one : (p : ℚ) → p *q nat 1 ≡ p
unfolding ◌*q◌ whole
*q_one = eq₁ (λ p. p *q nat 1) (λ p. p) (λ x. sound (mul_one_z x.num (den x) _ (den_times x.den_1 0)))

distr_z : (a d b e c f ef df de l r : ℤ) → ef ≡ e *ℤ f → df ≡ d *ℤ f → de ≡ d *ℤ e → l ≡ d *ℤ ef → r ≡ de *ℤ df
    → (a *ℤ (b *ℤ f +ℤ c *ℤ e)) *ℤ r ≡ ((a *ℤ b) *ℤ df +ℤ (a *ℤ c) *ℤ de) *ℤ l
distr_z a d b e c f ef df de l r h₁ h₂ h₃ h₄ h₅ = rw (h₄, h₅, h₁, h₂, h₃) (solveℤ
    ((x0 :* (x2 :* x5 :+ x4 :* x3)) :* ((x1 :* x3) :* (x1 :* x5)))
    (((x0 :* x2) :* (x1 :* x5) :+ (x0 :* x4) :* (x1 :* x3)) :* (x1 :* (x3 :* x5))) (a ∷ d ∷ b ∷ e ∷ c ∷ f ∷ []) tt)

pub *q_distr : (p q r : ℚ) → p *q (q +q r) ≡ p *q q +q p *q r
unfolding ◌+q◌ ◌*q◌
*q_distr = eq₃ (λ p q r. p *q (q +q r)) (λ p q r. p *q q +q p *q r) (λ x y z. sound
    (distr_z x.num (den x) y.num (den y) z.num (den z) _ _ _ _ _
    (den_times y.den_1 z.den_1) (den_times x.den_1 z.den_1) (den_times x.den_1 y.den_1) (den_times x.den_1 (times y.den_1 z.den_1))
    (den_times (times x.den_1 y.den_1) (times x.den_1 z.den_1))))

pub whole_add : (a b : ℤ) → whole (a +ℤ b) ≡ whole a +q whole b
unfolding ◌+q◌ whole
whole_add a b = sound (solveℤ ((x0 :+ x1) :* k1) ((x0 :* k1 :+ x1 :* k1) :* k1) (a ∷ b ∷ []) tt)

pub whole_mul : (a b : ℤ) → whole (a *ℤ b) ≡ whole a *q whole b
unfolding ◌*q◌ whole
whole_mul a b = sound (solveℤ ((x0 :* x1) :* k1) ((x0 :* x1) :* k1) (a ∷ b ∷ []) tt)

pub whole_neg : (a : ℤ) → whole (neg_ℤ a) ≡ negq (whole a)
unfolding whole negq
whole_neg a = refl

pub whole_sub : (a b : ℤ) → whole (a -ℤ b) ≡ whole a -q whole b
whole_sub a b = whole_add a (neg_ℤ b) ∙ ap (λ (q : ℚ). whole a +q q) (whole_neg b)

abbrev pub ℚ_ring : CRing
ℚ_ring = record {
  C = ℚ;
  add = ◌+q◌;
  mul = ◌*q◌;
  neg = negq;
  ι = whole;
  add_assoc = +q_assoc;
  add_comm = +q_comm;
  add_zero = +q_zero;
  add_neg = +q_neg;
  mul_assoc = *q_assoc;
  mul_comm = *q_comm;
  mul_one = *q_one;
  mul_add = *q_distr;
  ι_add = whole_add;
  ι_mul = whole_mul;
}

pub solveq : (e f : Expr) (ρ : List ℚ) → T (is_zero (norm (e :- f))) → ⟦ ℚ_ring ⟧ e ρ ≡ ⟦ ℚ_ring ⟧ f ρ
solveq e f ρ t = solve ℚ_ring e f ρ t

pub linq : (e f c u v : Expr) (ρ : List ℚ) → T (is_zero (norm ((e :- f) :- c :* (u :- v)))) → ⟦ ℚ_ring ⟧ u ρ ≡ ⟦ ℚ_ring ⟧ v ρ → ⟦ ℚ_ring ⟧ e ρ ≡ ⟦ ℚ_ring ⟧ f ρ
linq e f c u v ρ t h = lin ℚ_ring e f c u v ρ t h

pub linq₂ : (e f c u v d w z : Expr) (ρ : List ℚ) → T (is_zero (norm ((e :- f) :- (c :* (u :- v) :+ d :* (w :- z))))) → ⟦ ℚ_ring ⟧ u ρ ≡ ⟦ ℚ_ring ⟧ v ρ → ⟦ ℚ_ring ⟧ w ρ ≡ ⟦ ℚ_ring ⟧ z ρ → ⟦ ℚ_ring ⟧ e ρ ≡ ⟦ ℚ_ring ⟧ f ρ
linq₂ e f c u v d w z ρ t h l = lin₂ ℚ_ring e f c u v d w z ρ t h l

-- (n + 1) / (n + 1) = 1
pub inv_mul : (n : ℕ) → whole (pos (suc n)) *q inv n ≡ nat 1
unfolding ◌*q◌ whole inv
inv_mul n = sound (go (pos (suc n)) _ (den_times 0 n))
  where
    go : (s l : ℤ) → l ≡ pos 1 *ℤ s → (s *ℤ pos 1) *ℤ pos 1 ≡ pos 1 *ℤ l
    go s l h = rw h (solveℤ ((x0 :* k1) :* k1) (k1 :* (k1 :* x0)) (s ∷ []) tt)
