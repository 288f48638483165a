-- A reflective solver for identities in a commutative ring: `solve e f ρ tt` proves that two expressions over the variables ρ are equal
-- where their difference normalises to zero; `lin` and `lin₂` do so from one and from two known equations.
use mathlib.Core.Bool.{Bool, false, true}
use mathlib.Core.List.{List, [], ◌∷◌}
use mathlib.Core.Path.{◌∙◌, ◌≡◌, ap, ap₂, refl, sym}
use Prim.Native.Nat.{suc, zero, ℕ}
use lib.Dec.{T}
use lib.IntN.{◌*ℤ◌, ◌+ℤ◌, negsuc, pos, ℤ}

-- a commutative ring with the integers in it; its zero is ι 0 and its one is ι 1
pub record CRing : Type 1 where
  pub C : Type 0
  pub add : C → C → C
  pub mul : C → C → C
  pub neg : C → C
  pub ι : ℤ → C
  pub add_assoc : (a b c : C) → add (add a b) c ≡ add a (add b c)
  pub add_comm : (a b : C) → add a b ≡ add b a
  pub add_zero : (a : C) → add a (ι (pos 0)) ≡ a
  pub add_neg : (a : C) → add a (neg a) ≡ ι (pos 0)
  pub mul_assoc : (a b c : C) → mul (mul a b) c ≡ mul a (mul b c)
  pub mul_comm : (a b : C) → mul a b ≡ mul b a
  pub mul_one : (a : C) → mul a (ι (pos 1)) ≡ a
  pub mul_add : (a b c : C) → mul a (add b c) ≡ add (mul a b) (mul a c)
  pub ι_add : (a b : ℤ) → ι (a +ℤ b) ≡ add (ι a) (ι b)
  pub ι_mul : (a b : ℤ) → ι (a *ℤ b) ≡ mul (ι a) (ι b)

-- what a user writes
infixl 6 ◌:+◌ ◌:-◌
infixl 7 ◌:*◌
pub data Expr : Type 0 where
  var : ℕ → Expr
  con : ℤ → Expr
  ◌:+◌ : Expr → Expr → Expr
  ◌:*◌ : Expr → Expr → Expr
  ◌:-◌ : Expr → Expr → Expr
  neg' : Expr → Expr

-- a polynomial: a constant, or p + x q, with x the first variable, p over the others and q over all
pub data Poly : Type 0 where
  const : ℤ → Poly
  horner : Poly → Poly → Poly

abbrev isZ : ℤ → Bool
isZ (pos zero) = true
isZ (pos (suc n)) = false
isZ (negsuc n) = false

abbrev and : Bool → Bool → Bool
and true b = b
and false b = false

abbrev pub is_zero : Poly → Bool
is_zero (const a) = isZ a
is_zero (horner p q) = and (is_zero p) (is_zero q)

abbrev addC : ℤ → Poly → Poly
addC a (const b) = const (a +ℤ b)
addC a (horner p q) = horner (addC a p) q

abbrev addP : Poly → Poly → Poly
addP (const a) r = addC a r
addP (horner p q) (const b) = horner (addC b p) q
addP (horner p q) (horner r s) = horner (addP p r) (addP q s)

abbrev scale : ℤ → Poly → Poly
scale a (const b) = const (a *ℤ b)
scale a (horner p q) = horner (scale a p) (scale a q)

-- p over the other variables times r: f is the product with p
abbrev low : (Poly → Poly) → Poly → Poly → Poly
low f p (const b) = horner (scale b p) (const (pos 0))
low f p (horner r s) = horner (f r) (low f p s)

abbrev mulP : Poly → Poly → Poly
mulP (const a) r = scale a r
mulP (horner p q) r = addP (low (λ s. mulP p s) p r) (horner (const (pos 0)) (mulP q r))

abbrev varP : ℕ → Poly
varP zero = horner (const (pos 0)) (const (pos 1))
varP (suc n) = horner (varP n) (const (pos 0))

abbrev pub norm : Expr → Poly
norm (var n) = varP n
norm (con a) = const a
norm (e :+ f) = addP (norm e) (norm f)
norm (e :* f) = mulP (norm e) (norm f)
norm (e :- f) = addP (norm e) (scale (negsuc 0) (norm f))
norm (neg' e) = scale (negsuc 0) (norm e)

isZ_eq : (a : ℤ) → T (isZ a) → a ≡ pos 0
isZ_eq (pos zero) t = refl
isZ_eq (pos (suc n)) t = absurd t
isZ_eq (negsuc n) t = absurd t

and_l : (a b : Bool) → T (and a b) → T a
and_l true b t = tt
and_l false b t = t

and_r : (a b : Bool) → T (and a b) → T b
and_r true b t = t
and_r false b t = absurd t

module _ (R : CRing) where
  open R use {C, add as ◌⊕◌, mul as ◌⊗◌, neg, ι}

  infixl 6 ◌⊕◌
  infixl 7 ◌⊗◌
  abbrev head : List C → C
  head [] = ι (pos 0)
  head (x ∷ xs) = x

  abbrev tail : List C → List C
  tail [] = []
  tail (x ∷ xs) = xs

  abbrev look : ℕ → List C → C
  look zero ρ = head ρ
  look (suc n) ρ = look n (tail ρ)

  -- the value of an expression
  abbrev pub ⟦◌⟧ : Expr → List C → C
  ⟦◌⟧ (var n) ρ = look n ρ
  ⟦◌⟧ (con a) ρ = ι a
  ⟦◌⟧ (e :+ f) ρ = ⟦◌⟧ e ρ ⊕ ⟦◌⟧ f ρ
  ⟦◌⟧ (e :* f) ρ = ⟦◌⟧ e ρ ⊗ ⟦◌⟧ f ρ
  ⟦◌⟧ (e :- f) ρ = ⟦◌⟧ e ρ ⊕ neg (⟦◌⟧ f ρ)
  ⟦◌⟧ (neg' e) ρ = neg (⟦◌⟧ e ρ)

  abbrev ev : Poly → List C → C
  ev (const a) ρ = ι a
  ev (horner p q) ρ = ev p (tail ρ) ⊕ head ρ ⊗ ev q ρ

  zero_add : (a : C) → ι (pos 0) ⊕ a ≡ a
  zero_add a = R.add_comm (ι (pos 0)) a ∙ R.add_zero a

  left_comm : (a b c : C) → a ⊕ (b ⊕ c) ≡ b ⊕ (a ⊕ c)
  left_comm a b c = sym (R.add_assoc a b c) ∙ ap (λ x. x ⊕ c) (R.add_comm a b) ∙ R.add_assoc b a c

  mul_left_comm : (a b c : C) → a ⊗ (b ⊗ c) ≡ b ⊗ (a ⊗ c)
  mul_left_comm a b c = sym (R.mul_assoc a b c) ∙ ap (λ x. x ⊗ c) (R.mul_comm a b) ∙ R.mul_assoc b a c

  add_mul : (a b c : C) → (a ⊕ b) ⊗ c ≡ a ⊗ c ⊕ b ⊗ c
  add_mul a b c = R.mul_comm (a ⊕ b) c ∙ R.mul_add c a b ∙ ap₂ ◌⊕◌ (R.mul_comm c a) (R.mul_comm c b)

  cancel : (a b : C) → a ⊕ b ≡ a → b ≡ ι (pos 0)
  cancel a b e =
      sym (zero_add b) ∙ ap (λ x. x ⊕ b) (sym (R.add_neg a) ∙ R.add_comm a (neg a)) ∙ R.add_assoc (neg a) a b
      ∙ ap (λ x. neg a ⊕ x) e ∙ R.add_comm (neg a) a ∙ R.add_neg a

  mul_zero : (a : C) → a ⊗ ι (pos 0) ≡ ι (pos 0)
  mul_zero a = cancel (a ⊗ ι (pos 0)) (a ⊗ ι (pos 0)) (sym (R.mul_add a (ι (pos 0)) (ι (pos 0))) ∙ ap (λ x. a ⊗ x) (R.add_zero (ι (pos 0))))

  neg_unique : (a b : C) → a ⊕ b ≡ ι (pos 0) → b ≡ neg a
  neg_unique a b e =
      sym (zero_add b) ∙ ap (λ x. x ⊕ b) (sym (R.add_neg a) ∙ R.add_comm a (neg a)) ∙ R.add_assoc (neg a) a b
      ∙ ap (λ x. neg a ⊕ x) e ∙ R.add_zero (neg a)

  minus_one : (a : C) → ι (negsuc 0) ⊗ a ≡ neg a
  minus_one a = neg_unique a (ι (negsuc 0) ⊗ a)
      (ap (λ x. x ⊕ ι (negsuc 0) ⊗ a) (sym (R.mul_one a) ∙ R.mul_comm a (ι (pos 1))) ∙ sym (add_mul (ι (pos 1)) (ι (negsuc 0)) a)
      ∙ ap (λ x. x ⊗ a) (sym (R.ι_add (pos 1) (negsuc 0))) ∙ R.mul_comm (ι (pos 0)) a ∙ mul_zero a)

  ev_addC : (a : ℤ) (p : Poly) (ρ : List C) → ev (addC a p) ρ ≡ ι a ⊕ ev p ρ
  ev_addC a (const b) ρ = R.ι_add a b
  ev_addC a (horner p q) ρ = ap (λ x. x ⊕ head ρ ⊗ ev q ρ) (ev_addC a p (tail ρ)) ∙ R.add_assoc (ι a) (ev p (tail ρ)) (head ρ ⊗ ev q ρ)

  ev_addP : (p r : Poly) (ρ : List C) → ev (addP p r) ρ ≡ ev p ρ ⊕ ev r ρ
  ev_addP (const a) r ρ = ev_addC a r ρ
  ev_addP (horner p q) (const b) ρ = ev_addC b (horner p q) ρ ∙ R.add_comm (ι b) (ev (horner p q) ρ)
  ev_addP (horner p q) (horner r s) ρ =
      ap₂ (λ x y. x ⊕ head ρ ⊗ y) (ev_addP p r (tail ρ)) (ev_addP q s ρ)
      ∙ simp (R.mul_add, R.add_assoc, R.add_comm)

  ev_scale : (a : ℤ) (p : Poly) (ρ : List C) → ev (scale a p) ρ ≡ ι a ⊗ ev p ρ
  ev_scale a (const b) ρ = R.ι_mul a b
  ev_scale a (horner p q) ρ =
      ap₂ (λ x y. x ⊕ head ρ ⊗ y) (ev_scale a p (tail ρ)) (ev_scale a q ρ)
      ∙ ap (λ x. ι a ⊗ ev p (tail ρ) ⊕ x) (mul_left_comm (head ρ) (ι a) (ev q ρ)) ∙ sym (R.mul_add (ι a) (ev p (tail ρ)) (head ρ ⊗ ev q ρ))

  ev_low : (f : Poly → Poly) (p : Poly) → ((s : Poly) (ρ : List C) → ev (f s) ρ ≡ ev p ρ ⊗ ev s ρ) → (r : Poly) (ρ : List C) → ev (low f p r) ρ ≡ ev p (tail ρ) ⊗ ev r ρ
  ev_low f p h (const b) ρ =
      ap₂ ◌⊕◌ (ev_scale b p (tail ρ)) (mul_zero (head ρ)) ∙ R.add_zero (ι b ⊗ ev p (tail ρ)) ∙ R.mul_comm (ι b) (ev p (tail ρ))
  ev_low f p h (horner r s) ρ =
      ap₂ (λ x y. x ⊕ head ρ ⊗ y) (h r (tail ρ)) (ev_low f p h s ρ)
      ∙ ap (λ x. ev p (tail ρ) ⊗ ev r (tail ρ) ⊕ x) (mul_left_comm (head ρ) (ev p (tail ρ)) (ev s ρ))
      ∙ sym (R.mul_add (ev p (tail ρ)) (ev r (tail ρ)) (head ρ ⊗ ev s ρ))

  ev_mulP : (p r : Poly) (ρ : List C) → ev (mulP p r) ρ ≡ ev p ρ ⊗ ev r ρ
  ev_mulP (const a) r ρ = ev_scale a r ρ
  ev_mulP (horner p q) r ρ =
      ev_addP (low (λ s. mulP p s) p r) (horner (const (pos 0)) (mulP q r)) ρ
      ∙ ap₂ ◌⊕◌ (ev_low (λ s. mulP p s) p (λ s σ. ev_mulP p s σ) r ρ)
      (zero_add (head ρ ⊗ ev (mulP q r) ρ) ∙ ap (λ x. head ρ ⊗ x) (ev_mulP q r ρ) ∙ sym (R.mul_assoc (head ρ) (ev q ρ) (ev r ρ)))
      ∙ sym (add_mul (ev p (tail ρ)) (head ρ ⊗ ev q ρ) (ev r ρ))

  ev_var : (n : ℕ) (ρ : List C) → ev (varP n) ρ ≡ look n ρ
  ev_var zero ρ = zero_add (head ρ ⊗ ι (pos 1)) ∙ R.mul_one (head ρ)
  ev_var (suc n) ρ = ap₂ ◌⊕◌ (ev_var n (tail ρ)) (mul_zero (head ρ)) ∙ R.add_zero (look n (tail ρ))

  ev_norm : (e : Expr) (ρ : List C) → ev (norm e) ρ ≡ ⟦ e ⟧ ρ
  ev_norm (var n) ρ = ev_var n ρ
  ev_norm (con a) ρ = refl
  ev_norm (e :+ f) ρ = ev_addP (norm e) (norm f) ρ ∙ ap₂ ◌⊕◌ (ev_norm e ρ) (ev_norm f ρ)
  ev_norm (e :* f) ρ = ev_mulP (norm e) (norm f) ρ ∙ ap₂ ◌⊗◌ (ev_norm e ρ) (ev_norm f ρ)
  ev_norm (e :- f) ρ =
      ev_addP (norm e) (scale (negsuc 0) (norm f)) ρ
      ∙ ap₂ ◌⊕◌ (ev_norm e ρ) (ev_scale (negsuc 0) (norm f) ρ ∙ minus_one (ev (norm f) ρ) ∙ ap neg (ev_norm f ρ))
  ev_norm (neg' e) ρ = ev_scale (negsuc 0) (norm e) ρ ∙ minus_one (ev (norm e) ρ) ∙ ap neg (ev_norm e ρ)

  ev_isZero : (p : Poly) (ρ : List C) → T (is_zero p) → ev p ρ ≡ ι (pos 0)
  ev_isZero (const a) ρ t = ap ι (isZ_eq a t)
  ev_isZero (horner p q) ρ t =
      ap₂ (λ x y. x ⊕ head ρ ⊗ y) (ev_isZero p (tail ρ) (and_l (is_zero p) (is_zero q) t)) (ev_isZero q ρ (and_r (is_zero p) (is_zero q) t))
      ∙ zero_add (head ρ ⊗ ι (pos 0)) ∙ mul_zero (head ρ)

  sub_zero : (a b : C) → a ⊕ neg b ≡ ι (pos 0) → a ≡ b
  sub_zero a b h =
      sym (R.add_zero a) ∙ ap (λ x. a ⊕ x) (sym (R.add_neg b) ∙ R.add_comm b (neg b)) ∙ sym (R.add_assoc a (neg b) b)
      ∙ ap (λ x. x ⊕ b) h ∙ zero_add b

  -- the theorem: where the difference normalises to zero the two expressions are equal, at all values
  pub solve : (e f : Expr) (ρ : List C) → T (is_zero (norm (e :- f))) → ⟦ e ⟧ ρ ≡ ⟦ f ⟧ ρ
  solve e f ρ t = sub_zero (⟦ e ⟧ ρ) (⟦ f ⟧ ρ) (sym (ev_norm (e :- f) ρ) ∙ ev_isZero (norm (e :- f)) ρ t)

  -- the same from an equation u = v: e - f is c times u - v
  pub lin : (e f c u v : Expr) (ρ : List C) → T (is_zero (norm ((e :- f) :- c :* (u :- v)))) → ⟦ u ⟧ ρ ≡ ⟦ v ⟧ ρ → ⟦ e ⟧ ρ ≡ ⟦ f ⟧ ρ
  lin e f c u v ρ t h = sub_zero (⟦ e ⟧ ρ) (⟦ f ⟧ ρ)
      (solve (e :- f) (c :* (u :- v)) ρ t ∙ ap (λ x. ⟦ c ⟧ ρ ⊗ (x ⊕ neg (⟦ v ⟧ ρ))) h ∙ ap (λ x. ⟦ c ⟧ ρ ⊗ x) (R.add_neg (⟦ v ⟧ ρ)) ∙ mul_zero (⟦ c ⟧ ρ))

  -- and from two
  pub lin₂ : (e f c u v d w z : Expr) (ρ : List C) → T (is_zero (norm ((e :- f) :- (c :* (u :- v) :+ d :* (w :- z))))) → ⟦ u ⟧ ρ ≡ ⟦ v ⟧ ρ → ⟦ w ⟧ ρ ≡ ⟦ z ⟧ ρ → ⟦ e ⟧ ρ ≡ ⟦ f ⟧ ρ
  lin₂ e f c u v d w z ρ t h l = sub_zero (⟦ e ⟧ ρ) (⟦ f ⟧ ρ)
      (solve (e :- f) (c :* (u :- v) :+ d :* (w :- z)) ρ t
      ∙ ap₂ ◌⊕◌ (ap (λ x. ⟦ c ⟧ ρ ⊗ (x ⊕ neg (⟦ v ⟧ ρ))) h ∙ ap (λ x. ⟦ c ⟧ ρ ⊗ x) (R.add_neg (⟦ v ⟧ ρ)) ∙ mul_zero (⟦ c ⟧ ρ))
      (ap (λ x. ⟦ d ⟧ ρ ⊗ (x ⊕ neg (⟦ z ⟧ ρ))) l ∙ ap (λ x. ⟦ d ⟧ ρ ⊗ x) (R.add_neg (⟦ z ⟧ ρ)) ∙ mul_zero (⟦ d ⟧ ρ))
      ∙ zero_add (ι (pos 0)))

-- ---- short names for variables and constants
abbrev pub x0 : Expr
x0 = var 0

abbrev pub x1 : Expr
x1 = var 1

abbrev pub x2 : Expr
x2 = var 2

abbrev pub x3 : Expr
x3 = var 3

abbrev pub x4 : Expr
x4 = var 4

abbrev pub x5 : Expr
x5 = var 5

abbrev pub x6 : Expr
x6 = var 6

abbrev pub x7 : Expr
x7 = var 7

abbrev pub x8 : Expr
x8 = var 8

abbrev pub x9 : Expr
x9 = var 9

abbrev pub x10 : Expr
x10 = var 10

abbrev pub x11 : Expr
x11 = var 11

abbrev pub x12 : Expr
x12 = var 12

abbrev pub x13 : Expr
x13 = var 13

abbrev pub k0 : Expr
k0 = con (pos 0)

abbrev pub k1 : Expr
k1 = con (pos 1)

abbrev pub k2 : Expr
k2 = con (pos 2)
