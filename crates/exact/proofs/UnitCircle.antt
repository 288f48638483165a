-- The series of sine and cosine on a whole turn: odd and even, and within the unit circle but for 10⁻¹⁵.
use mathlib.Core.List.{[], ◌∷◌}
use mathlib.Core.Logic.{◌⊎◌, inl, inr}
use mathlib.Core.Path.{◌∙◌, ◌≡◌, ap, fun_ext, refl, subst, subst₂}
use mathlib.Core.Quot.{sound}
use Prim.Native.Nat.{◌^◌, suc, zero, ℕ}
use lib.IntN.{negsuc}
use Rattle.arithmetic.proofs.Solver.{◌:*◌, ◌:+◌, ◌:-◌, con, k0, k1, neg', x0, x1, x2}
use Rattle.exact.specs.Fraction.{NN, Within, ◌*q◌, ◌+q◌, ◌-q◌, ◌over◌, ◌≤q◌, inv, nat, negq, nn, whole, ℚ}
use Rattle.exact.specs.Reference.{sum}
use Rattle.exact.proofs.Addition.{cos_term, cosine_add, cos₄₀, exp_term, rest, sin_term, sine_add, sin₄₀}
use Rattle.exact.proofs.FractionLaws.{solveq}
use Rattle.exact.proofs.Order.{◌∗◌, ◌⊹◌, nn_int, nnby, total, within_le, within_neg}
use Rattle.exact.proofs.Series.{sum_scale}

-- what 40 terms leave of the addition theorem
abbrev pub ε : ℚ
ε = nat 1 over 10 ^ 15

-- a little more than half a turn, in radians, and two of them
abbrev pub wide : ℚ
wide = nat 315 over 100

abbrev pub wider : ℚ
wider = nat 63 over 10

pub wide_wide : wide +q wide ≤q wider
unfolding nn whole inv ◌+q◌ ◌*q◌ negq
wide_wide = record { diff = record { is = tt } }

rest_small : rest 40 wider +q rest 40 wider ≤q ε
unfolding nn whole ◌+q◌ ◌*q◌ negq inv sum exp_term
rest_small = record { diff = record { is = tt } }

pub ε_nn : NN ε
unfolding nn whole inv ◌*q◌
ε_nn = record { is = tt }

module _ {a h A H : ℚ} (ha : Within a A) (hh : Within h H) (l : A +q H ≤q wider) where
  pub sine_sum : Within (sin₄₀ (a +q h) -q (sin₄₀ a *q cos₄₀ h +q cos₄₀ a *q sin₄₀ h)) ε
  sine_sum = within_le (sine_add 40 ha hh l) rest_small

  pub cosine_sum : Within (cos₄₀ (a +q h) -q (cos₄₀ a *q cos₄₀ h -q sin₄₀ a *q sin₄₀ h)) ε
  cosine_sum = within_le (cosine_add 40 ha hh l) rest_small

-- ---- sine is odd and cosine is even
record Parity (a : ℚ) (n : ℕ) : Type 0 where
  odd : sin_term (negq a) n ≡ whole (negsuc 0) *q sin_term a n
  even : cos_term (negq a) n ≡ cos_term a n

parity : (a : ℚ) (n : ℕ) → Parity a n
unfolding sin_term
parity a zero = record { odd = solveq k0 (con (negsuc 0) :* k0) [] tt; even = refl }
parity a (suc n) = record {
  odd =
      ap (λ z. inv n *q (negq a *q z)) (parity a n).even
      ∙ solveq (x0 :* (neg' x1 :* x2)) (con (negsuc 0) :* (x0 :* (x1 :* x2))) (inv n ∷ a ∷ cos_term a n ∷ []) tt;
  even =
      ap (λ z. inv n *q negq (negq a *q z)) (parity a n).odd
      ∙ solveq (x0 :* neg' (neg' x1 :* (con (negsuc 0) :* x2))) (x0 :* neg' (x1 :* x2)) (inv n ∷ a ∷ sin_term a n ∷ []) tt;
}

pub sin_odd : (a : ℚ) → sin₄₀ (negq a) ≡ negq (sin₄₀ a)
sin_odd a =
    ap (λ s. sum s 40) (fun_ext λ i. (parity a i).odd)
    ∙ sum_scale (whole (negsuc 0)) (sin_term a) 40
    ∙ solveq (con (negsuc 0) :* x0) (neg' x0) (sin₄₀ a ∷ []) tt

pub cos_even : (a : ℚ) → cos₄₀ (negq a) ≡ cos₄₀ a
cos_even a = ap (λ s. sum s 40) (fun_ext λ i. (parity a i).even)

-- ---- sine² + cosine² = 1, nearly
cos_zero : cos₄₀ (nat 0) ≡ nat 1
unfolding whole inv ◌+q◌ ◌*q◌ negq sum sin_term
cos_zero = sound refl

circle : {v : ℚ} → Within v wide → Within (nat 1 -q (cos₄₀ v *q cos₄₀ v +q sin₄₀ v *q sin₄₀ v)) ε
circle {v} h =
    subst (λ z. Within z ε)
    (solveq (x0 :- (x1 :* x1 :- x2 :* neg' x2)) (x0 :- (x1 :* x1 :+ x2 :* x2)) (nat 1 ∷ cos₄₀ v ∷ sin₄₀ v ∷ []) tt)
    (subst₂ (λ x y. Within (nat 1 -q (cos₄₀ v *q x -q sin₄₀ v *q y)) ε) (cos_even v) (sin_odd v)
    (subst (λ z. Within (z -q (cos₄₀ v *q cos₄₀ (negq v) -q sin₄₀ v *q sin₄₀ (negq v))) ε) (ap cos₄₀ (solveq (x0 :- x0) k0 (v ∷ []) tt) ∙ cos_zero)
    (cosine_sum h (within_neg h) wide_wide)))

-- from squares to absolute values, for a bound of at least 1
below_one : (s b : ℚ) → NN (b -q nat 1) → NN (b *q b -q s *q s) → NN (b -q s)
below_one s b h l = go (total (b -q s))
  where
    go : NN (b -q s) ⊎ NN (negq (b -q s)) → NN (b -q s)
    go (inl k) = k
    go (inr k) =
        nnby (x1 :- x0) ((x1 :* x1 :- x0 :* x0) :+ neg' (x1 :- x0) :* (neg' (x1 :- x0) :+ (x1 :- k1) :+ (x1 :- k1) :+ k1)) (s ∷ b ∷ []) tt
        (l ⊹ k ∗ (k ⊹ h ⊹ h ⊹ nn_int 1))

within_square : {s b : ℚ} → NN (b -q nat 1) → NN (b *q b -q s *q s) → Within s b
within_square {s} {b} h l = record {
  lo =
      nnby (x1 :+ x0) (x1 :- neg' x0) (s ∷ b ∷ []) tt
      (below_one (negq s) b h (nnby (x1 :* x1 :- neg' x0 :* neg' x0) (x1 :* x1 :- x0 :* x0) (s ∷ b ∷ []) tt l));
  hi = below_one s b h l;
}

square_nn : (s : ℚ) → NN (s *q s)
square_nn s = go (total s)
  where
    go : NN s ⊎ NN (negq s) → NN (s *q s)
    go (inl k) = k ∗ k
    go (inr k) = nnby (x0 :* x0) (neg' x0 :* neg' x0) (s ∷ []) tt (k ∗ k)

-- no sine or cosine passes this
abbrev pub one+ : ℚ
one+ = nat 1 +q ε

pub one+_nn : NN one+
one+_nn = nn_int 1 ⊹ ε_nn

above_one : NN (one+ -q nat 1)
above_one = nnby ((k1 :+ x0) :- k1) x0 (ε ∷ []) tt ε_nn

-- one of two numbers whose squares add to at most 1 + ε
leg : (c s : ℚ) → NN (ε +q (nat 1 -q (c *q c +q s *q s))) → Within s one+
leg c s h =
    within_square above_one
    (nnby ((k1 :+ x2) :* (k1 :+ x2) :- x1 :* x1) ((x2 :+ (k1 :- (x0 :* x0 :+ x1 :* x1))) :+ x0 :* x0 :+ x2 :+ x2 :* x2) (c ∷ s ∷ ε ∷ []) tt
    (h ⊹ square_nn c ⊹ ε_nn ⊹ ε_nn ∗ ε_nn))

pub sin_le : {v : ℚ} → Within v wide → Within (sin₄₀ v) one+
sin_le {v} h = leg (cos₄₀ v) (sin₄₀ v) (circle h).lo

pub cos_le : {v : ℚ} → Within v wide → Within (cos₄₀ v) one+
cos_le {v} h =
    leg (sin₄₀ v) (cos₄₀ v)
    (nnby (x2 :+ (k1 :- (x1 :* x1 :+ x0 :* x0))) (x2 :+ (k1 :- (x0 :* x0 :+ x1 :* x1))) (cos₄₀ v ∷ sin₄₀ v ∷ ε ∷ []) tt (circle h).lo)
