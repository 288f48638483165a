-- The truncated series of sine and cosine, and their addition theorem with its error.
use mathlib.Core.List.{[], ◌∷◌}
use mathlib.Core.Path.{◌∙◌, ◌≡◌, ap, ap₂, fun_ext, subst, sym}
use Prim.Native.Nat.{◌+◌, ◌≤◌, suc, zero, ℕ}
use native.Mathlib.Nat.{le_refl}
use native.Mathlib.Omega.{arith}
use lib.IntN.{negsuc, pos}
use Rattle.arithmetic.proofs.Solver.{◌:*◌, ◌:+◌, ◌:-◌, con, k0, k1, neg', x0, x1, x2, x3, x4, x5}
use Rattle.exact.specs.Fraction.{NN, Within, ◌*q◌, ◌+q◌, ◌-q◌, ◌≤q◌, inv, nat, negq, whole, ℚ}
use Rattle.exact.specs.Reference.{sum}
use Rattle.exact.proofs.FractionLaws.{inv_mul, linq, solveq}
use Rattle.exact.proofs.Order.{◌∗◌, ◌⊹◌, leby, nn_int, nn_inv, nnby, within_add, within_le, within_mul, within_neg, within_nn, within_self, within_sub}
use Rattle.exact.proofs.Series.{Bounds, Sequence, beyond, beyond_within, conv, conv_scale_l, conv_scale_r, derivative, leibniz, square_le, sum_add, sum_scale, tail_within}

-- aⁿ / n!
unfoldable pub exp_term : ℚ → Sequence
exp_term a zero = nat 1
exp_term a (suc n) = inv n *q (a *q exp_term a n)

-- the terms of sine and of cosine: 0, a, 0, -a³/6, .. and 1, 0, -a²/2, ..
unfoldable mutual
  pub sin_term : ℚ → Sequence
  sin_term a zero = nat 0
  sin_term a (suc n) = inv n *q (a *q cos_term a n)

  pub cos_term : ℚ → Sequence
  cos_term a zero = nat 1
  cos_term a (suc n) = inv n *q negq (a *q sin_term a n)

-- (n + 1) times what was divided by n + 1
undo : (n : ℕ) (z : ℚ) → whole (pos (suc n)) *q (inv n *q z) ≡ z
undo n z = linq (x0 :* (x1 :* x2)) x2 x2 (x0 :* x1) k1 (whole (pos (suc n)) ∷ inv n ∷ z ∷ []) tt (inv_mul n)

-- and back: what is known after multiplying by n + 1
redo : (n : ℕ) (y z : ℚ) → whole (pos (suc n)) *q y ≡ z → y ≡ inv n *q z
redo n y z h = linq x2 (x1 :* (x0 :* x2)) (neg' x2) (x0 :* x1) k1 (whole (pos (suc n)) ∷ inv n ∷ y ∷ []) tt (inv_mul n) ∙ ap (λ w. inv n *q w) h

derivative_exp : (a : ℚ) → derivative (exp_term a) ≡ (λ n. a *q exp_term a n)
unfolding exp_term
derivative_exp a = fun_ext λ n. undo n (a *q exp_term a n)

derivative_sin : (a : ℚ) → derivative (sin_term a) ≡ (λ n. a *q cos_term a n)
unfolding sin_term
derivative_sin a = fun_ext λ n. undo n (a *q cos_term a n)

derivative_cos : (a : ℚ) → derivative (cos_term a) ≡ (λ n. negq a *q sin_term a n)
unfolding sin_term
derivative_cos a = fun_ext λ n. undo n (negq (a *q sin_term a n)) ∙ solveq (neg' (x0 :* x1)) (neg' x0 :* x1) (a ∷ sin_term a n ∷ []) tt

-- (a + h)ⁿ / n! is the Cauchy product
pub exp_conv : (a h : ℚ) (n : ℕ) → conv (exp_term a) (exp_term h) n ≡ exp_term (a +q h) n
unfolding exp_term conv
exp_conv a h zero = solveq (k1 :* k1) k1 [] tt
exp_conv a h (suc n) = redo n (conv (exp_term a) (exp_term h) (suc n)) ((a +q h) *q exp_term (a +q h) n)
    (leibniz (exp_term a) (exp_term h) n
    ∙ ap₂ ◌+q◌ (ap (λ s. conv s (exp_term h) n) (derivative_exp a) ∙ conv_scale_l a (exp_term a) (exp_term h) n) (ap (λ s. conv (exp_term a) s n) (derivative_exp h) ∙ conv_scale_r h (exp_term a) (exp_term h) n)
    ∙ solveq (x0 :* x2 :+ x1 :* x2) ((x0 :+ x1) :* x2) (a ∷ h ∷ conv (exp_term a) (exp_term h) n ∷ []) tt
    ∙ ap (λ z. (a +q h) *q z) (exp_conv a h n))

dconv : (f g f' g' : Sequence) (p q : ℚ) → derivative f ≡ (λ n. p *q f' n) → derivative g ≡ (λ n. q *q g' n) → (n : ℕ) → derivative (conv f g) n ≡ p *q conv f' g n +q q *q conv f g' n
dconv f g f' g' p q hf hg n =
    leibniz f g n
    ∙ ap₂ ◌+q◌ (ap (λ s. conv s g n) hf ∙ conv_scale_l p f' g n) (ap (λ s. conv f s n) hg ∙ conv_scale_r q f g' n)

-- the addition theorem for the terms, with no error
pub record Add (a h : ℚ) (n : ℕ) : Type 0 where
  pub sine : conv (sin_term a) (cos_term h) n +q conv (cos_term a) (sin_term h) n ≡ sin_term (a +q h) n
  pub cosine : conv (cos_term a) (cos_term h) n -q conv (sin_term a) (sin_term h) n ≡ cos_term (a +q h) n

pub add : (a h : ℚ) (n : ℕ) → Add a h n
unfolding sin_term conv
add a h zero = record { sine = solveq (k0 :* k1 :+ k1 :* k0) k0 [] tt; cosine = solveq (k1 :* k1 :- k0 :* k0) k1 [] tt }
add a h (suc n) = record {
  sine = redo n (conv (sin_term a) (cos_term h) (suc n) +q conv (cos_term a) (sin_term h) (suc n)) ((a +q h) *q cos_term (a +q h) n)
      (solveq (x0 :* (x1 :+ x2)) (x0 :* x1 :+ x0 :* x2) (whole (pos (suc n)) ∷ conv (sin_term a) (cos_term h) (suc n) ∷ conv (cos_term a) (sin_term h) (suc n) ∷ []) tt
      ∙ ap₂ ◌+q◌ (dconv (sin_term a) (cos_term h) (cos_term a) (sin_term h) a (negq h) (derivative_sin a) (derivative_cos h) n) (dconv (cos_term a) (sin_term h) (sin_term a) (cos_term h) (negq a) h (derivative_cos a) (derivative_sin h) n)
      ∙ solveq (x0 :* x2 :+ neg' x1 :* x3 :+ (neg' x0 :* x3 :+ x1 :* x2)) ((x0 :+ x1) :* (x2 :- x3)) (a ∷ h ∷ conv (cos_term a) (cos_term h) n ∷ conv (sin_term a) (sin_term h) n ∷ []) tt
      ∙ ap (λ z. (a +q h) *q z) (add a h n).cosine);
  cosine = redo n (conv (cos_term a) (cos_term h) (suc n) -q conv (sin_term a) (sin_term h) (suc n)) (negq ((a +q h) *q sin_term (a +q h) n))
      (solveq (x0 :* (x1 :- x2)) (x0 :* x1 :- x0 :* x2) (whole (pos (suc n)) ∷ conv (cos_term a) (cos_term h) (suc n) ∷ conv (sin_term a) (sin_term h) (suc n) ∷ []) tt
      ∙ ap₂ ◌-q◌ (dconv (cos_term a) (cos_term h) (sin_term a) (sin_term h) (negq a) (negq h) (derivative_cos a) (derivative_cos h) n) (dconv (sin_term a) (sin_term h) (cos_term a) (cos_term h) a h (derivative_sin a) (derivative_sin h) n)
      ∙ solveq (neg' x0 :* x2 :+ neg' x1 :* x3 :- (x0 :* x3 :+ x1 :* x2)) (neg' ((x0 :+ x1) :* (x2 :+ x3))) (a ∷ h ∷ conv (sin_term a) (cos_term h) n ∷ conv (cos_term a) (sin_term h) n ∷ []) tt
      ∙ ap (λ z. negq ((a +q h) *q z)) (add a h n).sine);
}

-- ---- the truncated series
abbrev pub sin_sum : ℕ → ℚ → ℚ
sin_sum n a = sum (sin_term a) n

abbrev pub cos_sum : ℕ → ℚ → ℚ
cos_sum n a = sum (cos_term a) n

abbrev pub exp_sum : ℕ → ℚ → ℚ
exp_sum n a = sum (exp_term a) n

-- the first 40 terms, of which 20 are not zero
abbrev pub sin₄₀ : ℚ → ℚ
sin₄₀ a = sin_sum 40 a

abbrev pub cos₄₀ : ℚ → ℚ
cos₄₀ a = cos_sum 40 a

abbrev pub exp₄₀ : ℚ → ℚ
exp₄₀ a = exp_sum 40 a

pub exp_within : {a A : ℚ} → Within a A → Bounds (exp_term a) (exp_term A)
unfolding exp_term
exp_within h zero = within_self (nn_int 1)
exp_within h (suc n) = within_mul (within_self (nn_inv n)) (within_mul h (exp_within h n))

record Both (a A : ℚ) (n : ℕ) : Type 0 where
  s : Within (sin_term a n) (exp_term A n)
  c : Within (cos_term a n) (exp_term A n)

both : {a A : ℚ} → Within a A → (n : ℕ) → Both a A n
unfolding exp_term sin_term
both h zero = record { s = record { lo = nnby (k1 :+ k0) k1 [] tt (nn_int 1); hi = nnby (k1 :- k0) k1 [] tt (nn_int 1) }; c = within_self (nn_int 1) }
both h (suc n) = record {
  s = within_mul (within_self (nn_inv n)) (within_mul h (both h n).c);
  c = within_mul (within_self (nn_inv n)) (within_neg (within_mul h (both h n).s));
}

pub sin_within : {a A : ℚ} → Within a A → Bounds (sin_term a) (exp_term A)
sin_within h n = (both h n).s

pub cos_within : {a A : ℚ} → Within a A → Bounds (cos_term a) (exp_term A)
cos_within h n = (both h n).c

pub exp_nn : {A : ℚ} → NN A → (n : ℕ) → NN (exp_term A n)
unfolding exp_term
exp_nn h zero = nn_int 1
exp_nn h (suc n) = nn_inv n ∗ (h ∗ exp_nn h n)

-- the terms from n to 2n - 1 of the exponential series bound the error
pub beyond_exp : {A H M : ℚ} (n : ℕ) → NN A → NN H → A +q H ≤q M → beyond (exp_term A) (exp_term H) n n ≤q exp_sum (n + n) M -q exp_sum n M
beyond_exp {A} {H} {M} n hA hH l =
    leby (x0 :* x1 :- x2) (x4 :- x5) ((x3 :- x0 :* x1) :+ ((x4 :- x5) :- (x3 :- x2)))
    (sum (exp_term A) n ∷ sum (exp_term H) n ∷ sum (conv (exp_term A) (exp_term H)) n ∷ sum (conv (exp_term A) (exp_term H)) (n + n) ∷ exp_sum (n + n) M ∷ exp_sum n M ∷ []) tt
    (square_le (exp_term H) (exp_nn hH) n (exp_term A) (exp_nn hA) n
    ⊹ subst (λ s. NN ((exp_sum (n + n) M -q exp_sum n M) -q (sum s (n + n) -q sum s n))) (sym (fun_ext (exp_conv A H)))
    (tail_within (exp_term (A +q H)) (exp_term M) (exp_within below) (le n)).hi)
  where
    le : (n : ℕ) → n ≤ n + n
    le n = omega arith

    below : Within (A +q H) M
    below = record { lo = nnby (x1 :+ x0) ((x1 :- x0) :+ x0 :+ x0) ((A +q H) ∷ M ∷ []) tt (l.diff ⊹ (hA ⊹ hH) ⊹ (hA ⊹ hH)); hi = l.diff }

-- THE ADDITION THEOREM: the first n terms of each series, and arguments with |a| + |h| ≤ M
abbrev pub rest : ℕ → ℚ → ℚ
rest n M = exp_sum (n + n) M -q exp_sum n M

module _ (n : ℕ) {a h A H M : ℚ} (ha : Within a A) (hh : Within h H) (l : A +q H ≤q M) where
  -- a product of two partial sums
  piece : (f g : Sequence) → Bounds f (exp_term A) → Bounds g (exp_term H) → Within (beyond f g n n) (rest n M)
  piece f g hf hg =
      within_le (beyond_within g (exp_term H) hg n f (exp_term A) hf n (le_refl n)) (beyond_exp n (within_nn ha) (within_nn hh) l)

  pub sine_add : Within (sin_sum n (a +q h) -q (sin_sum n a *q cos_sum n h +q cos_sum n a *q sin_sum n h)) (rest n M +q rest n M)
  sine_add =
      subst (λ z. Within z (rest n M +q rest n M)) path
      (within_neg (within_add (piece (sin_term a) (cos_term h) (sin_within ha) (cos_within hh)) (piece (cos_term a) (sin_term h) (cos_within ha) (sin_within hh))))
    where
      total : sin_sum n (a +q h) ≡ sum (conv (sin_term a) (cos_term h)) n +q sum (conv (cos_term a) (sin_term h)) n
      total = ap (λ s. sum s n) (sym (fun_ext λ i. (add a h i).sine)) ∙ sum_add (conv (sin_term a) (cos_term h)) (conv (cos_term a) (sin_term h)) n

      path : negq (beyond (sin_term a) (cos_term h) n n +q beyond (cos_term a) (sin_term h) n n)
          ≡ sin_sum n (a +q h) -q (sin_sum n a *q cos_sum n h +q cos_sum n a *q sin_sum n h)
      path =
          solveq (neg' ((x0 :* x1 :- x4) :+ (x2 :* x3 :- x5))) ((x4 :+ x5) :- (x0 :* x1 :+ x2 :* x3))
          (sin_sum n a ∷ cos_sum n h ∷ cos_sum n a ∷ sin_sum n h ∷ sum (conv (sin_term a) (cos_term h)) n ∷ sum (conv (cos_term a) (sin_term h)) n ∷ []) tt
          ∙ ap (λ z. z -q (sin_sum n a *q cos_sum n h +q cos_sum n a *q sin_sum n h)) (sym total)

  pub cosine_add : Within (cos_sum n (a +q h) -q (cos_sum n a *q cos_sum n h -q sin_sum n a *q sin_sum n h)) (rest n M +q rest n M)
  cosine_add =
      subst (λ z. Within z (rest n M +q rest n M)) path
      (within_neg (within_sub (piece (cos_term a) (cos_term h) (cos_within ha) (cos_within hh)) (piece (sin_term a) (sin_term h) (sin_within ha) (sin_within hh))))
    where
      minus : (f g : Sequence) → sum (λ i. f i -q g i) n ≡ sum f n -q sum g n
      minus f g =
          sum_add f (λ i. negq (g i)) n
          ∙ ap (λ z. sum f n +q z)
          (ap (λ s. sum s n) (fun_ext λ i. solveq (neg' x0) (con (negsuc 0) :* x0) (g i ∷ []) tt)
          ∙ sum_scale (whole (negsuc 0)) g n
          ∙ solveq (con (negsuc 0) :* x0) (neg' x0) (sum g n ∷ []) tt)

      total : cos_sum n (a +q h) ≡ sum (conv (cos_term a) (cos_term h)) n -q sum (conv (sin_term a) (sin_term h)) n
      total = ap (λ s. sum s n) (sym (fun_ext λ i. (add a h i).cosine)) ∙ minus (conv (cos_term a) (cos_term h)) (conv (sin_term a) (sin_term h))

      path : negq (beyond (cos_term a) (cos_term h) n n -q beyond (sin_term a) (sin_term h) n n)
          ≡ cos_sum n (a +q h) -q (cos_sum n a *q cos_sum n h -q sin_sum n a *q sin_sum n h)
      path =
          solveq (neg' ((x0 :* x1 :- x4) :- (x2 :* x3 :- x5))) ((x4 :- x5) :- (x0 :* x1 :- x2 :* x3))
          (cos_sum n a ∷ cos_sum n h ∷ sin_sum n a ∷ sin_sum n h ∷ sum (conv (cos_term a) (cos_term h)) n ∷ sum (conv (sin_term a) (sin_term h)) n ∷ []) tt
          ∙ ap (λ z. z -q (cos_sum n a *q cos_sum n h -q sin_sum n a *q sin_sum n h)) (sym total)
