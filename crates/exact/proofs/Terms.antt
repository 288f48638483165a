-- The reference's series is the truncated series of the addition theorem: (-1)ⁱ a^(2i+1) / (2i+1)! and (-1)ⁱ a^(2i) / (2i)!, for i below 20.
use mathlib.Core.List.{[], ◌∷◌}
use mathlib.Core.Path.{◌∙◌, ◌≡◌, ap, ap₂, fun_ext, refl, sym}
use Prim.Native.Nat.{◌*◌, ◌+◌, ◌≤◌, suc, zero, ℕ}
use native.Mathlib.Omega.{arith}
use Rattle.arithmetic.proofs.Solver.{◌:*◌, ◌:+◌, k0, k1, neg', x0, x1, x2, x3, x4}
use Rattle.exact.specs.Fraction.{◌*q◌, ◌+q◌, ◌over◌, inv, nat, negq, ℚ}
use Rattle.exact.specs.Reference.{cosine_series, factorial, power, sign, sine_series, sum}
use Rattle.exact.proofs.Addition.{cos_term, cos₄₀, exp_term, sin_term, sin₄₀}
use Rattle.exact.proofs.Floors.{nat_mul}
use Rattle.exact.proofs.FractionLaws.{inv_mul, linq, solveq}
use Rattle.exact.proofs.Horner.{double}
use Rattle.exact.proofs.Series.{Sequence, shift}

-- q is p / d where d q = p
pub over_is : (p q : ℚ) {d : ℕ} → 1 ≤ d → nat d *q q ≡ p → p over d ≡ q
over_is p q {d = zero} h e = absurd (none h)
  where
    none : 1 ≤ 0 → ⊥
    none h = omega arith
over_is p q {d = suc d} h e =
    ap (λ z. z *q inv d) (sym e) ∙ linq (x0 :* x1 :* x2) x1 x1 (x0 :* x2) k1 (nat (suc d) ∷ q ∷ inv d ∷ []) tt (inv_mul d)

factorial_pos : (n : ℕ) → 1 ≤ factorial n
unfolding factorial
factorial_pos zero = omega arith
factorial_pos (suc n) = go n (factorial n) (factorial_pos n)
  where
    go : (n f : ℕ) → 1 ≤ f → 1 ≤ suc n * f
    go n f h = omega arith

-- n! times aⁿ / n!
exp_power : (a : ℚ) (n : ℕ) → nat (factorial n) *q exp_term a n ≡ power a n
unfolding factorial exp_term power
exp_power a zero = solveq (k1 :* k1) k1 [] tt
exp_power a (suc n) =
    ap (λ z. z *q (inv n *q (a *q exp_term a n))) (nat_mul (suc n) (factorial n))
    ∙ linq (x0 :* x1 :* (x2 :* (x3 :* x4))) (x3 :* (x1 :* x4)) (x1 :* x3 :* x4) (x0 :* x2) k1 (nat (suc n) ∷ nat (factorial n) ∷ inv n ∷ a ∷ exp_term a n ∷ []) tt (inv_mul n)
    ∙ ap (λ z. a *q z) (exp_power a n)

exp_is : (a : ℚ) (n : ℕ) → power a n over factorial n ≡ exp_term a n
exp_is a n = over_is (power a n) (exp_term a n) (factorial_pos n) (exp_power a n)

-- ---- the terms with their signs
record Terms (a : ℚ) (j : ℕ) : Type 0 where
  s0 : sin_term a (double j) ≡ nat 0
  c0 : cos_term a (double j) ≡ sign j *q exp_term a (double j)
  s1 : sin_term a (suc (double j)) ≡ sign j *q exp_term a (suc (double j))
  c1 : cos_term a (suc (double j)) ≡ nat 0

next_s : (a : ℚ) (n : ℕ) (g : ℚ) → cos_term a n ≡ g *q exp_term a n → sin_term a (suc n) ≡ g *q exp_term a (suc n)
unfolding sin_term exp_term
next_s a n g h = ap (λ z. inv n *q (a *q z)) h ∙ solveq (x0 :* (x1 :* (x2 :* x3))) (x2 :* (x0 :* (x1 :* x3))) (inv n ∷ a ∷ g ∷ exp_term a n ∷ []) tt

next_c : (a : ℚ) (n : ℕ) (g : ℚ) → sin_term a n ≡ g *q exp_term a n → cos_term a (suc n) ≡ negq g *q exp_term a (suc n)
unfolding sin_term exp_term
next_c a n g h = ap (λ z. inv n *q negq (a *q z)) h ∙ solveq (x0 :* neg' (x1 :* (x2 :* x3))) (neg' x2 :* (x0 :* (x1 :* x3))) (inv n ∷ a ∷ g ∷ exp_term a n ∷ []) tt

zero_s : (a : ℚ) (n : ℕ) → cos_term a n ≡ nat 0 → sin_term a (suc n) ≡ nat 0
unfolding sin_term
zero_s a n h = ap (λ z. inv n *q (a *q z)) h ∙ solveq (x0 :* (x1 :* k0)) k0 (inv n ∷ a ∷ []) tt

zero_c : (a : ℚ) (n : ℕ) → sin_term a n ≡ nat 0 → cos_term a (suc n) ≡ nat 0
unfolding sin_term
zero_c a n h = ap (λ z. inv n *q negq (a *q z)) h ∙ solveq (x0 :* neg' (x1 :* k0)) k0 (inv n ∷ a ∷ []) tt

start : (a : ℚ) → cos_term a 0 ≡ nat 1 *q exp_term a 0
unfolding sin_term exp_term
start a = solveq k1 (k1 :* k1) [] tt

start_s : (a : ℚ) → sin_term a 0 ≡ nat 0
unfolding sin_term
start_s a = refl

terms : (a : ℚ) (j : ℕ) → Terms a j
unfolding double sign
terms a zero = record { s0 = start_s a; c0 = start a; s1 = next_s a 0 (nat 1) (start a); c1 = zero_c a 0 (start_s a) }
terms a (suc j) =
    let s0' : sin_term a (suc (suc (double j))) ≡ nat 0 = zero_s a (suc (double j)) (terms a j).c1 in
    let c0' : cos_term a (suc (suc (double j))) ≡ negq (sign j) *q exp_term a (suc (suc (double j))) = next_c a (suc (double j)) (sign j) (terms a j).s1 in
    record { s0 = s0'; c0 = c0'; s1 = next_s a (suc (suc (double j))) (negq (sign j)) c0'; c1 = zero_c a (suc (suc (double j))) s0' }

pairs : (f : Sequence) (n : ℕ) → sum f (double n) ≡ sum (λ j. f (double j) +q f (suc (double j))) n
unfolding sum double
pairs f zero = refl
pairs f (suc n) = ap (λ z. f 0 +q (f 1 +q z)) (pairs (shift (shift f)) n) ∙ solveq (x0 :+ (x1 :+ x2)) (x0 :+ x1 :+ x2) (f 0 ∷ f 1 ∷ sum (λ j. f (suc (suc (double j))) +q f (suc (suc (suc (double j))))) n ∷ []) tt

-- 2 i, as the two series count
twice : (i : ℕ) → double i ≡ 2 * i
unfolding double
twice zero = refl
twice (suc i) = next (double i) i (twice i)
  where
    next : (d i : ℕ) → d ≡ 2 * i → suc (suc d) ≡ 2 * suc i
    next d i h = omega arith

twice_one : (i : ℕ) → suc (double i) ≡ 2 * i + 1
twice_one i = go (double i) i (twice i)
  where
    go : (d i : ℕ) → d ≡ 2 * i → suc d ≡ 2 * i + 1
    go d i h = omega arith

pub sine_series_is : (a : ℚ) → sine_series a ≡ sin₄₀ a
unfolding double
sine_series_is a = sym (pairs (sin_term a) 20 ∙ ap (λ f. sum f 20) (fun_ext λ i.
    ap₂ ◌+q◌ (terms a i).s0 (terms a i).s1
    ∙ solveq (k0 :+ x0 :* x1) (x0 :* x1) (sign i ∷ exp_term a (suc (double i)) ∷ []) tt
    ∙ ap (λ z. sign i *q z) (ap (exp_term a) (twice_one i) ∙ sym (exp_is a (2 * i + 1)))))

pub cosine_series_is : (a : ℚ) → cosine_series a ≡ cos₄₀ a
unfolding double
cosine_series_is a = sym (pairs (cos_term a) 20 ∙ ap (λ f. sum f 20) (fun_ext λ i.
    ap₂ ◌+q◌ (terms a i).c0 (terms a i).c1
    ∙ solveq (x0 :* x1 :+ k0) (x0 :* x1) (sign i ∷ exp_term a (double i) ∷ []) tt
    ∙ ap (λ z. sign i *q z) (ap (exp_term a) (twice i) ∙ sym (exp_is a (2 * i)))))
