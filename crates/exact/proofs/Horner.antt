-- The truncated series by Horner's rule, which computes faster at closed numbers.
use mathlib.Core.List.{[], ◌∷◌}
use mathlib.Core.Path.{◌∙◌, ◌≡◌, ap, ap₂, refl}
use Prim.Native.Nat.{suc, zero, ℕ}
use Rattle.arithmetic.proofs.Solver.{◌:*◌, ◌:+◌, k0, k1, neg', x0, x1, x2, x3, x4, x5}
use Rattle.exact.specs.Fraction.{◌*q◌, ◌+q◌, inv, nat, negq, whole, ℚ}
use Rattle.exact.specs.Reference.{sum}
use Rattle.exact.proofs.Addition.{cos_sum, cos_term, cos₄₀, sin_sum, sin_term, sin₄₀}
use Rattle.exact.proofs.FractionLaws.{solveq}
use Rattle.exact.proofs.Series.{Sequence, shift}

-- 2 n
unfoldable pub double : ℕ → ℕ
double zero = zero
double (suc n) = suc (suc (double n))

-- 1 + Z 0 (1 + Z 2 (1 + Z 4 ..
unfoldable pub horner : Sequence → ℕ → ℚ
horner Z zero = nat 0
horner Z (suc n) = nat 1 +q Z 0 *q horner (shift (shift Z)) n

-- a sequence whose term after next is Z times the term
by_horner : (F Z : Sequence) → ((i : ℕ) → F (suc (suc i)) ≡ Z i *q F i) → (n : ℕ) → sum F (double n) ≡ F 0 *q horner Z n +q F 1 *q horner (shift Z) n
unfolding double horner sum
by_horner F Z h zero = solveq k0 (x0 :* k0 :+ x1 :* k0) (F 0 ∷ F 1 ∷ []) tt
by_horner F Z h (suc n) =
    ap (λ z. F 0 +q (F 1 +q z)) (by_horner (shift (shift F)) (shift (shift Z)) (λ i. h (suc (suc i))) n)
    ∙ ap₂ (λ u v. F 0 +q (F 1 +q (u *q horner (shift (shift Z)) n +q v *q horner (shift (shift (shift Z))) n))) (h 0) (h 1)
    ∙ solveq (x0 :+ (x1 :+ (x2 :* x0 :* x4 :+ x3 :* x1 :* x5))) (x0 :* (k1 :+ x2 :* x4) :+ x1 :* (k1 :+ x3 :* x5))
    (F 0 ∷ F 1 ∷ Z 0 ∷ Z 1 ∷ horner (shift (shift Z)) n ∷ horner (shift (shift (shift Z))) n ∷ []) tt

abbrev pub ratios : ℚ → Sequence
ratios w = λ i. w *q (inv i *q inv (suc i))

sin_two : (a : ℚ) (i : ℕ) → sin_term a (suc (suc i)) ≡ ratios (negq (a *q a)) i *q sin_term a i
unfolding sin_term
sin_two a i = solveq (x3 :* (x0 :* (x2 :* neg' (x0 :* x1)))) (neg' (x0 :* x0) :* (x2 :* x3) :* x1) (a ∷ sin_term a i ∷ inv i ∷ inv (suc i) ∷ []) tt

cos_two : (a : ℚ) (i : ℕ) → cos_term a (suc (suc i)) ≡ ratios (negq (a *q a)) i *q cos_term a i
unfolding sin_term
cos_two a i = solveq (x3 :* neg' (x0 :* (x2 :* (x0 :* x1)))) (neg' (x0 :* x0) :* (x2 :* x3) :* x1) (a ∷ cos_term a i ∷ inv i ∷ inv (suc i) ∷ []) tt

unfoldable pub sin_horner : ℕ → ℚ → ℚ
sin_horner n a = a *q horner (λ i. ratios (negq (a *q a)) (suc i)) n

unfoldable pub cos_horner : ℕ → ℚ → ℚ
cos_horner n a = horner (ratios (negq (a *q a))) n

pub inv_0 : inv 0 ≡ nat 1
unfolding inv whole
inv_0 = refl

sin_is : (n : ℕ) (a : ℚ) → sin_sum (double n) a ≡ sin_horner n a
unfolding sin_term sin_horner
sin_is n a =
    by_horner (sin_term a) (ratios (negq (a *q a))) (sin_two a) n
    ∙ ap (λ z. nat 0 *q horner (ratios (negq (a *q a))) n +q z *q (a *q nat 1) *q horner (λ i. ratios (negq (a *q a)) (suc i)) n) inv_0
    ∙ solveq (k0 :* x0 :+ k1 :* (x1 :* k1) :* x2) (x1 :* x2) (horner (ratios (negq (a *q a))) n ∷ a ∷ horner (λ i. ratios (negq (a *q a)) (suc i)) n ∷ []) tt

cos_is : (n : ℕ) (a : ℚ) → cos_sum (double n) a ≡ cos_horner n a
unfolding sin_term cos_horner
cos_is n a =
    by_horner (cos_term a) (ratios (negq (a *q a))) (cos_two a) n
    ∙ solveq (k1 :* x0 :+ (x3 :* neg' (x1 :* k0)) :* x2) x0 (horner (ratios (negq (a *q a))) n ∷ a ∷ horner (λ i. ratios (negq (a *q a)) (suc i)) n ∷ inv 0 ∷ []) tt

-- at 40 terms
pub sin₄₀_is : (a : ℚ) → sin₄₀ a ≡ sin_horner 20 a
unfolding double
sin₄₀_is a = sin_is 20 a

pub cos₄₀_is : (a : ℚ) → cos₄₀ a ≡ cos_horner 20 a
unfolding double
cos₄₀_is a = cos_is 20 a
