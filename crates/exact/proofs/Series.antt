-- Sequences of fractions: partial sums, the Cauchy product `conv`, its derivative rule, and the bound for what a product of two partial sums has
-- beyond the partial sum of the product.
use mathlib.Core.List.{[], ◌∷◌}
use mathlib.Core.Path.{◌∙◌, ◌≡◌, ap, ap₂, fun_ext, subst, subst₂, sym}
use Prim.Native.Nat.{◌+◌, ◌≤◌, suc, suc-le-suc, zero, zero-le, ℕ}
use native.Mathlib.Nat.{le-suc, le_trans, suc-add}
use native.Mathlib.Omega.{arith}
use lib.IntN.{pos}
use Rattle.arithmetic.proofs.Solver.{◌:*◌, ◌:+◌, ◌:-◌, k0, k1, x0, x1, x2, x3, x4, x5, x6, x7}
use Rattle.exact.specs.Fraction.{NN, Within, ◌*q◌, ◌+q◌, ◌-q◌, nat, whole, ℚ}
use Rattle.exact.specs.Reference.{sum}
use Rattle.exact.proofs.FractionLaws.{linq, solveq, whole_add}
use Rattle.exact.proofs.Order.{◌∗◌, ◌⊹◌, nn_int, nnby, within_add, within_mul, within_self}

abbrev pub Sequence : Type 0
Sequence = ℕ → ℚ

abbrev pub shift : Sequence → Sequence
shift f = λ n. f (suc n)

-- f 0 g n + .. + f n g 0
unfoldable pub conv : Sequence → Sequence → Sequence
conv f g zero = f 0 *q g 0
conv f g (suc n) = f 0 *q g (suc n) +q conv (shift f) g n

-- (n + 1) f (n + 1)
abbrev pub derivative : Sequence → Sequence
derivative f = λ n. whole (pos (suc n)) *q f (suc n)

pub sum_add : (f g : Sequence) (n : ℕ) → sum (λ i. f i +q g i) n ≡ sum f n +q sum g n
unfolding sum
sum_add f g zero = solveq k0 (k0 :+ k0) [] tt
sum_add f g (suc n) =
    ap (λ z. f 0 +q g 0 +q z) (sum_add (shift f) (shift g) n)
    ∙ solveq (x0 :+ x1 :+ (x2 :+ x3)) (x0 :+ x2 :+ (x1 :+ x3)) (f 0 ∷ g 0 ∷ sum (shift f) n ∷ sum (shift g) n ∷ []) tt

pub sum_scale : (a : ℚ) (f : Sequence) (n : ℕ) → sum (λ i. a *q f i) n ≡ a *q sum f n
unfolding sum
sum_scale a f zero = solveq k0 (x0 :* k0) (a ∷ []) tt
sum_scale a f (suc n) = ap (λ z. a *q f 0 +q z) (sum_scale a (shift f) n) ∙ solveq (x0 :* x1 :+ x0 :* x2) (x0 :* (x1 :+ x2)) (a ∷ f 0 ∷ sum (shift f) n ∷ []) tt

conv_add : (f h g : Sequence) (n : ℕ) → conv (λ i. f i +q h i) g n ≡ conv f g n +q conv h g n
unfolding conv
conv_add f h g zero = solveq ((x0 :+ x1) :* x2) (x0 :* x2 :+ x1 :* x2) (f 0 ∷ h 0 ∷ g 0 ∷ []) tt
conv_add f h g (suc n) =
    ap (λ z. (f 0 +q h 0) *q g (suc n) +q z) (conv_add (shift f) (shift h) g n)
    ∙ solveq ((x0 :+ x1) :* x2 :+ (x3 :+ x4)) (x0 :* x2 :+ x3 :+ (x1 :* x2 :+ x4)) (f 0 ∷ h 0 ∷ g (suc n) ∷ conv (shift f) g n ∷ conv (shift h) g n ∷ []) tt

pub conv_scale_l : (a : ℚ) (f g : Sequence) (n : ℕ) → conv (λ i. a *q f i) g n ≡ a *q conv f g n
unfolding conv
conv_scale_l a f g zero = solveq ((x0 :* x1) :* x2) (x0 :* (x1 :* x2)) (a ∷ f 0 ∷ g 0 ∷ []) tt
conv_scale_l a f g (suc n) =
    ap (λ z. (a *q f 0) *q g (suc n) +q z) (conv_scale_l a (shift f) g n)
    ∙ solveq ((x0 :* x1) :* x2 :+ x0 :* x3) (x0 :* (x1 :* x2 :+ x3)) (a ∷ f 0 ∷ g (suc n) ∷ conv (shift f) g n ∷ []) tt

pub conv_scale_r : (a : ℚ) (f g : Sequence) (n : ℕ) → conv f (λ i. a *q g i) n ≡ a *q conv f g n
unfolding conv
conv_scale_r a f g zero = solveq (x1 :* (x0 :* x2)) (x0 :* (x1 :* x2)) (a ∷ f 0 ∷ g 0 ∷ []) tt
conv_scale_r a f g (suc n) =
    ap (λ z. f 0 *q (a *q g (suc n)) +q z) (conv_scale_r a (shift f) g n)
    ∙ solveq (x1 :* (x0 :* x2) :+ x0 :* x3) (x0 :* (x1 :* x2 :+ x3)) (a ∷ f 0 ∷ g (suc n) ∷ conv (shift f) g n ∷ []) tt

-- one more, as a fraction
next : (n : ℕ) → whole (pos (suc (suc n))) ≡ whole (pos (suc n)) +q nat 1
next n = ap (λ m. whole (pos m)) (e n) ∙ whole_add (pos (suc n)) (pos 1)
  where
    e : (n : ℕ) → suc (suc n) ≡ suc n + 1
    e n = omega arith

shift_derivative : (f : Sequence) → shift (derivative f) ≡ (λ i. derivative (shift f) i +q shift (shift f) i)
shift_derivative f = fun_ext λ i. ap (λ z. z *q f (suc (suc i))) (next i) ∙ solveq ((x0 :+ k1) :* x1) (x0 :* x1 :+ x1) (whole (pos (suc i)) ∷ f (suc (suc i)) ∷ []) tt

-- the derivative of a product
pub leibniz : (f g : Sequence) (n : ℕ) → derivative (conv f g) n ≡ conv (derivative f) g n +q conv f (derivative g) n
unfolding conv
leibniz f g zero = solveq (k1 :* (x0 :* x1 :+ x2 :* x3)) ((k1 :* x2) :* x3 :+ x0 :* (k1 :* x1)) (f 0 ∷ g 1 ∷ f 1 ∷ g 0 ∷ []) tt
leibniz f g (suc n) =
    ap (λ z. z *q (f 0 *q g (suc (suc n)) +q conv (shift f) g (suc n))) (next n)
    ∙ linq ((x5 :+ k1) :* (x0 :* x1 :+ (x2 :* x3 :+ x4))) ((k1 :* x2) :* x3 :+ (x6 :+ x4) :+ (x0 :* ((x5 :+ k1) :* x1) :+ x7))
    k1 (x5 :* (x2 :* x3 :+ x4)) (x6 :+ x7)
    (f 0 ∷ g (suc (suc n)) ∷ f 1 ∷ g (suc n) ∷ conv (shift (shift f)) g n ∷ whole (pos (suc n)) ∷ conv (derivative (shift f)) g n ∷ conv (shift f) (derivative g) n ∷ [])
    tt (leibniz (shift f) g n)
    ∙ ap₂ (λ z w. nat 1 *q f 1 *q g (suc n) +q z +q (f 0 *q (w *q g (suc (suc n))) +q conv (shift f) (derivative g) n))
    (sym (ap (λ s. conv s g n) (shift_derivative f) ∙ conv_add (derivative (shift f)) (shift (shift f)) g n)) (sym (next n))

-- ---- the sum of the first n terms of a product, by the first factor's terms
pub sum_conv : (f g : Sequence) (n : ℕ) → sum (conv f g) (suc n) ≡ f 0 *q sum g (suc n) +q sum (conv (shift f) g) n
unfolding sum conv
sum_conv f g n =
    ap (λ z. f 0 *q g 0 +q z) (sum_add (λ i. f 0 *q g (suc i)) (conv (shift f) g) n ∙ ap (λ z. z +q sum (conv (shift f) g) n) (sum_scale (f 0) (shift g) n))
    ∙ solveq (x0 :* x1 :+ (x0 :* x2 :+ x3)) (x0 :* (x1 :+ x2) :+ x3) (f 0 ∷ g 0 ∷ sum (shift g) n ∷ sum (conv (shift f) g) n ∷ []) tt

-- F bounds f
abbrev pub Bounds : Sequence → Sequence → Type 0
Bounds f F = (n : ℕ) → Within (f n) (F n)

pub sum_within : (f F : Sequence) → Bounds f F → (n : ℕ) → Within (sum f n) (sum F n)
unfolding sum
sum_within f F h zero = within_self (nn_int 0)
sum_within f F h (suc n) = within_add (h 0) (sum_within (shift f) (shift F) (λ i. h (suc i)) n)

-- the terms from k to m - 1
pub tail_within : (f F : Sequence) → Bounds f F → {k m : ℕ} → k ≤ m → Within (sum f m -q sum f k) (sum F m -q sum F k)
unfolding sum
tail_within f F h (zero-le {n = m}) = subst₂ Within (solveq x0 (x0 :- k0) (sum f m ∷ []) tt) (solveq x0 (x0 :- k0) (sum F m ∷ []) tt) (sum_within f F h m)
tail_within f F h (suc-le-suc {n = k} {m = m} l) =
    subst₂ Within (solveq (x1 :- x2) ((x0 :+ x1) :- (x0 :+ x2)) (f 0 ∷ sum (shift f) m ∷ sum (shift f) k ∷ []) tt)
    (solveq (x1 :- x2) ((x0 :+ x1) :- (x0 :+ x2)) (F 0 ∷ sum (shift F) m ∷ sum (shift F) k ∷ []) tt)
    (tail_within (shift f) (shift F) (λ i. h (suc i)) l)

-- what the product of two partial sums has beyond the partial sum of the product
abbrev pub beyond : Sequence → Sequence → ℕ → ℕ → ℚ
beyond f g n m = sum f n *q sum g m -q sum (conv f g) n

beyond_suc : (f g : Sequence) (n m : ℕ) → beyond f g (suc n) m ≡ f 0 *q (sum g m -q sum g (suc n)) +q beyond (shift f) g n m
unfolding sum
beyond_suc f g n m =
    ap (λ z. (f 0 +q sum (shift f) n) *q sum g m -q z) (sum_conv f g n)
    ∙ solveq ((x0 :+ x1) :* x2 :- (x0 :* x3 :+ x4)) (x0 :* (x2 :- x3) :+ (x1 :* x2 :- x4))
    (f 0 ∷ sum (shift f) n ∷ sum g m ∷ sum g (suc n) ∷ sum (conv (shift f) g) n ∷ []) tt

pub beyond_within : (g G : Sequence) → Bounds g G → (m : ℕ) (f F : Sequence) → Bounds f F → (n : ℕ) → n ≤ m → Within (beyond f g n m) (beyond F G n m)
unfolding sum
beyond_within g G hg m f F hf zero l = subst₂ Within (solveq k0 (k0 :* x0 :- k0) (sum g m ∷ []) tt) (solveq k0 (k0 :* x0 :- k0) (sum G m ∷ []) tt) (within_self (nn_int 0))
beyond_within g G hg m f F hf (suc n) l =
    subst₂ Within (sym (beyond_suc f g n m)) (sym (beyond_suc F G n m))
    (within_add (within_mul (hf 0) (tail_within g G hg l)) (beyond_within g G hg m (shift f) (shift F) (λ i. hf (suc i)) n (le_trans (le-suc n) l)))

-- ---- terms that are at least 0: the square lies in a larger triangle
pub sum_nn : (F : Sequence) → ((n : ℕ) → NN (F n)) → (n : ℕ) → NN (sum F n)
unfolding sum
sum_nn F h zero = nn_int 0
sum_nn F h (suc n) = h 0 ⊹ sum_nn (shift F) (λ i. h (suc i)) n

pub conv_nn : (F G : Sequence) → ((n : ℕ) → NN (F n)) → ((n : ℕ) → NN (G n)) → (n : ℕ) → NN (conv F G n)
unfolding conv
conv_nn F G hf hg zero = hf 0 ∗ hg 0
conv_nn F G hf hg (suc n) = hf 0 ∗ hg (suc n) ⊹ conv_nn (shift F) G (λ i. hf (suc i)) hg n

sum_mono : (G : Sequence) → ((n : ℕ) → NN (G n)) → {k m : ℕ} → k ≤ m → NN (sum G m -q sum G k)
unfolding sum
sum_mono G h (zero-le {n = m}) = nnby (x0 :- k0) x0 (sum G m ∷ []) tt (sum_nn G h m)
sum_mono G h (suc-le-suc {n = k} {m = m} l) =
    nnby ((x0 :+ x1) :- (x0 :+ x2)) (x1 :- x2) (G 0 ∷ sum (shift G) m ∷ sum (shift G) k ∷ []) tt (sum_mono (shift G) (λ i. h (suc i)) l)

pub square_le : (G : Sequence) → ((n : ℕ) → NN (G n)) → (m : ℕ) (F : Sequence) → ((n : ℕ) → NN (F n)) → (n : ℕ) → NN (sum (conv F G) (n + m) -q sum F n *q sum G m)
unfolding sum
square_le G hg m F hf zero = nnby (x0 :- k0 :* x1) x0 (sum (conv F G) (zero + m) ∷ sum G m ∷ []) tt (sum_nn (conv F G) (conv_nn F G hf hg) (zero + m))
square_le G hg m F hf (suc n) =
    subst (λ z. NN (z -q (F 0 +q sum (shift F) n) *q sum G m)) (sym (ap (sum (conv F G)) (suc-add n m) ∙ sum_conv F G (n + m)))
    (nnby (x0 :* x1 :+ x2 :- (x0 :+ x3) :* x4) (x0 :* (x1 :- x4) :+ (x2 :- x3 :* x4))
    (F 0 ∷ sum G (suc (n + m)) ∷ sum (conv (shift F) G) (n + m) ∷ sum (shift F) n ∷ sum G m ∷ []) tt
    (hf 0 ∗ sum_mono G hg (le n m) ⊹ square_le G hg m (shift F) (λ i. hf (suc i)) n))
  where
    le : (n m : ℕ) → m ≤ suc (n + m)
    le n m = omega arith
