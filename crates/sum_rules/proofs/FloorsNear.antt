-- Whole numbers near exact ones: what sums, products and floors keep of it.
use mathlib.Core.List.{[], ◌∷◌}
use mathlib.Core.Path.{◌∙◌, ◌≡◌, ap, refl, subst, sym}
use Prim.Native.Nat.{suc, ℕ}
use lib.IntN.{◌*ℤ◌, ◌+ℤ◌, nat_abs, negsuc, pos, ℤ}
use Rattle.arithmetic.specs.Floor.{⌊◌÷◌⌋}
use Rattle.arithmetic.proofs.Solver.{◌:*◌, ◌:+◌, ◌:-◌, k0, neg', x0, x1, x2, x3, x4}
use Rattle.exact.specs.Fraction.{Within, ◌*q◌, ◌+q◌, ◌-q◌, ◌over◌, inv, nat, whole, ℚ}
use Rattle.exact.proofs.Floors.{floor_within}
use Rattle.exact.proofs.FractionLaws.{linq, solveq, whole_add, whole_mul, whole_neg}
use Rattle.exact.proofs.Order.{nn_int, nn_inv, within_add, within_mul, within_neg, within_prod, within_self}

-- a whole number is within its size
pub size_within : (z : ℤ) → Within (whole z) (nat (nat_abs z))
size_within (pos n) = within_self (nn_int n)
size_within (negsuc n) =
    subst (λ x. Within x (nat (suc n))) (sym (whole_neg (pos (suc n)))) (within_neg (within_self (nn_int (suc n))))

pub same_near : (x : ℚ) → Within (x -q x) (nat 0)
same_near x = subst (λ z. Within z (nat 0)) (solveq k0 (x0 :- x0) (x ∷ []) tt) (within_self (nn_int 0))

-- what is near something small is small
pub near_small : (x y : ℚ) {error size : ℚ} → Within (x -q y) error → Within y size → Within x (error +q size)
near_small x y {error} {size} near small =
    subst (λ z. Within z (error +q size)) (solveq ((x0 :- x1) :+ x1) x0 (x ∷ y ∷ []) tt) (within_add near small)

pub near_add : (a b : ℤ) (x y : ℚ) {error error' : ℚ} → Within (whole a -q x) error → Within (whole b -q y) error'
    → Within (whole (a +ℤ b) -q (x +q y)) (error +q error')
near_add a b x y {error} {error'} near near' =
    subst (λ z. Within z (error +q error'))
    (solveq ((x0 :- x2) :+ (x1 :- x3)) ((x0 :+ x1) :- (x2 :+ x3)) (whole a ∷ whole b ∷ x ∷ y ∷ []) tt
    ∙ ap (λ z. z -q (x +q y)) (sym (whole_add a b)))
    (within_add near near')

-- over d + 1, before a floor and by it
pub near_over : (a : ℤ) (d : ℕ) (x y : ℚ) {error : ℚ} → x over suc d ≡ y → Within (whole a -q x) error
    → Within (whole a over suc d -q y) (error over suc d)
near_over a d x y {error} is near =
    subst (λ z. Within z (error over suc d))
    (solveq ((x0 :- x1) :* x2) (x0 :* x2 :- x1 :* x2) (whole a ∷ x ∷ inv d ∷ []) tt ∙ ap (λ z. whole a over suc d -q z) is)
    (within_mul near (within_self (nn_inv d)))

pub floor_near : (a : ℤ) (d : ℕ) → Within (whole ⌊ a ÷ suc d ⌋ -q whole a over suc d) (nat 1)
floor_near a d =
    subst (λ z. Within z (nat 1)) (solveq (neg' (x0 :- x1)) (x1 :- x0) ((whole a over suc d) ∷ whole ⌊ a ÷ suc d ⌋ ∷ []) tt)
    (within_neg (floor_within a d))

pub floored : (a : ℤ) (d : ℕ) (x : ℚ) {error : ℚ} → Within (whole a over suc d -q x) error
    → Within (whole ⌊ a ÷ suc d ⌋ -q x) (error +q nat 1)
floored a d x {error} near =
    subst (λ z. Within z (error +q nat 1))
    (solveq ((x0 :- x1) :+ (x2 :- x0)) (x2 :- x1) ((whole a over suc d) ∷ x ∷ whole ⌊ a ÷ suc d ⌋ ∷ []) tt)
    (within_add near (floor_near a d))

-- a b / (d + 1), floored: where a and b are exact,
pub floored_multiple : (a b : ℤ) (d : ℕ) → Within (whole ⌊ a *ℤ b ÷ suc d ⌋ -q whole a *q (whole b over suc d)) (nat 1)
floored_multiple a b d =
    subst (λ z. Within (whole ⌊ a *ℤ b ÷ suc d ⌋ -q z) (nat 1))
    (ap (λ z. z over suc d) (whole_mul a b) ∙ solveq (x0 :* x1 :* x2) (x0 :* (x1 :* x2)) (whole a ∷ whole b ∷ inv d ∷ []) tt)
    (floor_near (a *ℤ b) d)

-- where a is exact and b is near y,
pub floored_term : (a b : ℤ) (d : ℕ) (y : ℚ) {error : ℚ} → Within (whole b -q y) error
    → Within (whole ⌊ a *ℤ b ÷ suc d ⌋ -q whole a *q y over suc d) (nat (nat_abs a) *q error over suc d +q nat 1)
floored_term a b d y {error} near =
    floored (a *ℤ b) d (whole a *q y over suc d)
    (near_over (a *ℤ b) d (whole a *q y) _ refl
    (subst (λ z. Within z (nat (nat_abs a) *q error))
    (solveq (x0 :* (x1 :- x2)) (x0 :* x1 :- x0 :* x2) (whole a ∷ whole b ∷ y ∷ []) tt
    ∙ ap (λ z. z -q whole a *q y) (sym (whole_mul a b)))
    (within_mul (size_within a) near)))

-- the same where b is near k y, and k / (d + 1) is h,
pub floored_scaled : (a b : ℤ) (d : ℕ) (k h y : ℚ) {error : ℚ} → k over suc d ≡ h → Within (whole b -q k *q y) error
    → Within (whole ⌊ a *ℤ b ÷ suc d ⌋ -q h *q (whole a *q y)) (nat (nat_abs a) *q error over suc d +q nat 1)
floored_scaled a b d k h y {error} is near =
    subst (λ z. Within (whole ⌊ a *ℤ b ÷ suc d ⌋ -q z) (nat (nat_abs a) *q error over suc d +q nat 1))
    (linq (x0 :* (x1 :* x2) :* x3) (x4 :* (x0 :* x2)) (x0 :* x2) (x1 :* x3) x4 (whole a ∷ k ∷ y ∷ inv d ∷ h ∷ []) tt is)
    (floored_term a b d (k *q y) near)

-- and where a is near x, and b / (d + 1) is near y
pub floored_product : (a b : ℤ) (d : ℕ) (x y : ℚ) {size size' error error' : ℚ} → Within (whole a) size → Within y size'
    → Within (whole a -q x) error → Within (whole b over suc d -q y) error'
    → Within (whole ⌊ a *ℤ b ÷ suc d ⌋ -q x *q y) (size *q error' +q size' *q error +q nat 1)
floored_product a b d x y {size} {size'} {error} {error'} small small' near near' =
    floored (a *ℤ b) d (x *q y)
    (subst (λ z. Within (z -q x *q y) (size *q error' +q size' *q error))
    (solveq (x0 :* (x1 :* x2)) (x0 :* x1 :* x2) (whole a ∷ whole b ∷ inv d ∷ []) tt ∙ ap (λ z. z over suc d) (sym (whole_mul a b)))
    (within_prod (whole a) (whole b over suc d) x y small small' near' near))
