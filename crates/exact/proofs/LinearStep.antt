-- how far sin-sum and cos-sum move is at most a multiple of the step, for any small step
use mathlib.Core.List.{[], ◌∷◌}
use mathlib.Core.Path.{subst, subst₂}
use Prim.Native.Nat.{◌≤◌, suc, ℕ}
use native.Mathlib.Omega.{arith}
use Rattle.arithmetic.proofs.Solver.{◌:*◌, ◌:+◌, ◌:-◌, k0, k1, x0, x1, x2, x3, x4, x5, x6, x7}
use Rattle.exact.specs.Fraction.{NN, Within, ◌*q◌, ◌+q◌, ◌-q◌, ◌over◌, ◌≤q◌, inv, nat, negq, nn, whole, ℚ}
use Rattle.exact.specs.Reference.{sum}
use Rattle.exact.proofs.Addition.{exp_nn, exp_sum, exp_term, exp_within, exp₄₀}
use Rattle.exact.proofs.Floors.{nat_le}
use Rattle.exact.proofs.FractionLaws.{inv_mul, linq, solveq}
use Rattle.exact.proofs.Order.{◌∗◌, ◌⊹◌, leby, nn_inv, nnby, within_le, within_mul, within_self}
use Rattle.exact.proofs.Rotation.{step}
use Rattle.exact.proofs.Series.{shift, sum_scale, sum_within}
use Rattle.exact.proofs.UnitCircle.{one+, one+_nn, ε}

-- a thousandth of a radian
abbrev pub small : ℚ
small = nat 1 over 1000

inv_le : (n : ℕ) → Within (inv n) (nat 1)
inv_le n = within_le (within_self (nn_inv n)) (record {
  diff =
      subst NN (linq ((x0 :- k1) :* x1) (k1 :- x1) k1 (x0 :* x1) k1 (nat (suc n) ∷ inv n ∷ []) tt (inv_mul n)) (nat_le (le n) ∗ nn_inv n);
})
  where
    le : (n : ℕ) → 1 ≤ suc n
    le n = omega arith

each_term : {δ : ℚ} → NN δ → δ ≤q small → (n : ℕ) → Within (exp_term δ (suc n)) (δ *q exp_term small n)
unfolding exp_term
each_term {δ} h l n =
    subst (λ z. Within (inv n *q (δ *q exp_term δ n)) z) (solveq (k1 :* x0) x0 ((δ *q exp_term small n) ∷ []) tt)
    (within_mul (inv_le n) (within_mul (within_self h) (exp_within (within_le (within_self h) l) n)))

-- the terms from the first on
first_on : {δ : ℚ} → NN δ → δ ≤q small → Within (exp₄₀ δ -q exp_sum 1 δ) (δ *q exp_sum 39 small)
unfolding sum
first_on {δ} h l =
    subst₂ Within (solveq x1 ((x0 :+ x1) :- (x0 :+ k0)) (exp_term δ 0 ∷ sum (shift (exp_term δ)) 39 ∷ []) tt) (sum_scale δ (exp_term small) 39)
    (sum_within (shift (exp_term δ)) (λ n. δ *q exp_term small n) each 39)
  where
    each : (n : ℕ) → Within (exp_term δ (suc n)) (δ *q exp_term small n)
    each n = each_term h l n

rest_ok : one+ *q (exp_sum 39 small) +q one+ *q (exp_sum 39 small) ≤q (nat 201 over 100)
unfolding nn whole inv ◌+q◌ ◌*q◌ negq sum exp_term
rest_ok = record { diff = record { is = tt } }

second : {δ : ℚ} → NN δ → NN (exp_sum 2 δ -q exp_sum 1 δ)
unfolding sum
second {δ} h = nnby ((x0 :+ (x1 :+ k0)) :- (x0 :+ k0)) x1 (exp_term δ 0 ∷ exp_term δ 1 ∷ []) tt (exp_nn h 1)

-- a step of δ moves sine and cosine by at most 2.01 δ and 10⁻¹⁵
pub linear : {δ : ℚ} → NN δ → δ ≤q small → step δ ≤q ε +q δ *q (nat 201 over 100)
linear {δ} h l =
    leby (x0 :+ x1 :* (x2 :- x3) :+ x1 :* (x2 :- x4)) (x0 :+ x5 :* x6)
    (x1 :* (x5 :* x7 :- (x2 :- x4)) :+ x1 :* ((x5 :* x7 :- (x2 :- x4)) :+ (x3 :- x4)) :+ x5 :* (x6 :- (x1 :* x7 :+ x1 :* x7)))
    (ε ∷ one+ ∷ exp₄₀ δ ∷ exp_sum 2 δ ∷ exp_sum 1 δ ∷ δ ∷ (nat 201 over 100) ∷ exp_sum 39 small ∷ []) tt
    (one+_nn ∗ (first_on h l).hi ⊹ one+_nn ∗ ((first_on h l).hi ⊹ second h) ⊹ h ∗ rest_ok.diff)
