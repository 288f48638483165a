-- Whole numbers and floors among the fractions: what a floor takes away is from 0 up to 1.
use mathlib.Core.List.{[], ◌∷◌}
use mathlib.Core.Path.{◌∙◌, ◌≡◌, ap, subst, sym}
use mathlib.Core.Quot.{mk, sound, ind}
use Prim.Native.Nat.{◌*◌, ◌+◌, ◌-◌, ◌/◌, ◌≤◌, suc, ℕ}
use native.Mathlib.Nat.{add-sub_of_le, zero-lt-suc}
use native.Mathlib.Omega.{arith}
use lib.Dec.{T, T_prop}
use lib.IntN.{◌*ℤ◌, negsuc, pos, ℤ}
use Rattle.arithmetic.specs.Floor.{◌modulo◌, ⌊◌÷◌⌋}
use Rattle.arithmetic.specs.Ratio.{Ratio, den}
use Rattle.arithmetic.proofs.FloorLaws.{modulo_below, split}
use Rattle.arithmetic.proofs.Integers.{solveℤ}
use Rattle.arithmetic.proofs.RatioLaws.{den_times}
use Rattle.arithmetic.proofs.Solver.{◌:*◌, ◌:+◌, ◌:-◌, con, k1, x0, x1, x2, x3}
use Rattle.exact.specs.Fraction.{NN, Within, ◌*q◌, ◌+q◌, ◌-q◌, ◌over◌, floor, inv, nat, nn, whole, ℚ}
use Rattle.exact.proofs.FractionLaws.{inv_mul, linq, whole_add, whole_mul}
use Rattle.exact.proofs.Order.{◌∗◌, ◌⊹◌, nn_int, nn_inv, nnby}

pub nat_add : (a b : ℕ) → nat (a + b) ≡ nat a +q nat b
nat_add a b = whole_add (pos a) (pos b)

pub nat_mul : (a b : ℕ) → nat (a * b) ≡ nat a *q nat b
nat_mul a b = whole_mul (pos a) (pos b)

pub nat_sub : {a b : ℕ} → a ≤ b → nat (b - a) ≡ nat b -q nat a
nat_sub {a} {b} h = linq x0 (x1 :- x2) (con (negsuc 0)) x1 (x2 :+ x0) (nat (b - a) ∷ nat b ∷ nat a ∷ []) tt (ap nat (sym (add-sub_of_le h)) ∙ nat_add a (b - a))

pub nat_le : {a b : ℕ} → a ≤ b → NN (nat b -q nat a)
nat_le {a} {b} h = subst NN (nat_sub h) (nn_int (b - a))

-- a number in 0 to b
pub record In (x b : ℚ) : Type 0 where
  pub lo : NN x
  pub hi : NN (b -q x)

pub in_within : {x b : ℚ} → In x b → Within x b
in_within {x} {b} h = record { lo = nnby (x1 :+ x0) ((x1 :- x0) :+ x0 :+ x0) (x ∷ b ∷ []) tt (h.hi ⊹ h.lo ⊹ h.lo); hi = h.hi }

pub nat_suc : (n : ℕ) → nat (suc n) ≡ nat n +q nat 1
nat_suc n = ap nat (e n) ∙ nat_add n 1
  where
    e : (n : ℕ) → suc n ≡ n + 1
    e n = omega arith

-- ---- ⌊ a ÷ d + 1 ⌋ and what it leaves
module _ (a : ℤ) (d : ℕ) where
  pub whole_split : whole a ≡ nat (suc d) *q whole ⌊ a ÷ suc d ⌋ +q nat (a modulo suc d)
  whole_split =
      ap whole (split a (zero-lt-suc d))
      ∙ whole_add (pos (suc d) *ℤ ⌊ a ÷ suc d ⌋) (pos (a modulo suc d))
      ∙ ap (λ (q : ℚ). q +q nat (a modulo suc d)) (whole_mul (pos (suc d)) ⌊ a ÷ suc d ⌋)

  left : whole a over suc d -q whole ⌊ a ÷ suc d ⌋ ≡ nat (a modulo suc d) over suc d
  left =
      ap (λ (q : ℚ). q over suc d -q whole ⌊ a ÷ suc d ⌋) whole_split
      ∙ linq ((x0 :* x1 :+ x2) :* x3 :- x1) (x2 :* x3) x1 (x0 :* x3) k1
      (nat (suc d) ∷ whole ⌊ a ÷ suc d ⌋ ∷ nat (a modulo suc d) ∷ inv d ∷ []) tt (inv_mul d)

  pub floor_in : In (whole a over suc d -q whole ⌊ a ÷ suc d ⌋) (nat 1)
  floor_in = record {
    lo = subst NN (sym left) (nn_int (a modulo suc d) ∗ nn_inv d);
    hi =
        subst (λ (q : ℚ). NN (nat 1 -q q)) (sym left)
        (subst NN (linq ((x0 :- x1) :* x2) (k1 :- x1 :* x2) k1 (x0 :* x2) k1 (nat (suc d) ∷ nat (a modulo suc d) ∷ inv d ∷ []) tt (inv_mul d))
        (nat_le (below a d) ∗ nn_inv d));
  }
    where
      below : (a : ℤ) (d : ℕ) → a modulo suc d ≤ suc d
      below a d = omega (arith, modulo_below a (zero-lt-suc d))

  pub floor_within : Within (whole a over suc d -q whole ⌊ a ÷ suc d ⌋) (nat 1)
  floor_within = in_within floor_in

-- the same for natural numbers
pub div_within : (a d : ℕ) → Within (nat a over suc d -q nat (a / suc d)) (nat 1)
unfolding ⌊◌÷◌⌋
div_within a d = floor_within (pos a) d

-- ---- the floor of a fraction
at_ratio : (x : Ratio) → mk x ≡ whole x.num over suc x.den_1
unfolding whole inv ◌*q◌
at_ratio x = sound (go x.num (den x) _ (den_times 0 x.den_1))
  where
    go : (a s l : ℤ) → l ≡ pos 1 *ℤ s → a *ℤ l ≡ (a *ℤ pos 1) *ℤ s
    go a s l h = rw h (solveℤ (x0 :* (k1 :* x1)) ((x0 :* k1) :* x1) (a ∷ s ∷ []) tt)

-- what is left at a ratio, for a statement that `nn` tests
module _ (f : ℚ → ℚ) (h : (a : ℤ) (d : ℕ) → NN (f (whole a over suc d -q whole ⌊ a ÷ suc d ⌋))) where
  at_floor : (p : ℚ) → T (nn (f (p -q whole (floor p))))
  unfolding floor
  at_floor p =
      ind {β = λ p. T (nn (f (p -q whole (floor p))))} (λ p. T_prop (nn (f (p -q whole (floor p)))))
      (λ x. (subst (λ q. NN (f (q -q whole ⌊ x.num ÷ suc x.den_1 ⌋))) (sym (at_ratio x)) (h x.num x.den_1)).is) p

pub fraction_floor : (p : ℚ) → In (p -q whole (floor p)) (nat 1)
fraction_floor p = record {
  lo = record { is = at_floor (λ q. q) (λ a d. (floor_in a d).lo) p };
  hi = record { is = at_floor (λ q. nat 1 -q q) (λ a d. (floor_in a d).hi) p };
}
