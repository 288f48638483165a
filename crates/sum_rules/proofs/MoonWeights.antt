-- The Moon's E, its square and the weights of its rows, against the exact ones, where T is within reach.
use mathlib.Core.List.{[], ◌∷◌}
use mathlib.Core.Path.{◌≡◌, refl, subst, sym}
use mathlib.Core.Quot.{sound}
use Prim.Native.Nat.{suc, zero, ℕ}
use lib.IntN.{◌*ℤ◌, ◌+ℤ◌, nat_abs, pos, ℤ}
use Rattle.arithmetic.specs.Floor.{⌊◌÷◌⌋}
use Rattle.arithmetic.proofs.Solver.{◌:*◌, ◌:+◌, ◌:-◌, con, k1, x0, x1, x2, x3}
use Rattle.exact.specs.Fraction.{Within, ◌*q◌, ◌+q◌, ◌-q◌, ◌over◌, ◌≤q◌, inv, nat, negq, nn, whole, ℚ}
use Rattle.exact.proofs.FractionLaws.{solveq, whole_mul}
use Rattle.exact.proofs.Order.{nn_int, nn_inv, within_le, within_mul, within_self, within_sub}
use Rattle.sum_rules.specs.ExactSums.{centuries}
use Rattle.sum_rules.specs.Instant.{minus, p2, u}
use Rattle.sum_rules.proofs.FloorsNear.{floored_scaled, floored_term, near_add, near_small, same_near, size_within}
use Rattle.sum_rules.proofs.PowersNear.{million, p2_error, p2_near, product_error, product_near, reach, u_near}
use Rattle.sum_rules.specs.Moon as Moon
use Rattle.sum_rules.specs.ExactSums as Exact

-- ---- errors and sizes
-- E is off by little more than its two floors, E² by twice that and its own
abbrev E_error : ℚ
E_error = nat 201 over 100

abbrev E2_error : ℚ
E2_error = nat 504 over 100

-- above the exact E, above the whole one, and above the factor of every weight
abbrev E_most : ℚ
E_most = nat 1003 over 1000

abbrev E_size : ℚ
E_size = nat 1_003_003

abbrev factor_most : ℚ
factor_most = nat 102 over 100

abbrev size : ℤ → ℚ
size l = nat (nat_abs l)

-- of l times e over d, floored, where e is off by an error
abbrev floored_error : ℤ → ℚ → ℕ → ℚ
floored_error l error d = size l *q error over d +q nat 1

-- of the weight l, by the size m of its row's column 1
unfoldable pub weight_error : ℕ → ℤ → ℚ
weight_error zero l = nat 0
weight_error (suc zero) l = floored_error l E_error 10_000
weight_error (suc (suc m)) l = floored_error l E2_error 10_000

abbrev pub weight_size : ℕ → ℤ → ℚ
weight_size m l = weight_error m l +q nat 100 *q (size l *q factor_most)

-- ---- closed numbers
abbrev floors_error : ℚ
floors_error = nat 0 +q floored_error (minus 2516) (nat 1) 1_000_000 +q floored_error (minus 74) p2_error 10_000_000

E_ok : floors_error ≤q E_error
unfolding nn whole inv ◌+q◌ ◌*q◌ negq
E_ok = record { diff = record { is = tt } }

E_most_ok : nat 1 +q nat 2516 *q reach over 1_000_000 +q nat 74 *q (reach *q reach) over 10_000_000 ≤q E_most
unfolding nn whole inv ◌+q◌ ◌*q◌ negq
E_most_ok = record { diff = record { is = tt } }

E_size_ok : E_error +q million *q E_most ≤q E_size
unfolding nn whole inv ◌+q◌ ◌*q◌ negq
E_size_ok = record { diff = record { is = tt } }

E2_ok : product_error E_size E_most E_error E_error ≤q E2_error
unfolding nn whole inv ◌+q◌ ◌*q◌ negq
E2_ok = record { diff = record { is = tt } }

factor_0 : nat 1 ≤q factor_most
unfolding nn whole inv ◌+q◌ ◌*q◌ negq
factor_0 = record { diff = record { is = tt } }

factor_1 : E_most ≤q factor_most
unfolding nn whole inv ◌+q◌ ◌*q◌ negq
factor_1 = record { diff = record { is = tt } }

factor_2 : E_most *q E_most ≤q factor_most
unfolding nn whole inv ◌+q◌ ◌*q◌ negq
factor_2 = record { diff = record { is = tt } }

hundred : million over 10_000 ≡ nat 100
unfolding whole inv ◌*q◌
hundred = sound refl

module _ (n : ℤ) (bound : Within (centuries n) reach) where
  abbrev time : ℚ
  time = centuries n

  -- ---- E and its square
  abbrev E : ℚ
  E = Exact.E time

  E_near : Within (whole (Moon.E n) -q million *q E) E_error
  unfolding Moon.E
  E_near =
      within_le
      (subst (λ z. Within (whole (Moon.E n) -q z) floors_error)
      (solveq (x0 :+ con (minus 2516) :* (x0 :* x1) :* x2 :+ con (minus 74) :* (x0 :* (x1 :* x1)) :* x3)
      (x0 :* (k1 :- con (pos 2516) :* x1 :* x2 :- con (pos 74) :* (x1 :* x1) :* x3)) (million ∷ time ∷ inv 999_999 ∷ inv 9_999_999 ∷ []) tt)
      (near_add (pos 1_000_000 +ℤ ⌊ minus 2516 *ℤ u n ÷ 1_000_000 ⌋) ⌊ minus 74 *ℤ p2 n ÷ 10_000_000 ⌋ _ _
      (near_add (pos 1_000_000) ⌊ minus 2516 *ℤ u n ÷ 1_000_000 ⌋ _ _ (same_near million)
      (floored_term (minus 2516) (u n) 999_999 (million *q time) (u_near n bound)))
      (floored_term (minus 74) (p2 n) 9_999_999 (million *q (time *q time)) (p2_near n bound))))
      E_ok

  E_exact : Within E E_most
  E_exact =
      within_le
      (within_sub
      (within_sub (within_self (nn_int 1)) (within_mul (within_mul (within_self (nn_int 2516)) bound) (within_self (nn_inv 999_999))))
      (within_mul (within_mul (within_self (nn_int 74)) (within_mul bound bound)) (within_self (nn_inv 9_999_999))))
      E_most_ok

  E_within : Within (whole (Moon.E n)) E_size
  E_within =
      within_le (near_small (whole (Moon.E n)) (million *q E) E_near (within_mul (within_self (nn_int 1_000_000)) E_exact)) E_size_ok

  E2_near : Within (whole (Moon.E2 n) -q million *q (E *q E)) E2_error
  unfolding Moon.E2
  E2_near = within_le (product_near (Moon.E n) (Moon.E n) E E E_within E_exact E_near E_near) E2_ok

  -- ---- weights
  pub weight_near : (m : ℕ) (l : ℤ) → Within (whole (Moon.weight (Moon.eccentricity n) m l) -q nat 100 *q Exact.weight time m l) (weight_error m l)
  unfolding Moon.weight Exact.weight weight_error
  weight_near zero l = subst (λ z. Within (z -q nat 100 *q whole l) (nat 0)) (sym (whole_mul (pos 100) l)) (same_near (nat 100 *q whole l))
  weight_near (suc zero) l = floored_scaled l (Moon.E n) 9_999 million (nat 100) E hundred E_near
  weight_near (suc (suc m)) l = floored_scaled l (Moon.E2 n) 9_999 million (nat 100) (E *q E) hundred E2_near

  weight_exact : (m : ℕ) (l : ℤ) → Within (Exact.weight time m l) (size l *q factor_most)
  unfolding Exact.weight
  weight_exact zero l =
      subst (λ z. Within z (size l *q factor_most)) (solveq (x0 :* k1) x0 (whole l ∷ []) tt)
      (within_mul (size_within l) (within_le (within_self (nn_int 1)) factor_0))
  weight_exact (suc zero) l = within_mul (size_within l) (within_le E_exact factor_1)
  weight_exact (suc (suc m)) l = within_mul (size_within l) (within_le (within_mul E_exact E_exact) factor_2)

  pub weight_within : (m : ℕ) (l : ℤ) → Within (whole (Moon.weight (Moon.eccentricity n) m l)) (weight_size m l)
  weight_within m l =
      near_small (whole (Moon.weight (Moon.eccentricity n) m l)) (nat 100 *q Exact.weight time m l) (weight_near m l)
      (within_mul (within_self (nn_int 100)) (weight_exact m l))
