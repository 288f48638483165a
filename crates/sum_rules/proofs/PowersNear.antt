-- The powers of T and the polynomials in it, against the exact ones: T is n over the century, in whatever unit of time.
use mathlib.Core.Bool.{Bool, ◌&&◌, false, true}
use mathlib.Core.List.{[], ◌∷◌}
use mathlib.Core.Path.{◌∙◌, ◌≡◌, ap, refl, subst}
use mathlib.Core.Quot.{sound}
use Prim.Native.Nat.{◌-◌, suc, zero, ℕ}
use lib.Dec.{T}
use lib.IntN.{◌*ℤ◌, ◌+ℤ◌, nat_abs, pos, ℤ}
use Rattle.arithmetic.specs.Floor.{⌊◌÷◌⌋}
use Rattle.arithmetic.proofs.Solver.{◌:*◌, ◌:+◌, k1, neg', x0, x1, x2, x3, x4, x5, x6, x7, x8, x9}
use Rattle.exact.specs.Fraction.{Within, ◌*q◌, ◌+q◌, ◌-q◌, ◌over◌, ◌≤q◌, inv, nat, negq, nn, whole, ℚ}
use Rattle.exact.proofs.FractionLaws.{inv_mul, linq, linq₂, solveq, whole_mul}
use Rattle.exact.proofs.Order.{nn_int, within_le, within_mul, within_self}
use Rattle.sum_rules.specs.ExactSums.{centuries, degrees}
use Rattle.sum_rules.specs.Instant.{century, p2, p3, p4, polynomial, u, value}
use Rattle.sum_rules.specs.declared.instant.Polynomial.{Polynomial}
use Rattle.sum_rules.proofs.AnglesNear.{Agrees, agrees_near, agrees_reduced, degree}
use Rattle.sum_rules.proofs.FloorsNear.{floored_multiple, floored_product, floored_term, near_add, near_over, near_small, same_near}

-- no accepted T is larger
abbrev pub reach : ℚ
reach = nat 1011 over 1000

abbrev pub million : ℚ
million = nat 1_000_000

-- ---- errors of u, p2, p3 and p4, and sizes
abbrev u_size : ℚ
u_size = nat 1_011_001

abbrev pub p2_error : ℚ
p2_error = nat 304 over 100

abbrev p2_size : ℚ
p2_size = nat 1_022_130

abbrev p3_error : ℚ
p3_error = nat 51 over 10

abbrev p4_error : ℚ
p4_error = nat 73 over 10

-- of a times b over a million, where a and b are near a million times x and y
abbrev pub product_error : ℚ → ℚ → ℚ → ℚ → ℚ
product_error size size' error error' = size *q (error' over 1_000_000) +q size' *q error +q nat 1

u_ok : nat 1 +q million *q reach ≤q u_size
unfolding nn whole inv ◌+q◌ ◌*q◌ negq
u_ok = record { diff = record { is = tt } }

p2_ok : product_error u_size reach (nat 1) (nat 1) ≤q p2_error
unfolding nn whole inv ◌+q◌ ◌*q◌ negq
p2_ok = record { diff = record { is = tt } }

p2_size_ok : p2_error +q million *q (reach *q reach) ≤q p2_size
unfolding nn whole inv ◌+q◌ ◌*q◌ negq
p2_size_ok = record { diff = record { is = tt } }

p3_ok : product_error p2_size reach p2_error (nat 1) ≤q p3_error
unfolding nn whole inv ◌+q◌ ◌*q◌ negq
p3_ok = record { diff = record { is = tt } }

p4_ok : product_error p2_size (reach *q reach) p2_error p2_error ≤q p4_error
unfolding nn whole inv ◌+q◌ ◌*q◌ negq
p4_ok = record { diff = record { is = tt } }

in_millions : {x b : ℚ} → Within x b → Within (million *q x) (million *q b)
in_millions h = within_mul (within_self (nn_int 1_000_000)) h

pub product_near : (a b : ℤ) (x y : ℚ) {size size' error error' : ℚ} → Within (whole a) size → Within y size'
    → Within (whole a -q million *q x) error → Within (whole b -q million *q y) error'
    → Within (whole ⌊ a *ℤ b ÷ 1_000_000 ⌋ -q million *q (x *q y)) (product_error size size' error error')
product_near a b x y {size} {size'} {error} {error'} small small' near near' =
    subst (λ z. Within (whole ⌊ a *ℤ b ÷ 1_000_000 ⌋ -q z) (product_error size size' error error'))
    (solveq (x0 :* x1 :* x2) (x0 :* (x1 :* x2)) (million ∷ x ∷ y ∷ []) tt)
    (floored_product a b 999_999 (million *q x) y small small' near
    (near_over b 999_999 (million *q y) y
    (linq (x0 :* x1 :* x2) x1 x1 (x0 :* x2) k1 (million ∷ y ∷ inv 999_999 ∷ []) tt (inv_mul 999_999)) near'))

-- ---- polynomials
hundred_millions : nat 100 *q million ≡ degree
unfolding whole ◌*q◌
hundred_millions = sound refl

abbrev polynomial_error : ℤ → ℤ → ℕ → ℤ → ℕ → ℚ
polynomial_error c2 s3 k3 s4 k4 = nat 0 +q nat 1
    +q (nat (nat_abs c2) *q p2_error over 1_000_000 +q nat 1)
    +q (nat (nat_abs (pos 100 *ℤ s3)) *q p3_error over k3 +q nat 1)
    +q (nat (nat_abs (pos 100 *ℤ s4)) *q p4_error over k4 +q nat 1)

abbrev pub argument_error : ℚ
argument_error = nat 7

abbrev above_zero : ℕ → Bool
above_zero zero = false
above_zero (suc d) = true

abbrev near_enough_by : ℤ → ℤ → ℕ → ℤ → ℕ → Bool
near_enough_by c2 s3 k3 s4 k4 = above_zero k3 && (above_zero k4 && nn (argument_error -q polynomial_error c2 s3 k3 s4 k4))

-- the test of a polynomial: k3 and k4 are above zero, and its error is at most 7 units
unfoldable pub near_enough : Polynomial → Bool
near_enough p = near_enough_by p.c2 p.s3 p.k3 p.s4 p.k4

module _ (n : ℤ) (bound : Within (centuries n) reach) where
  abbrev time : ℚ
  time = centuries n

  pub u_near : Within (whole (u n) -q million *q time) (nat 1)
  unfolding u
  u_near = floored_multiple (pos 1_000_000) n (century - 1)

  u_within : Within (whole (u n)) u_size
  u_within = within_le (near_small (whole (u n)) (million *q time) u_near (in_millions bound)) u_ok

  pub p2_near : Within (whole (p2 n) -q million *q (time *q time)) p2_error
  unfolding p2
  p2_near = within_le (product_near (u n) (u n) time time u_within bound u_near u_near) p2_ok

  p2_within : Within (whole (p2 n)) p2_size
  p2_within = within_le (near_small (whole (p2 n)) (million *q (time *q time)) p2_near (in_millions (within_mul bound bound))) p2_size_ok

  p3_near : Within (whole (p3 n) -q million *q (time *q time *q time)) p3_error
  unfolding p3
  p3_near = within_le (product_near (p2 n) (u n) (time *q time) time p2_within bound p2_near u_near) p3_ok

  p4_near : Within (whole (p4 n) -q million *q (time *q time *q (time *q time))) p4_error
  unfolding p4
  p4_near = within_le (product_near (p2 n) (p2 n) (time *q time) (time *q time) p2_within (within_mul bound bound) p2_near p2_near) p4_ok

  -- the term s x / (d + 1), of s degrees
  degrees_term : (s p : ℤ) (d : ℕ) (x : ℚ) {error : ℚ} → Within (whole p -q million *q x) error
      → Within (whole ⌊ pos 100 *ℤ s *ℤ p ÷ suc d ⌋ -q degree *q (whole s *q x over suc d))
      (nat (nat_abs (pos 100 *ℤ s)) *q error over suc d +q nat 1)
  degrees_term s p d x {error} near =
      subst (λ z. Within (whole ⌊ pos 100 *ℤ s *ℤ p ÷ suc d ⌋ -q z) (nat (nat_abs (pos 100 *ℤ s)) *q error over suc d +q nat 1))
      (ap (λ z. z *q (million *q x) over suc d) (whole_mul (pos 100) s)
      ∙ linq (x0 :* x1 :* (x2 :* x3) :* x4) (x5 :* (x1 :* x3 :* x4)) (x1 :* x3 :* x4) (x0 :* x2) x5
      (nat 100 ∷ whole s ∷ million ∷ x ∷ inv d ∷ degree ∷ []) tt hundred_millions)
      (floored_term (pos 100 *ℤ s) p d (million *q x) near)

  module _ (c0 c1 c2 s3 : ℤ) (d3 : ℕ) (s4 : ℤ) (d4 : ℕ) where
    abbrev whole_part : ℤ
    whole_part = c0 +ℤ ⌊ c1 *ℤ n ÷ century ⌋ +ℤ ⌊ c2 *ℤ p2 n ÷ 1_000_000 ⌋

    abbrev third : ℤ
    third = ⌊ pos 100 *ℤ s3 *ℤ p3 n ÷ suc d3 ⌋

    abbrev fourth : ℤ
    fourth = ⌊ pos 100 *ℤ s4 *ℤ p4 n ÷ suc d4 ⌋

    abbrev exact : ℚ
    exact = degrees time (polynomial c0 c1 c2 s3 (suc d3) s4 (suc d4))

    terms_near : Within (whole (whole_part +ℤ third +ℤ fourth) -q degree *q exact) (polynomial_error c2 s3 (suc d3) s4 (suc d4))
    terms_near =
        subst (λ z. Within (whole (whole_part +ℤ third +ℤ fourth) -q z) (polynomial_error c2 s3 (suc d3) s4 (suc d4)))
        (linq₂ (x0 :+ x1 :* x2 :+ x3 :* (x4 :* (x2 :* x2)) :* x5 :+ x6 :* x8 :+ x6 :* x9)
        (x6 :* ((x0 :+ x1 :* x2 :+ x3 :* (x2 :* x2)) :* x7 :+ x8 :+ x9))
        (x3 :* (x2 :* x2)) (x4 :* x5) k1 (neg' (x0 :+ x1 :* x2 :+ x3 :* (x2 :* x2))) (x6 :* x7) k1
        (whole c0 ∷ whole c1 ∷ time ∷ whole c2 ∷ million ∷ inv 999_999 ∷ degree ∷ inv 99_999_999 ∷ by_cube ∷ by_fourth ∷ []) tt
        (inv_mul 999_999) (inv_mul 99_999_999))
        (near_add (whole_part +ℤ third) fourth _ _
        (near_add whole_part third _ _
        (near_add (c0 +ℤ ⌊ c1 *ℤ n ÷ century ⌋) ⌊ c2 *ℤ p2 n ÷ 1_000_000 ⌋ _ _
        (near_add c0 ⌊ c1 *ℤ n ÷ century ⌋ _ _ (same_near (whole c0)) (floored_multiple c1 n (century - 1)))
        (floored_term c2 (p2 n) 999_999 (million *q (time *q time)) p2_near))
        (degrees_term s3 (p3 n) d3 (time *q time *q time) p3_near))
        (degrees_term s4 (p4 n) d4 (time *q time *q (time *q time)) p4_near))
      where
        by_cube : ℚ
        by_cube = whole s3 *q (time *q time *q time) over suc d3

        by_fourth : ℚ
        by_fourth = whole s4 *q (time *q time *q (time *q time)) over suc d4

  -- THE ARGUMENT of a polynomial: it agrees with its degrees, but for 7 units
  pub argument_near : (p : Polynomial) → T (near_enough p) → Agrees (pos (value p n)) (degrees time p) argument_error
  unfolding near_enough value
  argument_near p h = agrees_reduced (agrees_near (degrees time p) (go p.k3 p.k4 h))
    where
      go : (k3 k4 : ℕ) → T (near_enough_by p.c2 p.s3 k3 p.s4 k4)
          → Within (whole (p.c0 +ℤ ⌊ p.c1 *ℤ n ÷ century ⌋ +ℤ ⌊ p.c2 *ℤ p2 n ÷ 1_000_000 ⌋
          +ℤ ⌊ pos 100 *ℤ p.s3 *ℤ p3 n ÷ k3 ⌋ +ℤ ⌊ pos 100 *ℤ p.s4 *ℤ p4 n ÷ k4 ⌋)
          -q degree *q degrees time (polynomial p.c0 p.c1 p.c2 p.s3 k3 p.s4 k4)) argument_error
      go zero k4 h = absurd h
      go (suc d3) zero h = absurd h
      go (suc d3) (suc d4) h = within_le (terms_near p.c0 p.c1 p.c2 p.s3 d3 p.s4 d4) (record { diff = record { is = h } })
