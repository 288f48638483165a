-- The whole-number sine of an angle from 0 to 90 degrees lies within 5.1 units of the reference's series.
use mathlib.Core.List.{[], ◌∷◌}
use mathlib.Core.Path.{◌∙◌, ◌≡◌, ap, ap₂, refl, subst, subst₂, sym}
use mathlib.Core.Quot.{sound}
use Prim.Native.Nat.{◌%◌, ◌*◌, ◌+◌, ◌-◌, ◌/◌, ◌<◌, ◌^◌, ◌≤◌, ℕ}
use native.Mathlib.Nat.{div-add-mod', mod-lt}
use native.Mathlib.Omega.{arith}
use lib.Dec.{lit<, lit≤}
use Rattle.arithmetic.proofs.Solver.{◌:*◌, ◌:+◌, ◌:-◌, k0, k1, neg', x0, x1, x10, x11, x2, x3, x4, x5, x6, x7, x8, x9}
use Rattle.exact.specs.Fraction.{NN, Within, ◌*q◌, ◌+q◌, ◌-q◌, ◌over◌, ◌≤q◌, inv, nat, negq, nn, whole, ℚ}
use Rattle.exact.specs.Reference.{sum}
use Rattle.exact.proofs.Addition.{cos_term, cos_within, cos₄₀, exp_sum, exp_term, exp₄₀, sin_term, sin_within, sin₄₀}
use Rattle.exact.proofs.Floors.{div_within, in_within, nat_add, nat_le, nat_mul, nat_sub}
use Rattle.exact.proofs.FractionLaws.{inv_mul, linq, linq₂, solveq}
use Rattle.exact.proofs.Horner.{inv_0}
use Rattle.exact.proofs.Order.{nn_int, nn_inv, within_add, within_le, within_mul, within_neg, within_self, within_sub}
use Rattle.exact.proofs.ReferenceLaws.{radian}
use Rattle.exact.proofs.Rotation.{quarter_on, sine_wave, tiny, π/2}
use Rattle.exact.proofs.Series.{sum_within, tail_within}
use Rattle.exact.proofs.UnitCircle.{cos_even, sine_sum, wide, wider, ε}
use Rattle.number_rules.specs.Angle.{quarter_turn}
use Rattle.number_rules.specs.Sine.{entry, quarter_sine, radians, rest_cosine, rest_sine}
use Rattle.number_rules.proofs.SineSteps.{cosine_fits, sine_fits}
use Rattle.number_rules.proofs.SineTableLaws.{billion, entry_sine, entry_small, half, quarters}

-- one unit, 10⁻⁸ degree, in radians
abbrev pub unit : ℚ
unit = radian over 100_000_000

-- ---- closed numbers
by_1 : billion over 1_000_000_000 ≡ nat 1
by_1 = inv_mul 999_999_999

by_2 : billion over 2_000_000_000 ≡ half
unfolding whole inv ◌*q◌
by_2 = sound refl

abbrev sixth : ℚ
sixth = nat 1 over 6

by_6 : billion over 6_000_000_000 ≡ sixth
unfolding whole inv ◌*q◌
by_6 = sound refl

half_is : inv 1 ≡ half
unfolding whole inv ◌*q◌
half_is = sound refl

sixth_is : inv 1 *q inv 2 ≡ sixth
unfolding whole inv ◌*q◌
sixth_is = sound refl

quarter_units : inv 3 *q radian ≡ nat 25_000_000 *q unit
unfolding whole inv ◌*q◌
quarter_units = sound refl

whole_quarter : nat 360 *q inv 3 *q radian ≡ π/2
unfolding whole inv ◌*q◌
whole_quarter = sound refl

pub unit_nn : NN unit
unfolding nn whole inv ◌*q◌
unit_nn = record { is = tt }

radian_nn : NN radian
unfolding nn whole inv ◌*q◌
radian_nn = record { is = tt }

-- a rest of a quarter degree, in radians, is at most this
abbrev most : ℚ
most = nat 44 over 10_000

most_ok : nat 25_000_000 *q unit ≤q most
unfolding nn whole inv ◌+q◌ ◌*q◌ negq
most_ok = record { diff = record { is = tt } }

-- the rule's radian for a unit, and the true one
radian_near : Within (nat 1_745_329_252 over 10_000_000_000 -q billion *q unit) (nat 1 over 10 ^ 12)
unfolding nn whole inv ◌+q◌ ◌*q◌ negq
radian_near = record { lo = record { is = tt }; hi = record { is = tt } }

abbrev radians_error : ℚ
radians_error = nat 1001 over 1000

radians_ok : nat 25_000_000 *q (nat 1 over 10 ^ 12) +q nat 1 ≤q radians_error
unfolding nn whole inv ◌+q◌ ◌*q◌ negq
radians_ok = record { diff = record { is = tt } }

abbrev cos_tail : ℚ
cos_tail = nat 16 over 10 ^ 12

cos_tail_ok : exp₄₀ most -q exp_sum 4 most ≤q cos_tail
unfolding nn whole inv ◌+q◌ ◌*q◌ negq sum exp_term
cos_tail_ok = record { diff = record { is = tt } }

abbrev sin_tail : ℚ
sin_tail = nat 2 over 10 ^ 14

sin_tail_ok : exp₄₀ most -q exp_sum 5 most ≤q sin_tail
unfolding nn whole inv ◌+q◌ ◌*q◌ negq sum exp_term
sin_tail_ok = record { diff = record { is = tt } }

abbrev exp_most : ℚ
exp_most = nat 1005 over 1000

exp_ok : exp₄₀ most ≤q exp_most
unfolding nn whole inv ◌+q◌ ◌*q◌ negq sum exp_term
exp_ok = record { diff = record { is = tt } }

angle_ok : nat 4_363_323 +q radians_error ≤q nat 4_363_325
unfolding nn whole inv ◌+q◌ ◌*q◌ negq
angle_ok = record { diff = record { is = tt } }

abbrev cosine_error : ℚ
cosine_error = nat 103 over 100

cosine_ok : nat 1 +q radians_error *q (nat 4_363_323 +q nat 4_363_325) over 2_000_000_000 +q billion *q cos_tail ≤q cosine_error
unfolding nn whole inv ◌+q◌ ◌*q◌ negq
cosine_ok = record { diff = record { is = tt } }

abbrev sine_error : ℚ
sine_error = nat 201 over 100

sine_ok : radians_error +q nat 1 +q nat 1 *q (nat 4_363_323 over 6_000_000_000)
    +q radians_error *q (nat 4_363_323 *q nat 4_363_323 +q nat 4_363_323 *q nat 4_363_325 +q nat 4_363_325 *q nat 4_363_325)
    *q (inv 999_999_999 *q inv 5_999_999_999) +q billion *q sin_tail ≤q sine_error
unfolding nn whole inv ◌+q◌ ◌*q◌ negq
sine_ok = record { diff = record { is = tt } }

quarters_ok : nat 360 over 4 *q radian ≤q nat 16 over 10
unfolding nn whole inv ◌+q◌ ◌*q◌ negq
quarters_ok = record { diff = record { is = tt } }

together_ok : nat 16 over 10 +q most ≤q wider
unfolding nn whole inv ◌+q◌ ◌*q◌ negq
together_ok = record { diff = record { is = tt } }

quarter_wide : nat 16 over 10 ≤q wide
unfolding nn whole inv ◌+q◌ ◌*q◌ negq
quarter_wide = record { diff = record { is = tt } }

abbrev half+ : ℚ
half+ = nat 5_001 over 10_000

half_ok : half +q billion *q tiny ≤q half+
unfolding nn whole inv ◌+q◌ ◌*q◌ negq
half_ok = record { diff = record { is = tt } }

abbrev pub quarter_sine_error : ℚ
quarter_sine_error = nat 51 over 10

all_ok : billion over 1_000_000_000 *q cosine_error +q half *q exp_most +q billion over 1_000_000_000 *q sine_error +q half+ *q exp_most
    +q nat 1 +q billion *q ε ≤q quarter_sine_error
unfolding nn whole inv ◌+q◌ ◌*q◌ negq
all_ok = record { diff = record { is = tt } }

-- ---- identities: the rule's numbers against 10⁹ times the series, b is 10⁹ and u the rest in radians
cos_identity : (b u r i g c hf : ℚ) → b *q i ≡ hf
    → (b -q g) -q b *q c ≡ (r *q r *q i -q g) -q (r -q b *q u) *q (r +q b *q u) *q i -q b *q (c -q (nat 1 -q u *q u *q hf))
cos_identity b u r i g c hf h =
    linq ((x0 :- x4) :- x0 :* x5) ((x2 :* x2 :* x3 :- x4) :- (x2 :- x0 :* x1) :* (x2 :+ x0 :* x1) :* x3 :- x0 :* (x5 :- (k1 :- x1 :* x1 :* x6)))
    (neg' (x0 :* x1 :* x1)) (x0 :* x3) x6 (b ∷ u ∷ r ∷ i ∷ g ∷ c ∷ hf ∷ []) tt h

sin_identity : (b u r i j q w s sx : ℚ) → b *q i ≡ nat 1 → b *q j ≡ sx
    → (r -q w) -q b *q s ≡ (r -q b *q u) +q (q *q r *q j -q w) +q (r *q r *q i -q q) *q (r *q j)
    -q (r -q b *q u) *q (r *q r +q r *q (b *q u) +q (b *q u) *q (b *q u)) *q (i *q j) -q b *q (s -q (u -q u *q u *q u *q sx))
sin_identity b u r i j q w s sx h l =
    linq₂ ((x2 :- x6) :- x0 :* x7)
    ((x2 :- x0 :* x1) :+ (x5 :* x2 :* x4 :- x6) :+ (x2 :* x2 :* x3 :- x5) :* (x2 :* x4)
    :- (x2 :- x0 :* x1) :* (x2 :* x2 :+ x2 :* (x0 :* x1) :+ (x0 :* x1) :* (x0 :* x1)) :* (x3 :* x4) :- x0 :* (x7 :- (x1 :- x1 :* x1 :* x1 :* x8)))
    (neg' (x0 :* x1 :* x1 :* x1 :* (x0 :* x4))) (x0 :* x3) k1 (neg' (x0 :* x1 :* x1 :* x1)) (x0 :* x4) x8
    (b ∷ u ∷ r ∷ i ∷ j ∷ q ∷ w ∷ s ∷ sx ∷ []) tt h l

sum_identity : (b i x y c s cu su sa ca f t : ℚ) → b *q i ≡ nat 1
    → f -q b *q t ≡ x *q i *q (c -q b *q cu) +q (x -q b *q sa) *q cu +q y *q i *q (s -q b *q su) +q (y -q b *q ca) *q su
    -q ((x *q c +q y *q s) *q i -q f) -q b *q (t -q (sa *q cu +q ca *q su))
sum_identity b i x y c s cu su sa ca f t h =
    linq (x10 :- x0 :* x11)
    (x2 :* x1 :* (x4 :- x0 :* x6) :+ (x2 :- x0 :* x8) :* x6 :+ x3 :* x1 :* (x5 :- x0 :* x7) :+ (x3 :- x0 :* x9) :* x7
    :- ((x2 :* x4 :+ x3 :* x5) :* x1 :- x10) :- x0 :* (x11 :- (x8 :* x6 :+ x9 :* x7)))
    (x2 :* x6 :+ x3 :* x7) (x0 :* x1) k1 (b ∷ i ∷ x ∷ y ∷ c ∷ s ∷ cu ∷ su ∷ sa ∷ ca ∷ f ∷ t ∷ []) tt h

-- ---- the first terms of the series
cos_4 : (u : ℚ) → sum (cos_term u) 4 ≡ nat 1 -q u *q u *q half
unfolding sum sin_term
cos_4 u =
    linq (k1 :+ (x1 :* neg' (x0 :* k0) :+ (x2 :* neg' (x0 :* (x1 :* (x0 :* k1))) :+ (x3 :* neg' (x0 :* (x2 :* (x0 :* (x1 :* neg' (x0 :* k0))))) :+ k0))))
    (k1 :- x0 :* x0 :* x2) (neg' (x0 :* x0 :* x2)) x1 k1 (u ∷ inv 0 ∷ inv 1 ∷ inv 2 ∷ []) tt inv_0
    ∙ ap (λ z. nat 1 -q u *q u *q z) half_is

sin_5 : (u : ℚ) → sum (sin_term u) 5 ≡ u -q u *q u *q u *q sixth
unfolding sum sin_term
sin_5 u =
    linq₂ (k0 :+ (x1 :* (x0 :* k1) :+ (x2 :* (x0 :* (x1 :* neg' (x0 :* k0))) :+ (x3 :* (x0 :* (x2 :* neg' (x0 :* (x1 :* (x0 :* k1)))))
    :+ (x4 :* (x0 :* (x3 :* neg' (x0 :* (x2 :* (x0 :* (x1 :* neg' (x0 :* k0))))))) :+ k0)))))
    (x0 :- x0 :* x0 :* x0 :* x5) (x0 :- x0 :* x0 :* x0 :* (x2 :* x3)) x1 k1 (neg' (x0 :* x0 :* x0)) (x2 :* x3) x5
    (u ∷ inv 0 ∷ inv 1 ∷ inv 2 ∷ inv 3 ∷ sixth ∷ []) tt inv_0 sixth_is

-- ---- the rest h of a quarter degree
module _ (h : ℕ) (lt : h < 25_000_000) where
  abbrev u : ℚ
  u = nat h *q unit

  abbrev r : ℕ
  r = radians h

  h_within : Within (nat h) (nat 25_000_000)
  h_within = in_within (record { lo = nn_int h; hi = nat_le (omega arith) })

  u_within : Within u most
  u_within = within_le (within_mul h_within (within_self unit_nn)) most_ok

  r_most : r ≤ 4_363_323
  r_most = omega arith

  -- r against 10⁹ u
  r_near : Within (nat r -q billion *q u) radians_error
  r_near =
      within_le
      (subst (λ z. Within z (nat 25_000_000 *q (nat 1 over 10 ^ 12) +q nat 1))
      (solveq (x0 :* (x3 :* x4 :- x2 :* x1) :- ((x3 :* x0) :* x4 :- x5)) (x5 :- x2 :* (x0 :* x1))
      (nat h ∷ unit ∷ billion ∷ nat 1_745_329_252 ∷ inv 9_999_999_999 ∷ nat r ∷ []) tt)
      (within_sub (within_mul h_within radian_near)
      (subst (λ z. Within (z *q inv 9_999_999_999 -q nat r) (nat 1)) (nat_mul 1_745_329_252 h) (div_within (1_745_329_252 * h) 9_999_999_999))))
      radians_ok

  r_within : Within (nat r) (nat 4_363_323)
  r_within = in_within (record { lo = nn_int r; hi = nat_le r_most })

  angle_within : Within (billion *q u) (nat 4_363_325)
  angle_within =
      within_le (subst (λ z. Within z (nat 4_363_323 +q radians_error)) (solveq (x0 :- (x0 :- x1)) x1 (nat r ∷ (billion *q u) ∷ []) tt) (within_sub r_within r_near)) angle_ok

  -- the series at u
  cos_near : Within (cos₄₀ u -q (nat 1 -q u *q u *q half)) cos_tail
  cos_near =
      subst (λ z. Within (cos₄₀ u -q z) cos_tail) (cos_4 u)
      (within_le (tail_within (cos_term u) (exp_term most) (cos_within u_within) (lit≤ tt)) cos_tail_ok)

  sin_near : Within (sin₄₀ u -q (u -q u *q u *q u *q sixth)) sin_tail
  sin_near =
      subst (λ z. Within (sin₄₀ u -q z) sin_tail) (sin_5 u)
      (within_le (tail_within (sin_term u) (exp_term most) (sin_within u_within) (lit≤ tt)) sin_tail_ok)

  -- the rest's cosine against the series
  cosine_near : Within (nat (rest_cosine r) -q billion *q cos₄₀ u) cosine_error
  cosine_near =
      subst (λ z. Within (z -q billion *q cos₄₀ u) cosine_error) (sym (nat_sub (cosine_fits r r_most)))
      (subst (λ z. Within z cosine_error) (sym (cos_identity billion u (nat r) (inv 1_999_999_999) (nat (r * r / 2_000_000_000)) (cos₄₀ u) half by_2))
      (within_le
      (within_sub
      (within_sub (subst (λ z. Within (z *q inv 1_999_999_999 -q nat (r * r / 2_000_000_000)) (nat 1)) (nat_mul r r) (div_within (r * r) 1_999_999_999))
      (within_mul (within_mul r_near (within_add r_within angle_within)) (within_self (nn_inv 1_999_999_999))))
      (within_mul (within_self (nn_int 1_000_000_000)) cos_near))
      cosine_ok))

  -- the rest's sine against the series
  sine_near : Within (nat (rest_sine r) -q billion *q sin₄₀ u) sine_error
  sine_near =
      subst (λ z. Within (z -q billion *q sin₄₀ u) sine_error) (sym (nat_sub (sine_fits r r_most)))
      (subst (λ z. Within z sine_error)
      (sym (sin_identity billion u (nat r) (inv 999_999_999) (inv 5_999_999_999) (nat q) (nat (q * r / 6_000_000_000)) (sin₄₀ u) sixth by_1 by_6))
      (within_le
      (within_sub
      (within_sub
      (within_add
      (within_add r_near (subst (λ z. Within (z *q inv 5_999_999_999 -q nat (q * r / 6_000_000_000)) (nat 1)) (nat_mul q r) (div_within (q * r) 5_999_999_999)))
      (within_mul (subst (λ z. Within (z *q inv 999_999_999 -q nat q) (nat 1)) (nat_mul r r) (div_within (r * r) 999_999_999)) (within_mul r_within (within_self (nn_inv 5_999_999_999)))))
      (within_mul (within_mul r_near (within_add (within_add (within_mul r_within r_within) (within_mul r_within angle_within)) (within_mul angle_within angle_within)))
      (within_mul (within_self (nn_inv 999_999_999)) (within_self (nn_inv 5_999_999_999)))))
      (within_mul (within_self (nn_int 1_000_000_000)) sin_near))
      sine_ok))
    where
      q : ℕ
      q = r * r / 1_000_000_000

-- ---- with the entries at quarter k
module _ (k : ℕ) (le : k ≤ 360) where
  quarters_within : Within (quarters k) (nat 16 over 10)
  quarters_within =
      within_le (within_mul (within_mul (in_within (record { lo = nn_int k; hi = nat_le le })) (within_self (nn_inv 3))) (within_self radian_nn)) quarters_ok

  opposite_is : quarters (360 - k) ≡ negq (quarters k) +q π/2
  opposite_is =
      ap (λ z. z *q inv 3 *q radian) (nat_sub le)
      ∙ linq ((x0 :- x1) :* x2 :* x3) (neg' (x1 :* x2 :* x3) :+ x4) k1 (x0 :* x2 :* x3) x4 (nat 360 ∷ nat k ∷ inv 3 ∷ radian ∷ π/2 ∷ []) tt whole_quarter

  -- the entry that the code reads from the table's other end is the cosine
  entry_cosine : Within (nat (entry (360 - k)) -q billion *q cos₄₀ (quarters k)) half+
  entry_cosine =
      within_le
      (subst (λ z. Within z (half +q billion *q tiny)) (solveq ((x0 :- x1 :* x2) :+ x1 :* (x2 :- x3)) (x0 :- x1 :* x3) (nat (entry (360 - k)) ∷ billion ∷ sin₄₀ (quarters (360 - k)) ∷ cos₄₀ (quarters k) ∷ []) tt)
      (within_add (entry_sine (360 - k) (omega arith)) (within_mul (within_self (nn_int 1_000_000_000)) turned)))
      half_ok
    where
      turned : Within (sin₄₀ (quarters (360 - k)) -q cos₄₀ (quarters k)) tiny
      turned =
          subst₂ (λ x y. Within (sin₄₀ x -q y) tiny) (sym opposite_is) (cos_even (quarters k))
          (quarter_on sine_wave (within_neg (within_le quarters_within quarter_wide)))

  entry_within : (j : ℕ) → j ≤ 360 → Within (nat (entry j)) billion
  entry_within j h = in_within (record { lo = nn_int (entry j); hi = nat_le (entry_small j h) })

  module _ (h : ℕ) (lt : h < 25_000_000) where
    abbrev value : ℕ
    value = (entry k * rest_cosine (radians h) + entry (360 - k) * rest_sine (radians h)) / 1_000_000_000

    floor_near : Within ((nat (entry k) *q nat (rest_cosine (radians h)) +q nat (entry (360 - k)) *q nat (rest_sine (radians h))) *q inv 999_999_999 -q nat value) (nat 1)
    floor_near =
        subst (λ z. Within (z *q inv 999_999_999 -q nat value) (nat 1))
        (nat_add (entry k * rest_cosine (radians h)) (entry (360 - k) * rest_sine (radians h))
        ∙ ap₂ ◌+q◌ (nat_mul (entry k) (rest_cosine (radians h))) (nat_mul (entry (360 - k)) (rest_sine (radians h))))
        (div_within (entry k * rest_cosine (radians h) + entry (360 - k) * rest_sine (radians h)) 999_999_999)

    value_near : Within (nat value -q billion *q sin₄₀ (quarters k +q nat h *q unit)) quarter_sine_error
    value_near =
        subst (λ z. Within z quarter_sine_error)
        (sym (sum_identity billion (inv 999_999_999) (nat (entry k)) (nat (entry (360 - k))) (nat (rest_cosine (radians h))) (nat (rest_sine (radians h)))
        (cos₄₀ (nat h *q unit)) (sin₄₀ (nat h *q unit)) (sin₄₀ (quarters k)) (cos₄₀ (quarters k)) (nat value) (sin₄₀ (quarters k +q nat h *q unit)) by_1))
        (within_le
        (within_sub
        (within_sub
        (within_add
        (within_add
        (within_add (within_mul (within_mul (entry_within k le) (within_self (nn_inv 999_999_999))) (cosine_near h lt))
        (within_mul (entry_sine k le) (within_le (sum_within (cos_term (nat h *q unit)) (exp_term most) (cos_within (u_within h lt)) 40) exp_ok)))
        (within_mul (within_mul (entry_within (360 - k) (omega arith)) (within_self (nn_inv 999_999_999))) (sine_near h lt)))
        (within_mul entry_cosine (within_le (sum_within (sin_term (nat h *q unit)) (exp_term most) (sin_within (u_within h lt)) 40) exp_ok)))
        floor_near)
        (within_mul (within_self (nn_int 1_000_000_000)) (sine_sum quarters_within (u_within h lt) together_ok)))
        all_ok)

-- quarter k and rest h make the angle y
angle_is : (y : ℕ) → quarters (y / 25_000_000) +q nat (y % 25_000_000) *q unit ≡ nat y *q unit
angle_is y =
    linq (x0 :* x1 :* x2 :+ x3 :* x4) ((x0 :* x5 :+ x3) :* x4) x0 (x1 :* x2) (x5 :* x4)
    (nat (y / 25_000_000) ∷ inv 3 ∷ radian ∷ nat (y % 25_000_000) ∷ unit ∷ nat 25_000_000 ∷ []) tt quarter_units
    ∙ ap (λ z. z *q unit)
    (ap (λ z. z +q nat (y % 25_000_000)) (sym (nat_mul (y / 25_000_000) 25_000_000))
    ∙ sym (nat_add (y / 25_000_000 * 25_000_000) (y % 25_000_000))
    ∙ ap nat (div-add-mod' y 25_000_000))

-- from 0 to 90 degrees
pub quarter_near : (y : ℕ) → y ≤ quarter_turn → Within (nat (quarter_sine y) -q billion *q sin₄₀ (nat y *q unit)) quarter_sine_error
unfolding quarter_sine
quarter_near y h =
    subst (λ z. Within (nat (value (y / 25_000_000) (le y h) (y % 25_000_000) (mod-lt y (lit< tt))) -q billion *q sin₄₀ z) quarter_sine_error) (angle_is y)
    (value_near (y / 25_000_000) (le y h) (y % 25_000_000) (mod-lt y (lit< tt)))
  where
    le : (y : ℕ) → y ≤ 9_000_000_000 → y / 25_000_000 ≤ 360
    le y h = omega arith
