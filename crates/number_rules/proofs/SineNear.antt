-- The whole-number sine and cosine lie within 6 units of the reference, at every angle (01, "Sine").
use mathlib.Core.List.{[], ◌∷◌}
use mathlib.Core.Path.{◌∙◌, ◌≡◌, ap, refl, subst, subst₂, sym}
use mathlib.Core.Quot.{sound}
use Prim.Native.Nat.{◌+◌, ◌-◌, ◌<◌, ◌≤◌, ℕ}
use native.Mathlib.Decide.{dec_lt}
use native.Mathlib.Omega.{arith}
use lib.IntN.{◌+ℤ◌, negsuc, neg_ℤ, pos, ℤ}
use Rattle.arithmetic.specs.Floor.{◌modulo◌, ⌊◌÷◌⌋}
use Rattle.arithmetic.proofs.Solver.{◌:*◌, ◌:+◌, ◌:-◌, con, k1, neg', x0, x1, x2, x3, x4}
use Rattle.exact.specs.Fraction.{NN, Within, ◌*q◌, ◌+q◌, ◌-q◌, ◌over◌, ◌≤q◌, inv, nat, negq, nn, whole, ℚ}
use Rattle.exact.specs.Reference.{cos°, sin°, sum, π}
use Rattle.exact.proofs.Addition.{exp_term, sin₄₀}
use Rattle.exact.proofs.Floors.{in_within, nat_add, nat_le, nat_sub, whole_split}
use Rattle.exact.proofs.FractionLaws.{linq, solveq, whole_add, whole_neg}
use Rattle.exact.proofs.Order.{◌∗◌, ◌⊹◌, leby, nn_int, nn_inv, nnby, within_add, within_le, within_mul, within_neg, within_self, within_sub, ≤q_trans}
use Rattle.exact.proofs.ReferenceLaws.{exactly, moving, quarter_error, quarter_on°, radian, sine_reference}
use Rattle.exact.proofs.Rotation.{half_back, half_on, sine_wave, tiny, tiny_nn}
use Rattle.exact.proofs.UnitCircle.{sin_odd, wide}
use Rattle.number_rules.specs.Angle.{full_turn, half_turn, quarter_turn, reduced}
use Rattle.number_rules.specs.SineAccuracy.{CosineNear, SineNear, degrees}
use Rattle.number_rules.specs.Sine.{cosine, fold, half_fold, quarter_sine, sine, sine_at}
use Rattle.number_rules.proofs.QuarterSine.{quarter_near, quarter_sine_error, unit, unit_nn}
use Rattle.number_rules.proofs.SineLaws.{fold_high, fold_low, half_high, half_low, reduced_below, sign_high, sign_low}
use Rattle.number_rules.proofs.SineTableLaws.{billion}

-- ---- closed numbers
abbrev half_error : ℚ
half_error = quarter_sine_error +q billion *q tiny

turn_radians : nat 18_000_000_000 *q unit ≡ π
unfolding whole inv ◌*q◌
turn_radians = sound refl

half_degrees : nat 18_000_000_000 over 100_000_000 ≡ nat 180
unfolding whole inv ◌*q◌
half_degrees = sound refl

half_radians : nat 180 *q radian ≡ π
unfolding whole inv ◌*q◌
half_radians = sound refl

two_halves : nat 180 +q nat 180 ≡ nat 360
unfolding whole ◌+q◌
two_halves = sound refl

full_degrees : nat 36_000_000_000 over 100_000_000 ≡ nat 360
unfolding whole inv ◌*q◌
full_degrees = sound refl

quarter_degrees : nat 9_000_000_000 over 100_000_000 ≡ nat 90
unfolding whole inv ◌*q◌
quarter_degrees = sound refl

half_wide : nat 18_000_000_000 *q unit ≤q wide
unfolding nn whole inv ◌+q◌ ◌*q◌ negq
half_wide = record { diff = record { is = tt } }

more_ok : quarter_sine_error ≤q half_error
unfolding nn whole inv ◌+q◌ ◌*q◌ negq
more_ok = record { diff = record { is = tt } }

-- the sine alone is a little nearer than 6
abbrev sine_error : ℚ
sine_error = nat 52 over 10

sine_ok : half_error +q billion *q tiny +q billion *q moving (nat 0) ≤q sine_error
unfolding nn whole inv ◌+q◌ ◌*q◌ negq sum exp_term
sine_ok = record { diff = record { is = tt } }

sine_six : sine_error ≤q nat 6
unfolding nn whole inv ◌+q◌ ◌*q◌ negq
sine_six = record { diff = record { is = tt } }

cosine_six : sine_error +q billion *q quarter_error ≤q nat 6
unfolding nn whole inv ◌+q◌ ◌*q◌ negq sum exp_term
cosine_six = record { diff = record { is = tt } }

-- ---- from 0 to 180 degrees
half_angle : {a : ℕ} → a ≤ half_turn → Within (nat a *q unit) wide
half_angle {a} h = within_le (within_mul (in_within (record { lo = nn_int a; hi = nat_le h })) (within_self unit_nn)) half_wide

mirrored : {a : ℕ} → a ≤ half_turn → nat (half_turn - a) *q unit ≡ negq (nat a *q unit) +q π
mirrored {a} h =
    ap (λ z. z *q unit) (nat_sub h)
    ∙ linq ((x0 :- x1) :* x2) (neg' (x1 :* x2) :+ x3) k1 (x0 :* x2) x3 (nat half_turn ∷ nat a ∷ unit ∷ π ∷ []) tt turn_radians

-- the sine of 180 degrees less a is the sine of a
reflected : {a : ℕ} → a ≤ half_turn → Within (sin₄₀ (nat (half_turn - a) *q unit) -q sin₄₀ (nat a *q unit)) tiny
reflected {a} h =
    subst₂ (λ x y. Within (sin₄₀ x +q y) tiny) (sym (mirrored h)) (sin_odd (nat a *q unit)) (half_on sine_wave (within_neg (half_angle h)))

half_near : (a : ℕ) → a ≤ half_turn → Within (nat (quarter_sine (half_fold a)) -q billion *q sin₄₀ (nat a *q unit)) half_error
half_near a h = go (dec_lt quarter_turn a)
  where
    go : Dec (quarter_turn < a) → Within (nat (quarter_sine (half_fold a)) -q billion *q sin₄₀ (nat a *q unit)) half_error
    go (no l) =
        subst (λ n. Within (nat (quarter_sine n) -q billion *q sin₄₀ (nat a *q unit)) half_error) (sym (half_low {a = a} (omega arith)))
        (within_le (quarter_near a (omega arith)) more_ok)
    go (yes l) =
        subst (λ n. Within (nat (quarter_sine n) -q billion *q sin₄₀ (nat a *q unit)) half_error) (sym (half_high l))
        (subst (λ z. Within z half_error)
        (solveq ((x0 :- x1 :* x2) :+ x1 :* (x2 :- x3)) (x0 :- x1 :* x3)
        (nat (quarter_sine (half_turn - a)) ∷ billion ∷ sin₄₀ (nat (half_turn - a) *q unit) ∷ sin₄₀ (nat a *q unit) ∷ []) tt)
        (within_add (quarter_near (half_turn - a) (omega arith)) (within_mul (within_self (nn_int 1_000_000_000)) (reflected h))))

-- ---- the whole circle: s is near the series at the angle q of degrees, which is x but for whole turns
module _ (x : ℤ) where
  in_degrees : degrees x ≡ nat (reduced x) over 100_000_000 +q nat 360 *q whole ⌊ x ÷ full_turn ⌋
  unfolding reduced
  in_degrees =
      ap (λ z. z *q inv 99_999_999) (whole_split x 35_999_999_999)
      ∙ linq ((x0 :* x1 :+ x2) :* x3) (x2 :* x3 :+ x4 :* x1) x1 (x0 :* x3) x4
      (nat full_turn ∷ whole ⌊ x ÷ full_turn ⌋ ∷ nat (x modulo full_turn) ∷ inv 99_999_999 ∷ nat 360 ∷ []) tt full_degrees

  from_series : (s : ℚ) {q b : ℚ} (j : ℤ) → Within q (nat 180) → degrees x ≡ q +q nat 360 *q whole j → Within (s -q billion *q sin₄₀ (q *q radian)) b
      → Within (s -q billion *q sin° (degrees x)) (b +q billion *q moving (nat 0))
  from_series s {q} {b} j hq h near =
      subst (λ z. Within z (b +q billion *q moving (nat 0)))
      (solveq ((x0 :- x1 :* x2) :- x1 :* (x3 :- x2)) (x0 :- x1 :* x3) (s ∷ billion ∷ sin₄₀ (q *q radian) ∷ sin° (degrees x) ∷ []) tt)
      (within_sub near (within_mul (within_self (nn_int 1_000_000_000)) (exactly sine_reference j hq h)))

  abbrev a : ℕ
  a = reduced x

  radians_of : (n : ℕ) → nat n *q unit ≡ nat n over 100_000_000 *q radian
  radians_of n = solveq (x0 :* (x1 :* x2)) (x0 :* x2 :* x1) (nat n ∷ radian ∷ inv 99_999_999 ∷ []) tt

  -- below 180 degrees
  low : a < half_turn → Within (whole (sine x) -q billion *q sin° (degrees x)) sine_error
  unfolding sine sine_at
  low l =
      subst (λ z. Within (whole z -q billion *q sin° (degrees x)) sine_error) (sym (sign_low (quarter_sine (fold a)) l ∙ ap (λ n. pos (quarter_sine n)) (fold_low l)))
      (within_le
      (from_series (nat (quarter_sine (half_fold a))) ⌊ x ÷ full_turn ⌋ in_range in_degrees (subst (λ z. Within (nat (quarter_sine (half_fold a)) -q billion *q sin₄₀ z) half_error) (radians_of a) (half_near a (omega arith))))
      (≤q_trans (leby (x0 :+ x2) (x0 :+ x1 :+ x2) x1 (half_error ∷ (billion *q tiny) ∷ (billion *q moving (nat 0)) ∷ []) tt (nn_int 1_000_000_000 ∗ tiny_nn)) sine_ok))
    where
      in_range : Within (nat a over 100_000_000) (nat 180)
      in_range =
          subst (λ z. Within (nat a over 100_000_000) z) half_degrees
          (within_le (within_self (nn_int a ∗ nn_inv 99_999_999))
          (leby (x0 :* x2) (x1 :* x2) ((x1 :- x0) :* x2) (nat a ∷ nat half_turn ∷ inv 99_999_999 ∷ []) tt (nat_le (omega arith) ∗ nn_inv 99_999_999)))

  -- from 180 degrees on: 180 less, and negated
  module _ (l : half_turn ≤ a) where
    abbrev b : ℕ
    b = a - half_turn

    b_most : b ≤ half_turn
    b_most = omega (arith, reduced_below x)

    abbrev q : ℚ
    q = nat b over 100_000_000 -q nat 180

    b_is : nat a over 100_000_000 ≡ q +q nat 360
    b_is =
        ap (λ n. nat n *q inv 99_999_999) (whole_again a l)
        ∙ ap (λ z. z *q inv 99_999_999) (nat_add b half_turn)
        ∙ linq ((x0 :+ x1) :* x2) (x0 :* x2 :- x3 :+ (x3 :+ x3)) k1 (x1 :* x2) x3 (nat b ∷ nat half_turn ∷ inv 99_999_999 ∷ nat 180 ∷ []) tt half_degrees
        ∙ ap (λ z. q +q z) two_halves
      where
        whole_again : (a : ℕ) → half_turn ≤ a → a ≡ a - half_turn + half_turn
        whole_again a l = omega arith

    in_range : Within q (nat 180)
    in_range = record {
      lo = nnby (x0 :+ (x1 :- x0)) x1 (nat 180 ∷ (nat b over 100_000_000) ∷ []) tt (nn_int b ∗ nn_inv 99_999_999);
      hi =
          subst NN (linq ((x0 :- x1) :* x2 :+ x3) (x3 :- (x1 :* x2 :- x3)) k1 (x0 :* x2) x3 (nat half_turn ∷ nat b ∷ inv 99_999_999 ∷ nat 180 ∷ []) tt half_degrees)
          (nat_le b_most ∗ nn_inv 99_999_999 ⊹ nn_int 180);
    }

    q_radians : q *q radian ≡ nat b *q unit -q π
    q_radians =
        linq ((x0 :- x1) :* x2) (x0 :* x2 :- x3) (con (negsuc 0)) (x1 :* x2) x3 ((nat b over 100_000_000) ∷ nat 180 ∷ radian ∷ π ∷ []) tt half_radians
        ∙ ap (λ z. z -q π) (sym (radians_of b))

    near : Within (negq (nat (quarter_sine (half_fold b))) -q billion *q sin₄₀ (q *q radian)) (half_error +q billion *q tiny)
    near =
        subst (λ z. Within (negq (nat (quarter_sine (half_fold b))) -q billion *q sin₄₀ z) (half_error +q billion *q tiny)) (sym q_radians)
        (subst (λ z. Within z (half_error +q billion *q tiny))
        (solveq (neg' (x0 :- x1 :* x2) :- x1 :* (x3 :+ x2)) (neg' x0 :- x1 :* x3) (nat (quarter_sine (half_fold b)) ∷ billion ∷ sin₄₀ (nat b *q unit) ∷ sin₄₀ (nat b *q unit -q π) ∷ []) tt)
        (within_sub (within_neg (half_near b b_most)) (within_mul (within_self (nn_int 1_000_000_000)) (half_back sine_wave (half_angle b_most)))))

    high : Within (whole (sine x) -q billion *q sin° (degrees x)) sine_error
    unfolding sine sine_at
    high =
        subst (λ z. Within (z -q billion *q sin° (degrees x)) sine_error)
        (sym (ap whole (sign_high (quarter_sine (fold a)) l ∙ ap (λ n. neg_ℤ (pos (quarter_sine n))) (fold_high l)) ∙ whole_neg (pos (quarter_sine (half_fold b)))))
        (within_le
        (from_series (negq (nat (quarter_sine (half_fold b)))) (⌊ x ÷ full_turn ⌋ +ℤ pos 1) in_range
        (in_degrees
        ∙ ap (λ z. z +q nat 360 *q whole ⌊ x ÷ full_turn ⌋) b_is
        ∙ solveq (x0 :+ x1 :+ x1 :* x2) (x0 :+ x1 :* (x2 :+ k1)) (q ∷ nat 360 ∷ whole ⌊ x ÷ full_turn ⌋ ∷ []) tt
        ∙ ap (λ z. q +q nat 360 *q z) (sym (whole_add ⌊ x ÷ full_turn ⌋ (pos 1))))
        near)
        sine_ok)

  nearer : Within (whole (sine x) -q billion *q sin° (degrees x)) sine_error
  nearer = go (dec_lt a half_turn)
    where
      go : Dec (a < half_turn) → Within (whole (sine x) -q billion *q sin° (degrees x)) sine_error
      go (yes l) = low l
      go (no l) = high (omega arith)

-- THE THEOREMS
pub sine_near : SineNear
sine_near x = within_le (nearer x) sine_six

pub cosine_near : CosineNear
unfolding cosine
cosine_near x =
    within_le
    (subst (λ z. Within z (sine_error +q billion *q quarter_error))
    (solveq ((x0 :- x1 :* x2) :+ x1 :* (x2 :- x3)) (x0 :- x1 :* x3) (whole (sine (x +ℤ pos quarter_turn)) ∷ billion ∷ sin° (degrees x +q nat 90) ∷ cos° (degrees x) ∷ []) tt)
    (within_add
    (subst (λ z. Within (whole (sine (x +ℤ pos quarter_turn)) -q billion *q sin° z) sine_error) quarter_more (nearer (x +ℤ pos quarter_turn)))
    (within_mul (within_self (nn_int 1_000_000_000)) (quarter_on° (degrees x)))))
    cosine_six
  where
    quarter_more : degrees (x +ℤ pos quarter_turn) ≡ degrees x +q nat 90
    quarter_more =
        ap (λ z. z *q inv 99_999_999) (whole_add x (pos quarter_turn))
        ∙ linq ((x0 :+ x1) :* x2) (x0 :* x2 :+ x3) k1 (x1 :* x2) x3 (whole x ∷ nat quarter_turn ∷ inv 99_999_999 ∷ nat 90 ∷ []) tt quarter_degrees
