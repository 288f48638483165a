-- The Sun's angles: radians less whole turns of 628,318,531, turned into degrees, against the exact B + C τ; and their cosines.
use mathlib.Core.List.{[], ◌∷◌}
use mathlib.Core.Path.{◌∙◌, ◌≡◌, ap, refl, subst, subst₂, sym}
use mathlib.Core.Quot.{sound}
use Prim.Native.Nat.{◌*◌, ◌-◌, ◌<◌, ◌^◌, ◌≤◌, suc, zero, ℕ}
use native.Mathlib.Nat.{zero-lt-suc}
use native.Mathlib.Omega.{arith}
use lib.IntN.{◌+ℤ◌, pos, ℤ}
use Rattle.arithmetic.specs.Floor.{◌modulo◌, ⌊◌÷◌⌋}
use Rattle.arithmetic.proofs.FloorLaws.{modulo_below}
use Rattle.arithmetic.proofs.Solver.{◌:*◌, ◌:+◌, ◌:-◌, k0, k1, neg', x0, x1, x2, x3, x4, x5, x6, x7, x8, x9}
use Rattle.exact.specs.Fraction.{Within, ◌*q◌, ◌+q◌, ◌-q◌, ◌over◌, ◌≤q◌, floor, inv, nat, negq, nn, whole, ℚ}
use Rattle.exact.specs.Reference.{cos°, factorial, power, sign, sum, π_digits}
use Rattle.exact.proofs.Floors.{in_within, nat_le, whole_split}
use Rattle.exact.proofs.FractionLaws.{inv_mul, linq, solveq, whole_add}
use Rattle.exact.proofs.Order.{leby, nn_int, nn_inv, within_add, within_le, within_mul, within_neg, within_self}
use Rattle.number_rules.specs.Sine.{cosine}
use Rattle.number_rules.proofs.SineTableLaws.{billion}
use Rattle.sum_rules.specs.ExactSums.{centuries, millennia, ray_angle}
use Rattle.sum_rules.specs.Instant.{century, millennium}
use Rattle.sum_rules.proofs.ConstantRows.{angle_zero, cosine_zero}
use Rattle.sum_rules.proofs.AnglesNear.{Agrees, cosine_wave, degree, ripple, turn, wave_near, widest}
use Rattle.sum_rules.proofs.FloorsNear.{floor_near, floored_multiple, near_add, near_small, same_near}
use Rattle.sum_rules.proofs.PowersNear.{reach}
use Rattle.sum_rules.specs.Sun as Sun

-- ---- closed numbers
-- degrees in a radian, exactly and by the rule; a turn by the rule, in 10⁻⁸ radian
abbrev exact_rate : ℚ
exact_rate = nat (180 * 10 ^ 20) over π_digits

abbrev rate : ℚ
rate = nat 5_729_577_951 over 100_000_000

abbrev radian_turn : ℚ
radian_turn = nat 628_318_531

rates_near : Within (exact_rate -q rate) (nat 1 over 100_000_000)
unfolding nn whole inv ◌+q◌ ◌*q◌ negq
rates_near = record { lo = record { is = tt }; hi = record { is = tt } }

turns_near : Within (radian_turn *q exact_rate -q turn) (nat 17)
unfolding nn whole inv ◌+q◌ ◌*q◌ negq
turns_near = record { lo = record { is = tt }; hi = record { is = tt } }

rate_within : Within exact_rate (nat 58)
unfolding nn whole inv ◌+q◌ ◌*q◌ negq
rate_within = record { lo = record { is = tt }; hi = record { is = tt } }

-- the rate's rounding, the floor of C τ and the last floor
rest_ok : radian_turn *q (nat 1 over 100_000_000) +q nat 1 *q nat 58 +q nat 1 ≤q nat 66
unfolding nn whole inv ◌+q◌ ◌*q◌ negq
rest_ok = record { diff = record { is = tt } }

ten_centuries : nat 10 *q inv (millennium - 1) ≡ inv (century - 1)
unfolding whole inv ◌*q◌
ten_centuries = sound refl

abbrev pub millennia_reach : ℚ
millennia_reach = reach over 10

-- ---- a row's sizes and errors: radians, how many turns are taken off, the angle's error in units, the cosine's
abbrev most_radians : ℕ → ℕ → ℚ
most_radians b c = nat 0 +q nat 1 +q (nat b +q nat c *q millennia_reach)

abbrev most_turns : ℕ → ℕ → ℚ
most_turns b c = nat 1 +q most_radians b c over 628_318_531

unfoldable pub angle_error : ℕ → ℕ → ℚ
angle_error b c = most_turns b c *q nat 17 +q nat 66

-- a constant row is exact
unfoldable pub cosine_error : ℕ → ℕ → ℚ
cosine_error zero zero = nat 0
cosine_error zero (suc c) = ripple (angle_error zero (suc c))
cosine_error (suc b) c = ripple (angle_error (suc b) c)

exact_at_zero : cos° (nat 0) ≡ nat 1
unfolding cos° floor ⌊◌÷◌⌋ sum sign power factorial whole inv ◌+q◌ ◌*q◌ negq
exact_at_zero = sound refl

module _ (n : ℤ) (bound : Within (centuries n) reach) where
  abbrev τ : ℚ
  τ = millennia n

  pub in_millennia : centuries n over 10 ≡ τ
  in_millennia =
      ap (λ z. whole n *q z over 10) (sym ten_centuries)
      ∙ linq (x0 :* (x1 :* x2) :* x3) (x0 :* x2) (x0 :* x2) (x1 :* x3) k1
      (whole n ∷ nat 10 ∷ inv (millennium - 1) ∷ inv 9 ∷ []) tt (inv_mul 9)

  pub τ_within : Within τ millennia_reach
  τ_within = subst (λ z. Within z millennia_reach) in_millennia (within_mul bound (within_self (nn_inv 9)))

  module _ (b c : ℕ) where
    -- B + C τ by the rule, its whole turns and what they leave
    abbrev radians : ℤ
    radians = pos b +ℤ Sun.phase n c

    abbrev turns : ℤ
    turns = ⌊ radians ÷ 628_318_531 ⌋

    abbrev left : ℕ
    left = radians modulo 628_318_531

    phase_near : Within (whole (Sun.phase n c) -q nat c *q τ) (nat 1)
    phase_near = floored_multiple (pos c) n (millennium - 1)

    radians_within : Within (whole radians) (most_radians b c)
    radians_within =
        near_small (whole radians) (nat b +q nat c *q τ) (near_add (pos b) (Sun.phase n c) _ _ (same_near (nat b)) phase_near)
        (within_add (within_self (nn_int b)) (within_mul (within_self (nn_int c)) τ_within))

    turns_within : Within (whole turns) (most_turns b c)
    turns_within =
        near_small (whole turns) (whole radians over 628_318_531) (floor_near radians 628_318_530)
        (within_mul radians_within (within_self (nn_inv 628_318_530)))

    left_within : Within (nat left) radian_turn
    left_within =
        in_within (record { lo = nn_int left; hi = nat_le (most left (modulo_below radians (zero-lt-suc 628_318_530))) })
      where
        most : (r : ℕ) → r < 628_318_531 → r ≤ 628_318_531
        most r h = omega arith

    last_floor : Within (nat (Sun.row_angle n b c) -q nat left *q rate) (nat 1)
    unfolding Sun.row_angle ⌊◌÷◌⌋
    last_floor = floored_multiple (pos left) (pos 5_729_577_951) 99_999_999

    radians_is : nat b +q whole (Sun.phase n c) ≡ radian_turn *q whole turns +q nat left
    radians_is = sym (whole_add (pos b) (Sun.phase n c)) ∙ whole_split radians 628_318_530

    in_units : degree *q ray_angle τ b c ≡ (nat b +q nat c *q τ) *q exact_rate
    in_units =
        linq (x0 :* ((x1 :* x2 :+ x3 :* x2 :* x4) :* x5)) ((x1 :+ x3 :* x4) :* x5) ((x1 :+ x3 :* x4) :* x5) (x0 :* x2) k1
        (degree ∷ nat b ∷ inv 99_999_999 ∷ nat c ∷ τ ∷ exact_rate ∷ []) tt (inv_mul 99_999_999)

    -- what is lost: at the rate, with each turn, by the floor of C τ and by the last floor
    losses : Within (negq (nat left *q (exact_rate -q rate)) +q negq (whole turns *q (radian_turn *q exact_rate -q turn))
        +q (whole (Sun.phase n c) -q nat c *q τ) *q exact_rate +q (nat (Sun.row_angle n b c) -q nat left *q rate)) (angle_error b c)
    unfolding angle_error
    losses =
        within_le
        (within_add
        (within_add (within_add (within_neg (within_mul left_within rates_near)) (within_neg (within_mul turns_within turns_near)))
        (within_mul phase_near rate_within))
        last_floor)
        (leby (x0 :+ x1 :+ x2 :+ x3) (x1 :+ x4) (x4 :- (x0 :+ x2 :+ x3))
        ((radian_turn *q (nat 1 over 100_000_000)) ∷ (most_turns b c *q nat 17) ∷ (nat 1 *q nat 58) ∷ nat 1 ∷ nat 66 ∷ []) tt
        rest_ok.diff)

    -- THE SUN'S ANGLE: off by 17 units for each turn taken off, and 66
    angle_near : Agrees (pos (Sun.row_angle n b c)) (ray_angle τ b c) (angle_error b c)
    angle_near = record {
      turns = turns;
      near =
          subst (λ z. Within z (angle_error b c))
          (linq (neg' (x4 :* (x6 :- x7)) :+ neg' (x3 :* (x5 :* x6 :- x8)) :+ (x2 :- x1) :* x6 :+ (x9 :- x4 :* x7))
          (x9 :+ x8 :* x3 :- (x0 :+ x1) :* x6) x6 (x0 :+ x2) (x5 :* x3 :+ x4)
          (nat b ∷ (nat c *q τ) ∷ whole (Sun.phase n c) ∷ whole turns ∷ nat left ∷ radian_turn ∷ exact_rate ∷ rate ∷ turn
          ∷ nat (Sun.row_angle n b c) ∷ []) tt radians_is
          ∙ ap (λ z. nat (Sun.row_angle n b c) +q turn *q whole turns -q z) (sym in_units))
          losses;
    }

  -- a constant row: the angle is zero
  constant_near : Within (whole (cosine (pos (Sun.row_angle n 0 0))) -q billion *q cos° (ray_angle τ 0 0)) (nat 0)
  constant_near =
      subst₂ (λ x y. Within (whole x -q billion *q y) (nat 0)) (sym (ap (λ z. cosine (pos z)) (angle_zero n) ∙ cosine_zero))
      (sym (ap cos° (solveq ((k0 :* x0 :+ k0 :* x0 :* x1) :* x2) k0 (inv 99_999_999 ∷ τ ∷ exact_rate ∷ []) tt) ∙ exact_at_zero))
      (subst (λ z. Within (billion -q z) (nat 0)) (solveq x0 (x0 :* k1) (billion ∷ []) tt) (same_near billion))

  -- THE COSINE OF A ROW
  pub ray_cosine_near : (b c : ℕ) → angle_error b c ≤q widest
      → Within (whole (cosine (pos (Sun.row_angle n b c))) -q billion *q cos° (ray_angle τ b c)) (cosine_error b c)
  unfolding cosine_error
  ray_cosine_near zero zero l = constant_near
  ray_cosine_near zero (suc c) l = wave_near cosine_wave (ray_angle τ zero (suc c)) (angle_near zero (suc c)) l
  ray_cosine_near (suc b) c l = wave_near cosine_wave (ray_angle τ (suc b) c) (angle_near (suc b) c) l
