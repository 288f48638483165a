-- Whole angles and exact ones that agree up to whole turns and an error, and their sines and cosines.
use mathlib.Core.List.{[], ◌∷◌}
use mathlib.Core.Path.{◌∙◌, ◌≡◌, ap, ap₂, refl, subst, sym}
use mathlib.Core.Quot.{sound}
use Prim.Native.Nat.{ℕ}
use lib.IntN.{◌*ℤ◌, ◌+ℤ◌, ◌-ℤ◌, nat_abs, neg_ℤ, pos, ℤ}
use Rattle.arithmetic.specs.Floor.{◌modulo◌, ⌊◌÷◌⌋}
use Rattle.arithmetic.proofs.Solver.{◌:*◌, ◌:+◌, ◌:-◌, k0, k1, neg', x0, x1, x10, x2, x3, x4, x5, x6, x7, x8, x9}
use Rattle.exact.specs.Fraction.{NN, Within, ◌*q◌, ◌+q◌, ◌-q◌, ◌over◌, ◌≤q◌, inv, nat, negq, nn, whole, ℚ}
use Rattle.exact.specs.Reference.{cos°, sin°}
use Rattle.exact.proofs.Addition.{cos₄₀, sin₄₀}
use Rattle.exact.proofs.Floors.{whole_split}
use Rattle.exact.proofs.FractionLaws.{inv_mul, linq₂, solveq, whole_add, whole_mul, whole_neg}
use Rattle.exact.proofs.LinearStep.{linear, small}
use Rattle.exact.proofs.Order.{◌∗◌, ◌⊹◌, leby, nn_int, nn_inv, within_add, within_le, within_mul, within_neg, within_nn, within_self, within_sub, ≤q_trans}
use Rattle.exact.proofs.ReferenceLaws.{Reference, cosine_reference, moved, moving, radian, sine_reference, slack}
use Rattle.exact.proofs.Rotation.{step, tiny}
use Rattle.exact.proofs.UnitCircle.{one+, ε}
use Rattle.number_rules.specs.Angle.{full_turn, reduced}
use Rattle.number_rules.specs.Sine.{cosine, sine}
use Rattle.number_rules.specs.SineAccuracy.{degrees}
use Rattle.number_rules.proofs.SineNear.{cosine_near, sine_near}
use Rattle.number_rules.proofs.SineTableLaws.{billion}
use Rattle.sum_rules.specs.Accuracy.{Around}
use Rattle.sum_rules.proofs.FloorsNear.{size_within}
use Rattle.sum_rules.proofs.WeightedSum.{most_wave}

-- units of 10⁻⁸ degree in a turn and in a degree
abbrev pub turn : ℚ
turn = nat 36_000_000_000

abbrev pub degree : ℚ
degree = nat 100_000_000

-- a in units and x in degrees, up to some whole number of turns, differ by at most δ units
pub record Agrees (a : ℤ) (x δ : ℚ) : Type 0 where
  pub turns : ℤ
  pub near : Within (whole a +q turn *q whole turns -q degree *q x) δ

-- as the claim says it
pub around : {a : ℕ} {x δ : ℚ} → Agrees (pos a) x δ → Around a x δ
around A = record { turns = A.turns; near = A.near }

pub agrees_near : {a : ℤ} (x : ℚ) {δ : ℚ} → Within (whole a -q degree *q x) δ → Agrees a x δ
agrees_near {a} x {δ} h = record {
  turns = pos 0;
  near = subst (λ z. Within z δ) (solveq (x0 :- x1 :* x2) (x0 :+ x3 :* k0 :- x1 :* x2) (whole a ∷ degree ∷ x ∷ turn ∷ []) tt) h;
}

pub agrees_le : {a : ℤ} {x δ δ' : ℚ} → Agrees a x δ → δ ≤q δ' → Agrees a x δ'
agrees_le A l = record { turns = A.turns; near = within_le A.near l }

pub agrees_add : {a b : ℤ} {x y δ δ' : ℚ} → Agrees a x δ → Agrees b y δ' → Agrees (a +ℤ b) (x +q y) (δ +q δ')
agrees_add {a} {b} {x} {y} {δ} {δ'} A B = record {
  turns = A.turns +ℤ B.turns;
  near =
      subst (λ z. Within z (δ +q δ'))
      (solveq ((x0 :+ x1 :* x2 :- x3 :* x4) :+ (x5 :+ x1 :* x6 :- x3 :* x7)) (x0 :+ x5 :+ x1 :* (x2 :+ x6) :- x3 :* (x4 :+ x7))
      (whole a ∷ turn ∷ whole A.turns ∷ degree ∷ x ∷ whole b ∷ whole B.turns ∷ y ∷ []) tt
      ∙ ap₂ (λ v w. v +q turn *q w -q degree *q (x +q y)) (sym (whole_add a b)) (sym (whole_add A.turns B.turns)))
      (within_add A.near B.near);
}

pub agrees_mul : (c : ℤ) {a : ℤ} {x δ : ℚ} → Agrees a x δ → Agrees (c *ℤ a) (whole c *q x) (nat (nat_abs c) *q δ)
agrees_mul c {a} {x} {δ} A = record {
  turns = c *ℤ A.turns;
  near =
      subst (λ z. Within z (nat (nat_abs c) *q δ))
      (solveq (x5 :* (x0 :+ x1 :* x2 :- x3 :* x4)) (x5 :* x0 :+ x1 :* (x5 :* x2) :- x3 :* (x5 :* x4))
      (whole a ∷ turn ∷ whole A.turns ∷ degree ∷ x ∷ whole c ∷ []) tt
      ∙ ap₂ (λ v w. v +q turn *q w -q degree *q (whole c *q x)) (sym (whole_mul c a)) (sym (whole_mul c A.turns)))
      (within_mul (size_within c) A.near);
}

agrees_neg : {a : ℤ} {x δ : ℚ} → Agrees a x δ → Agrees (neg_ℤ a) (negq x) δ
agrees_neg {a} {x} {δ} A = record {
  turns = neg_ℤ A.turns;
  near =
      subst (λ z. Within z δ)
      (solveq (neg' (x0 :+ x1 :* x2 :- x3 :* x4)) (neg' x0 :+ x1 :* neg' x2 :- x3 :* neg' x4)
      (whole a ∷ turn ∷ whole A.turns ∷ degree ∷ x ∷ []) tt
      ∙ ap₂ (λ v w. v +q turn *q w -q degree *q negq x) (sym (whole_neg a)) (sym (whole_neg A.turns)))
      (within_neg A.near);
}

pub agrees_sub : {a b : ℤ} {x y δ δ' : ℚ} → Agrees a x δ → Agrees b y δ' → Agrees (a -ℤ b) (x -q y) (δ +q δ')
agrees_sub A B = agrees_add A (agrees_neg B)

pub agrees_reduced : {a : ℤ} {x δ : ℚ} → Agrees a x δ → Agrees (pos (reduced a)) x δ
unfolding reduced
agrees_reduced {a} {x} {δ} A = record {
  turns = ⌊ a ÷ full_turn ⌋ +ℤ A.turns;
  near =
      subst (λ z. Within z δ)
      (ap (λ z. z +q turn *q whole A.turns -q degree *q x) (whole_split a 35_999_999_999)
      ∙ solveq (x0 :* x1 :+ x2 :+ x0 :* x3 :- x4) (x2 :+ x0 :* (x1 :+ x3) :- x4)
      (turn ∷ whole ⌊ a ÷ full_turn ⌋ ∷ nat (a modulo full_turn) ∷ whole A.turns ∷ (degree *q x) ∷ []) tt
      ∙ ap (λ z. nat (a modulo full_turn) +q turn *q z -q degree *q x) (sym (whole_add ⌊ a ÷ full_turn ⌋ A.turns)))
      A.near;
}

-- ---- closed numbers
full_degrees : turn over 100_000_000 ≡ nat 360
unfolding whole inv ◌*q◌
full_degrees = sound refl

-- the largest error considered, a hundredth of a degree
abbrev pub widest : ℚ
widest = nat 1_000_000

widest_slack : widest over 100_000_000 ≤q slack
unfolding nn whole inv ◌+q◌ ◌*q◌ negq
widest_slack = record { diff = record { is = tt } }

slack_small : slack *q radian ≤q small
unfolding nn whole inv ◌+q◌ ◌*q◌ negq
slack_small = record { diff = record { is = tt } }

radian_nn : NN radian
unfolding nn whole inv ◌*q◌
radian_nn = record { is = tt }

-- what a sine's error grows by with each unit of the angle's
abbrev slope : ℚ
slope = nat 351 over 1000

slope_ok : billion *q (inv 99_999_999 *q radian *q (nat 201 over 100)) ≤q slope
unfolding nn whole inv ◌+q◌ ◌*q◌ negq
slope_ok = record { diff = record { is = tt } }

seven_ok : nat 6 +q billion *q (tiny +q ε +q tiny) ≤q nat 7
unfolding nn whole inv ◌+q◌ ◌*q◌ negq
seven_ok = record { diff = record { is = tt } }

one_ok : one+ ≤q most_wave
unfolding nn whole inv ◌+q◌ ◌*q◌ negq
one_ok = record { diff = record { is = tt } }

-- ---- the error of a whole sine or cosine against the reference at an exact angle, by the angle's error δ
abbrev pub ripple : ℚ → ℚ
ripple δ = nat 7 +q δ *q slope

≤q_times : {p q r : ℚ} → p ≤q q → NN r → p *q r ≤q q *q r
≤q_times {p} {q} {r} l h = leby (x0 :* x2) (x1 :* x2) ((x1 :- x0) :* x2) (p ∷ q ∷ r ∷ []) tt (l.diff ∗ h)

in_slack : {δ : ℚ} → δ ≤q widest → δ over 100_000_000 ≤q slack
in_slack l = ≤q_trans (≤q_times l (nn_inv 99_999_999)) widest_slack

linear_ripple : {δ : ℚ} → NN δ → δ ≤q widest → nat 6 +q billion *q moving (δ over 100_000_000) ≤q ripple δ
linear_ripple {δ} h l =
    leby (x0 :+ x1 :* (x2 :+ x3 :+ x2)) (x4 :+ x5 :* x6)
    ((x4 :- (x0 :+ x1 :* (x2 :+ x7 :+ x2))) :+ x1 :* ((x7 :+ x5 :* x8 :* x9 :* x10) :- x3) :+ x5 :* (x6 :- x1 :* (x8 :* x9 :* x10)))
    (nat 6 ∷ billion ∷ tiny ∷ step (δ over 100_000_000 *q radian) ∷ nat 7 ∷ δ ∷ slope ∷ ε ∷ inv 99_999_999 ∷ radian ∷ (nat 201 over 100)
    ∷ []) tt
    (seven_ok.diff ⊹ nn_int 1_000_000_000 ∗ (linear (h ∗ nn_inv 99_999_999 ∗ radian_nn) in_reach).diff ⊹ h ∗ slope_ok.diff)
  where
    in_reach : δ over 100_000_000 *q radian ≤q small
    in_reach = ≤q_trans (≤q_times (in_slack l) radian_nn) slack_small

-- what is known of a whole wave f and its reference g
pub record Wave (f : ℤ → ℤ) (g : ℚ → ℚ) : Type 0 where
  pub series : ℚ → ℚ
  pub reference : Reference series g
  pub near : (a : ℤ) → Within (whole (f a) -q billion *q g (degrees a)) (nat 6)

pub sine_wave : Wave sine sin°
sine_wave = record { series = sin₄₀; reference = sine_reference; near = sine_near }

pub cosine_wave : Wave cosine cos°
cosine_wave = record { series = cos₄₀; reference = cosine_reference; near = cosine_near }

module _ {f : ℤ → ℤ} {g : ℚ → ℚ} (W : Wave f g) where
  pub wave_small : (x : ℚ) → Within (g x) most_wave
  wave_small x = within_le (W.reference.small x) one_ok

  pub wave_near : {a : ℤ} (x : ℚ) {δ : ℚ} → Agrees a x δ → δ ≤q widest → Within (whole (f a) -q billion *q g x) (ripple δ)
  wave_near {a} x {δ} A l =
      within_le
      (subst (λ z. Within z (nat 6 +q billion *q moving (δ over 100_000_000)))
      (solveq ((x0 :- x1 :* x2) :- x1 :* (x3 :- x2)) (x0 :- x1 :* x3) (whole (f a) ∷ billion ∷ g (degrees a) ∷ g x ∷ []) tt)
      (within_sub (W.near a)
      (within_mul (within_self (nn_int 1_000_000_000)) (moved W.reference (degrees a) A.turns error (in_slack l) apart))))
      (linear_ripple (within_nn A.near) l)
    where
      -- by how much, in degrees
      apart_by : ℚ
      apart_by = negq (whole a +q turn *q whole A.turns -q degree *q x) over 100_000_000

      error : Within apart_by (δ over 100_000_000)
      error = within_mul (within_neg A.near) (within_self (nn_inv 99_999_999))

      apart : x ≡ degrees a +q nat 360 *q whole A.turns +q apart_by
      apart =
          linq₂ x5 (x0 :* x1 :+ x6 :* x3 :+ neg' (x0 :+ x2 :* x3 :- x4 :* x5) :* x1) (neg' x5) (x4 :* x1) k1 x3 (x2 :* x1) x6
          (whole a ∷ inv 99_999_999 ∷ turn ∷ whole A.turns ∷ degree ∷ x ∷ nat 360 ∷ []) tt (inv_mul 99_999_999) full_degrees
