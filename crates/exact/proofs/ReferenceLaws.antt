-- The reference at angles that agree up to whole turns and a small error, and a quarter turn on. Angles are in degrees.
use mathlib.Core.Bool.{Bool}
use mathlib.Core.List.{[], ◌∷◌}
use mathlib.Core.Logic.{◌⊎◌, inl, inr}
use mathlib.Core.Path.{◌∙◌, ◌≡◌, ap, ap₂, refl, subst, sym}
use mathlib.Core.Quot.{sound}
use Prim.Native.Nat.{◌+◌, suc, zero, ℕ}
use native.Mathlib.Omega.{arith}
use lib.Dec.{T, eqb, eqb→eq}
use lib.IntN.{◌+ℤ◌, ◌-ℤ◌, nat_abs, negsuc, pos, ℤ}
use Rattle.arithmetic.proofs.Solver.{◌:*◌, ◌:+◌, ◌:-◌, con, k0, k1, k2, neg', x0, x1, x2, x3, x4, x5}
use Rattle.exact.specs.Fraction.{NN, Within, ◌*q◌, ◌+q◌, ◌-q◌, ◌over◌, ◌≤q◌, floor, inv, nat, negq, nn, whole, ℚ}
use Rattle.exact.specs.Reference.{brought, cos°, sin°, π}
use Rattle.exact.proofs.Addition.{cos₄₀, sin₄₀}
use Rattle.exact.proofs.Floors.{In, fraction_floor, nat_add}
use Rattle.exact.proofs.FractionLaws.{inv_mul, linq, solveq, whole_add, whole_neg, whole_sub}
use Rattle.exact.proofs.Order.{◌∗◌, ◌⊹◌, leby, nn_int, nnby, total, within_add, within_le, within_mul, within_neg, within_self, within_sub, ≤q_trans}
use Rattle.exact.proofs.Rotation.{Wave, across, cosine_wave, half_back, quarter_back, quarter_on, sine_wave, step, stepped, tiny, tiny_nn, π/2}
use Rattle.exact.proofs.Terms.{cosine_series_is, sine_series_is}
use Rattle.exact.proofs.UnitCircle.{one+, wide}

-- radians in a degree
abbrev pub radian : ℚ
radian = π over 180

-- the largest error of an angle that is considered
abbrev pub slack : ℚ
slack = nat 1 over 100

-- ---- closed numbers
half_is : nat 180 *q radian ≡ π
half_is = linq (x0 :* (x1 :* x2)) x1 x1 (x0 :* x2) k1 (nat 180 ∷ π ∷ inv 179 ∷ []) tt (inv_mul 179)

quarter_is : nat 90 *q radian ≡ π/2
unfolding whole inv ◌*q◌
quarter_is = sound refl

turn_is : nat 360 ≡ nat 180 +q nat 180
unfolding whole ◌+q◌
turn_is = sound refl

half_two : nat 180 ≡ nat 90 +q nat 90
unfolding whole ◌+q◌
half_two = sound refl

turn_three : nat 360 ≡ nat 180 +q nat 90 +q nat 90
unfolding whole ◌+q◌
turn_three = sound refl

slack_nn : nat 0 ≤q slack
unfolding nn whole inv ◌+q◌ ◌*q◌ negq
slack_nn = record { diff = record { is = tt } }

radian_nn : NN radian
unfolding nn whole inv ◌*q◌
radian_nn = record { is = tt }

half_wide : nat 180 *q radian ≤q wide
unfolding nn whole inv ◌+q◌ ◌*q◌ negq
half_wide = record { diff = record { is = tt } }

slack_wide : slack *q radian ≤q wide
unfolding nn whole inv ◌+q◌ ◌*q◌ negq
slack_wide = record { diff = record { is = tt } }

slack_half : NN (nat 180 -q slack)
unfolding nn whole inv ◌+q◌ ◌*q◌ negq
slack_half = record { is = tt }

two_turns : NN (nat 180 +q nat 180 +q slack -q (nat 360 +q nat 360)) → ⊥
unfolding nn whole inv ◌+q◌ ◌*q◌ negq
two_turns h = h.is

-- ---- to radians
in_radians : {p b : ℚ} → Within p b → Within (p *q radian) (b *q radian)
in_radians h = within_mul h (within_self radian_nn)

pub to_wide : {p : ℚ} → Within p (nat 180) → Within (p *q radian) wide
to_wide h = within_le (in_radians h) half_wide

small_wide : {δ : ℚ} → δ ≤q slack → δ *q radian ≤q wide
small_wide {δ} l = ≤q_trans (leby (x0 :* x2) (x1 :* x2) ((x1 :- x0) :* x2) (δ ∷ slack ∷ radian ∷ []) tt (l.diff ∗ radian_nn)) slack_wide

-- two angles within half a turn are not two turns or more apart
apart : {p q e : ℚ} (k : ℕ) → Within p (nat 180) → Within q (nat 180) → Within e slack → p ≡ q +q nat 360 *q (nat k +q nat 2) +q e → ⊥
apart {p} {q} {e} k hp hq he h =
    two_turns
    (subst NN
    (ap (λ z. nat 180 -q z +q (nat 180 +q q) +q (slack +q e) +q nat 360 *q nat k) h
    ∙ solveq (x0 :- (x1 :+ x2 :* (x3 :+ k2) :+ x4) :+ (x0 :+ x1) :+ (x5 :+ x4) :+ x2 :* x3) (x0 :+ x0 :+ x5 :- (x2 :+ x2))
    (nat 180 ∷ q ∷ nat 360 ∷ nat k ∷ e ∷ slack ∷ []) tt)
    (hp.hi ⊹ hq.lo ⊹ he.lo ⊹ nn_int 360 ∗ nn_int k))

two_more : (k : ℕ) → nat (suc (suc k)) ≡ nat k +q nat 2
two_more k = ap nat (e k) ∙ nat_add k 2
  where
    e : (k : ℕ) → suc (suc k) ≡ k + 2
    e k = omega arith

-- how far the reference may move, for an error of δ degrees
abbrev pub moving : ℚ → ℚ
moving δ = tiny +q step (δ *q radian) +q tiny

module _ {f g : ℚ → ℚ} (W : Wave f g) where
  -- p is q, a turn and e
  turn_on : {p q e δ : ℚ} → Within p (nat 180) → Within q (nat 180) → Within e δ → δ ≤q slack → p ≡ q +q nat 360 *q nat 1 +q e
      → Within (f (p *q radian) -q f (q *q radian)) (moving δ)
  turn_on {p} {q} {e} {δ} hp hq he l h = across W (to_wide hq) above below (in_radians he) (small_wide l) radians
    where
      p_is : p ≡ q +q (nat 180 +q nat 180) +q e
      p_is = h ∙ ap (λ z. q +q z *q nat 1 +q e) turn_is ∙ solveq (x0 :+ (x1 :+ x1) :* k1 :+ x2) (x0 :+ (x1 :+ x1) :+ x2) (q ∷ nat 180 ∷ e ∷ []) tt

      radians : p *q radian ≡ q *q radian +q (π +q π) +q e *q radian
      radians =
          ap (λ z. z *q radian) p_is
          ∙ solveq ((x0 :+ (x1 :+ x1) :+ x2) :* x3) (x0 :* x3 :+ (x1 :* x3 :+ x1 :* x3) :+ x2 :* x3) (q ∷ nat 180 ∷ e ∷ radian ∷ []) tt
          ∙ ap (λ z. q *q radian +q (z +q z) +q e *q radian) half_is

      -- q and p lie at the two ends of the half turn
      upper : Within (q +q nat 180) (nat 180)
      upper = record {
        lo = nnby (x1 :+ (x0 :+ x1)) ((x1 :+ x0) :+ x1) (q ∷ nat 180 ∷ []) tt (hq.lo ⊹ nn_int 180);
        hi =
            subst NN (linq ((x2 :- x0) :+ (x4 :+ x3) :+ (x2 :- x4)) (x2 :- (x1 :+ x2)) (con (negsuc 0)) x0 (x1 :+ (x2 :+ x2) :+ x3) (p ∷ q ∷ nat 180 ∷ e ∷ slack ∷ []) tt p_is)
            (hp.hi ⊹ (within_le he l).lo ⊹ slack_half);
      }

      lower : Within (p -q nat 180) (nat 180)
      lower = record {
        lo =
            subst NN (linq ((x2 :+ x1) :+ (x4 :+ x3) :+ (x2 :- x4)) (x2 :+ (x0 :- x2)) (con (negsuc 0)) x0 (x1 :+ (x2 :+ x2) :+ x3) (p ∷ q ∷ nat 180 ∷ e ∷ slack ∷ []) tt p_is)
            (hq.lo ⊹ (within_le he l).lo ⊹ slack_half);
        hi = nnby (x1 :- (x0 :- x1)) ((x1 :- x0) :+ x1) (p ∷ nat 180 ∷ []) tt (hp.hi ⊹ nn_int 180);
      }

      above : Within (q *q radian +q π) wide
      above =
          subst (λ z. Within z wide) (solveq ((x0 :+ x1) :* x2) (x0 :* x2 :+ x1 :* x2) (q ∷ nat 180 ∷ radian ∷ []) tt ∙ ap (λ z. q *q radian +q z) half_is)
          (to_wide upper)

      below : Within (p *q radian -q π) wide
      below =
          subst (λ z. Within z wide) (solveq ((x0 :- x1) :* x2) (x0 :* x2 :- x1 :* x2) (p ∷ nat 180 ∷ radian ∷ []) tt ∙ ap (λ z. p *q radian -q z) half_is)
          (to_wide lower)

  -- p and q differ by j turns and e
  same : {p q e δ : ℚ} (j : ℤ) → Within p (nat 180) → Within q (nat 180) → Within e δ → δ ≤q slack → p ≡ q +q nat 360 *q whole j +q e
      → Within (f (p *q radian) -q f (q *q radian)) (moving δ)
  same {p} {q} {e} {δ} (pos zero) hp hq he l h =
      within_le
      (subst (λ z. Within (f z -q f (q *q radian)) (step (δ *q radian)))
      (solveq (x0 :* x3 :+ x1 :* x3) ((x0 :+ x2 :* k0 :+ x1) :* x3) (q ∷ e ∷ nat 360 ∷ radian ∷ []) tt ∙ ap (λ z. z *q radian) (sym h))
      (stepped W (to_wide hq) (in_radians he) (small_wide l)))
      (leby x0 (x1 :+ x0 :+ x1) (x1 :+ x1) (step (δ *q radian) ∷ tiny ∷ []) tt (tiny_nn ⊹ tiny_nn))
  same (pos (suc zero)) hp hq he l h = turn_on hp hq he l h
  same {p} {q} {e} {δ} (pos (suc (suc k))) hp hq he l h =
      absurd (apart k hp hq (within_le he l) (h ∙ ap (λ z. q +q nat 360 *q z +q e) (two_more k)))
  same {p} {q} {e} {δ} (negsuc zero) hp hq he l h =
      subst (λ z. Within z (moving δ)) (solveq (neg' (x1 :- x0)) (x0 :- x1) (f (p *q radian) ∷ f (q *q radian) ∷ []) tt)
      (within_neg (turn_on hq hp (within_neg he) l
      (linq x1 (x0 :+ x2 :* k1 :+ neg' x3) (con (negsuc 0)) x0 (x1 :+ x2 :* con (negsuc 0) :+ x3) (p ∷ q ∷ nat 360 ∷ e ∷ []) tt h)))
  same {p} {q} {e} {δ} (negsuc (suc k)) hp hq he l h =
      absurd
      (apart k hq hp (within_neg (within_le he l))
      (linq x1 (x0 :+ x2 :* (x4 :+ k2) :+ neg' x3) (con (negsuc 0)) x0 (x1 :+ x2 :* neg' (x4 :+ k2) :+ x3) (p ∷ q ∷ nat 360 ∷ e ∷ nat k ∷ []) tt
      (h ∙ ap (λ z. q +q nat 360 *q z +q e) (whole_neg (pos (suc (suc k))) ∙ ap negq (two_more k)))))

-- ---- the whole turns that the reference takes off
turns_of : ℚ → ℤ
turns_of x = floor ((x +q nat 180) over 360)

pub brought_within : (x : ℚ) → Within (brought x) (nat 180)
unfolding turns_of
brought_within x = record {
  lo =
      subst NN
      (linq (x0 :* ((x1 :+ x2) :* x3 :- x4)) (x2 :+ (x1 :- x0 :* x4)) (x1 :+ x2) (x0 :* x3) k1 (nat 360 ∷ x ∷ nat 180 ∷ inv 359 ∷ whole (turns_of x) ∷ []) tt (inv_mul 359))
      (nn_int 360 ∗ left.lo);
  hi =
      subst NN (ap (λ z. z -q nat 180 -q brought x) turn_is ∙ solveq (x0 :+ x0 :- x0 :- x1) (x0 :- x1) (nat 180 ∷ brought x ∷ []) tt)
      (subst NN
      (linq (x0 :* (k1 :- ((x1 :+ x2) :* x3 :- x4))) (x0 :- x2 :- (x1 :- x0 :* x4)) (neg' (x1 :+ x2)) (x0 :* x3) k1 (nat 360 ∷ x ∷ nat 180 ∷ inv 359 ∷ whole (turns_of x) ∷ []) tt (inv_mul 359))
      (nn_int 360 ∗ left.hi));
}
  where
    left : In ((x +q nat 180) over 360 -q whole (turns_of x)) (nat 1)
    left = fraction_floor ((x +q nat 180) over 360)

-- ---- what is known of the reference's sine and cosine: g is the reference of the wave f
pub record Reference (f g : ℚ → ℚ) : Type 0 where
  -- x is q, j turns and an error
  pub at : {x q e δ : ℚ} (j : ℤ) → Within q (nat 180) → Within e δ → δ ≤q slack → x ≡ q +q nat 360 *q whole j +q e → Within (g x -q f (q *q radian)) (moving δ)
  pub small : (x : ℚ) → Within (g x) one+
  pub is : (x : ℚ) → g x ≡ f (brought x *q radian)

module _ {f f' : ℚ → ℚ} (W : Wave f f') (g : ℚ → ℚ) (is : (x : ℚ) → g x ≡ f (brought x *q radian)) where
  reference : Reference f g
  unfolding turns_of
  reference = record {
    at = λ {x} {q} {e} {δ} j hq he l h.
        subst (λ z. Within (z -q f (q *q radian)) (moving δ)) (sym (is x))
        (same W (j -ℤ turns_of x) (brought_within x) hq he l
        (linq (x0 :- x1 :* x5) (x2 :+ x1 :* (x3 :- x5) :+ x4) k1 x0 (x2 :+ x1 :* x3 :+ x4) (x ∷ nat 360 ∷ q ∷ whole j ∷ e ∷ whole (turns_of x) ∷ []) tt h
        ∙ ap (λ z. q +q nat 360 *q z +q e) (sym (whole_sub j (turns_of x)))));
    small = λ x. subst (λ z. Within z one+) (sym (is x)) (W.small (to_wide (brought_within x)));
    is = is;
  }

pub sine_reference : Reference sin₄₀ sin°
unfolding sin°
sine_reference = reference sine_wave sin° (λ x. sine_series_is (brought x *q radian))

pub cosine_reference : Reference cos₄₀ cos°
unfolding cos°
cosine_reference = reference cosine_wave cos° (λ x. cosine_series_is (brought x *q radian))

-- THE LAW: angles that agree up to whole turns and an error of at most δ degrees have nearly the same reference
pub moved : {f g : ℚ → ℚ} → Reference f g → {x e δ : ℚ} (y : ℚ) (j : ℤ) → Within e δ → δ ≤q slack → x ≡ y +q nat 360 *q whole j +q e → Within (g x -q g y) (moving δ)
unfolding turns_of
moved {f} {g} R {x} {e} {δ} y j he l h =
    subst (λ z. Within (g x -q z) (moving δ)) (sym (R.is y))
    (R.at (j +ℤ turns_of y) (brought_within y) he l
    (h ∙ solveq (x0 :+ x1 :* x2 :+ x3) ((x0 :- x1 :* x4) :+ x1 :* (x2 :+ x4) :+ x3) (y ∷ nat 360 ∷ whole j ∷ e ∷ whole (turns_of y) ∷ []) tt
    ∙ ap (λ z. (y -q nat 360 *q whole (turns_of y)) +q nat 360 *q z +q e) (sym (whole_add j (turns_of y)))))

-- the angle with no error
pub exactly : {f g : ℚ → ℚ} → Reference f g → {x q : ℚ} (j : ℤ) → Within q (nat 180) → x ≡ q +q nat 360 *q whole j → Within (g x -q f (q *q radian)) (moving (nat 0))
exactly R {x} {q} j hq h =
    R.at j hq (within_self (nn_int 0)) slack_nn (h ∙ solveq (x0 :+ x1 :* x2) (x0 :+ x1 :* x2 :+ k0) (q ∷ nat 360 ∷ whole j ∷ []) tt)

-- ---- an angle that needs no turn taken off: its reference is the series, which Horner's rule computes
unfoldable pub plain : ℚ → Bool
plain x = eqb (nat_abs (floor ((x +q nat 180) over 360))) 0

brought_same : (x : ℚ) → T (plain x) → brought x ≡ x
unfolding plain
brought_same x t =
    ap (λ (z : ℤ). x -q nat 360 *q whole z) (zero_of (floor ((x +q nat 180) over 360)) (eqb→eq (nat_abs (floor ((x +q nat 180) over 360))) 0 t))
    ∙ solveq (x0 :- x1 :* k0) x0 (x ∷ nat 360 ∷ []) tt
  where
    zero_of : (z : ℤ) → nat_abs z ≡ 0 → z ≡ pos 0
    zero_of (pos n) h = ap pos h
    zero_of (negsuc n) h = absurd (omega arith)

pub plain_is : {f g : ℚ → ℚ} → Reference f g → (x : ℚ) → T (plain x) → g x ≡ f (x *q radian)
plain_is {f} R x t = R.is x ∙ ap (λ (y : ℚ). f (y *q radian)) (brought_same x t)

-- ---- a quarter turn on, the sine is the cosine
abbrev pub quarter_error : ℚ
quarter_error = moving (nat 0) +q (tiny +q tiny)

module _ (x : ℚ) where
  abbrev v : ℚ
  v = brought x *q radian

  -- x is what it is brought to and whole turns
  x_is : x ≡ brought x +q nat 360 *q whole (turns_of x)
  unfolding turns_of
  x_is = solveq x0 (x0 :- x1 :+ x1) (x ∷ (nat 360 *q whole (turns_of x)) ∷ []) tt

  -- from sine at q, near cosine at v, to the reference
  joined : {q : ℚ} (j : ℤ) → Within q (nat 180) → x +q nat 90 ≡ q +q nat 360 *q whole j → Within (sin₄₀ (q *q radian) -q cos₄₀ v) (tiny +q tiny)
      → Within (sin° (x +q nat 90) -q cos° x) quarter_error
  joined {q} j hq h near =
      subst (λ z. Within (sin° (x +q nat 90) -q z) quarter_error) (sym (cosine_reference.is x))
      (subst (λ z. Within z quarter_error) (solveq ((x0 :- x1) :+ (x1 :- x2)) (x0 :- x2) (sin° (x +q nat 90) ∷ sin₄₀ (q *q radian) ∷ cos₄₀ v ∷ []) tt)
      (within_add (exactly sine_reference j hq h) near))

  -- up to 90 degrees: sine at v and a quarter turn
  low : NN (nat 90 -q brought x) → Within (sin° (x +q nat 90) -q cos° x) quarter_error
  low h =
      joined (turns_of x)
      (record {
        lo = nnby (x1 :+ (x0 :+ x2)) ((x1 :+ x0) :+ x2) (brought x ∷ nat 180 ∷ nat 90 ∷ []) tt ((brought_within x).lo ⊹ nn_int 90);
        hi = subst NN (linq (x2 :- x0) (x1 :- (x0 :+ x2)) (con (negsuc 0)) x1 (x2 :+ x2) (brought x ∷ nat 180 ∷ nat 90 ∷ []) tt half_two) h;
      })
      (ap (λ z. z +q nat 90) x_is ∙ solveq (x0 :+ x1 :+ x2) (x0 :+ x2 :+ x1) (brought x ∷ (nat 360 *q whole (turns_of x)) ∷ nat 90 ∷ []) tt)
      (subst (λ z. Within (sin₄₀ z -q cos₄₀ v) (tiny +q tiny))
      (ap (λ z. v +q z) (sym quarter_is) ∙ solveq (x0 :* x2 :+ x1 :* x2) ((x0 :+ x1) :* x2) (brought x ∷ nat 90 ∷ radian ∷ []) tt)
      (within_le (quarter_on sine_wave (to_wide (brought_within x))) (leby x0 (x0 :+ x0) x0 (tiny ∷ []) tt tiny_nn)))

  -- above: sine at v, less half a turn, less a quarter
  high : NN (negq (nat 90 -q brought x)) → Within (sin° (x +q nat 90) -q cos° x) quarter_error
  high h =
      joined (turns_of x +ℤ pos 1)
      (record {
        lo = subst NN (linq (neg' (x2 :- x0)) (x1 :+ (x0 :- x1 :- x2)) k0 x1 (x2 :+ x2) (brought x ∷ nat 180 ∷ nat 90 ∷ []) tt half_two) h;
        hi = nnby (x1 :- (x0 :- x1 :- x2)) ((x1 :- x0) :+ x1 :+ x2) (brought x ∷ nat 180 ∷ nat 90 ∷ []) tt ((brought_within x).hi ⊹ nn_int 180 ⊹ nn_int 90);
      })
      (ap (λ z. z +q nat 90) x_is
      ∙ linq (x0 :+ x1 :* x2 :+ x3) ((x0 :- x4 :- x3) :+ x1 :* (x2 :+ k1)) (con (negsuc 0)) x1 (x4 :+ x3 :+ x3) (brought x ∷ nat 360 ∷ whole (turns_of x) ∷ nat 90 ∷ nat 180 ∷ []) tt turn_three
      ∙ ap (λ z. (brought x -q nat 180 -q nat 90) +q nat 360 *q z) (sym (whole_add (turns_of x) (pos 1))))
      (subst (λ z. Within (sin₄₀ z -q cos₄₀ v) (tiny +q tiny))
      (ap₂ (λ y z. v -q y -q z) (sym half_is) (sym quarter_is) ∙ solveq (x0 :* x3 :- x1 :* x3 :- x2 :* x3) ((x0 :- x1 :- x2) :* x3) (brought x ∷ nat 180 ∷ nat 90 ∷ radian ∷ []) tt)
      (subst (λ z. Within z (tiny +q tiny)) (solveq ((x0 :+ x1) :- (x1 :+ x2)) (x0 :- x2) (sin₄₀ (v -q π -q π/2) ∷ cos₄₀ (v -q π) ∷ cos₄₀ v ∷ []) tt)
      (within_sub (quarter_back sine_wave back) (half_back cosine_wave (to_wide (brought_within x))))))
    where
      back : Within (v -q π) wide
      back =
          subst (λ z. Within z wide) (solveq ((x0 :- x1) :* x2) (x0 :* x2 :- x1 :* x2) (brought x ∷ nat 180 ∷ radian ∷ []) tt ∙ ap (λ z. v -q z) half_is)
          (to_wide (record {
            lo = subst NN (linq (neg' (x2 :- x0) :+ x2) (x1 :+ (x0 :- x1)) k0 x1 (x2 :+ x2) (brought x ∷ nat 180 ∷ nat 90 ∷ []) tt half_two) (h ⊹ nn_int 90);
            hi = nnby (x1 :- (x0 :- x1)) ((x1 :- x0) :+ x1) (brought x ∷ nat 180 ∷ []) tt ((brought_within x).hi ⊹ nn_int 180);
          }))

  pub quarter_on° : Within (sin° (x +q nat 90) -q cos° x) quarter_error
  quarter_on° = go (total (nat 90 -q brought x))
    where
      go : NN (nat 90 -q brought x) ⊎ NN (negq (nat 90 -q brought x)) → Within (sin° (x +q nat 90) -q cos° x) quarter_error
      go (inl h) = low h
      go (inr h) = high h
