-- How sine and cosine change when their argument is turned: by a half and a quarter turn, by a small step, and across the seam at half a turn.
-- Both are waves: f with a companion g, so that f (a + h) is f a cos h + g a sin h, nearly.
use mathlib.Core.List.{[], ◌∷◌}
use mathlib.Core.Path.{◌∙◌, ◌≡◌, ap, subst, sym}
use Prim.Native.Nat.{◌^◌}
use lib.Dec.{lit≤}
use lib.IntN.{negsuc}
use Rattle.arithmetic.proofs.Solver.{◌:*◌, ◌:+◌, ◌:-◌, con, k0, k1, neg', x0, x1, x2, x3, x4, x5, x6}
use Rattle.exact.specs.Fraction.{NN, Within, ◌*q◌, ◌+q◌, ◌-q◌, ◌over◌, ◌≤q◌, inv, nat, negq, nn, whole, ℚ}
use Rattle.exact.specs.Reference.{sum, π}
use Rattle.exact.proofs.Addition.{cos_term, cos_within, cos₄₀, exp_sum, exp_term, exp₄₀, sin_term, sin_within, sin₄₀}
use Rattle.exact.proofs.FractionLaws.{solveq}
use Rattle.exact.proofs.Order.{within_add, within_le, within_mul, within_neg, within_sub, ≤q_add, ≤q_refl, ≤q_trans}
use Rattle.exact.proofs.Series.{tail_within}
use Rattle.exact.proofs.UnitCircle.{cos_even, cos_le, cosine_sum, one+, sin_le, sin_odd, sine_sum, wide, wide_wide, wider, ε}

pub record Wave (f g : ℚ → ℚ) : Type 0 where
  pub add : {a h A H : ℚ} → Within a A → Within h H → A +q H ≤q wider → Within (f (a +q h) -q (f a *q cos₄₀ h +q g a *q sin₄₀ h)) ε
  pub small : {v : ℚ} → Within v wide → Within (f v) one+
  pub small' : {v : ℚ} → Within v wide → Within (g v) one+

pub sine_wave : Wave sin₄₀ cos₄₀
sine_wave = record { add = sine_sum; small = sin_le; small' = cos_le }

pub cosine_wave : Wave cos₄₀ (λ v. negq (sin₄₀ v))
cosine_wave = record {
  add = λ {a} {h} ha hh l.
      subst (λ z. Within (cos₄₀ (a +q h) -q z) ε)
      (solveq (x0 :* x1 :- x2 :* x3) (x0 :* x1 :+ neg' x2 :* x3) (cos₄₀ a ∷ cos₄₀ h ∷ sin₄₀ a ∷ sin₄₀ h ∷ []) tt)
      (cosine_sum ha hh l);
  small = cos_le;
  small' = λ h. within_neg (sin_le h);
}

-- ---- closed numbers: how far the series miss the half and the quarter turn
abbrev pub tiny : ℚ
tiny = nat 1 over 10 ^ 14

abbrev miss : ℚ
miss = nat 1 over 10 ^ 20

pub tiny_nn : NN tiny
unfolding nn whole inv ◌*q◌
tiny_nn = record { is = tt }

tiny_ok : ε +q one+ *q miss +q one+ *q miss ≤q tiny
unfolding nn whole inv ◌+q◌ ◌*q◌ negq
tiny_ok = record { diff = record { is = tt } }

abbrev pub π/2 : ℚ
π/2 = π over 2

pub π_wide : Within π wide
unfolding nn whole inv ◌+q◌ ◌*q◌ negq
π_wide = record { lo = record { is = tt }; hi = record { is = tt } }

quarter_wide : Within π/2 wide
unfolding nn whole inv ◌+q◌ ◌*q◌ negq
quarter_wide = record { lo = record { is = tt }; hi = record { is = tt } }

sin_π : Within (sin₄₀ π -q nat 0) miss
unfolding nn whole inv ◌+q◌ ◌*q◌ negq sum sin_term
sin_π = record { lo = record { is = tt }; hi = record { is = tt } }

cos_π : Within (cos₄₀ π -q whole (negsuc 0)) miss
unfolding nn whole inv ◌+q◌ ◌*q◌ negq sum sin_term
cos_π = record { lo = record { is = tt }; hi = record { is = tt } }

sin_quarter : Within (sin₄₀ π/2 -q nat 1) miss
unfolding nn whole inv ◌+q◌ ◌*q◌ negq sum sin_term
sin_quarter = record { lo = record { is = tt }; hi = record { is = tt } }

cos_quarter : Within (cos₄₀ π/2 -q nat 0) miss
unfolding nn whole inv ◌+q◌ ◌*q◌ negq sum sin_term
cos_quarter = record { lo = record { is = tt }; hi = record { is = tt } }

-- the same backwards, as sine is odd and cosine is even
cos_back : (h c : ℚ) → Within (cos₄₀ h -q c) miss → Within (cos₄₀ (negq h) -q c) miss
cos_back h c = subst (λ z. Within (z -q c) miss) (sym (cos_even h))

sin_back : (h s : ℚ) → Within (sin₄₀ h -q s) miss → Within (sin₄₀ (negq h) -q negq s) miss
sin_back h s k =
    subst (λ z. Within (z -q negq s) miss) (sym (sin_odd h))
    (subst (λ z. Within z miss) (solveq (neg' (x0 :- x1)) (neg' x0 :- neg' x1) (sin₄₀ h ∷ s ∷ []) tt) (within_neg k))

-- ---- a small step
cos_2 : (u : ℚ) → sum (cos_term u) 2 ≡ nat 1
unfolding sum sin_term
cos_2 u = solveq (k1 :+ (x0 :* neg' (x1 :* k0) :+ k0)) k1 (inv 0 ∷ u ∷ []) tt

sin_1 : (u : ℚ) → sum (sin_term u) 1 ≡ nat 0
unfolding sum sin_term
sin_1 u = solveq (k0 :+ k0) k0 [] tt

-- how far a wave may move when its argument moves by at most δ: about δ
abbrev pub step : ℚ → ℚ
step δ = ε +q one+ *q (exp₄₀ δ -q exp_sum 2 δ) +q one+ *q (exp₄₀ δ -q exp_sum 1 δ)

module _ {f g : ℚ → ℚ} (W : Wave f g) where
  pub stepped : {v d δ : ℚ} → Within v wide → Within d δ → δ ≤q wide → Within (f (v +q d) -q f v) (step δ)
  stepped {v} {d} {δ} hv hd l =
      subst (λ z. Within z (step δ))
      (solveq ((x0 :- (x1 :* x2 :+ x3 :* x4)) :+ x1 :* (x2 :- k1) :+ x3 :* (x4 :- k0)) (x0 :- x1) (f (v +q d) ∷ f v ∷ cos₄₀ d ∷ g v ∷ sin₄₀ d ∷ []) tt)
      (within_add (within_add (W.add hv hd (≤q_trans (≤q_add (≤q_refl wide) l) wide_wide))
      (within_mul (W.small hv) (subst (λ z. Within (cos₄₀ d -q z) (exp₄₀ δ -q exp_sum 2 δ)) (cos_2 d) (tail_within (cos_term d) (exp_term δ) (cos_within hd) (lit≤ tt)))))
      (within_mul (W.small' hv) (subst (λ z. Within (sin₄₀ d -q z) (exp₄₀ δ -q exp_sum 1 δ)) (sin_1 d) (tail_within (sin_term d) (exp_term δ) (sin_within hd) (lit≤ tt)))))

  -- turned by h, whose cosine is nearly c and whose sine is nearly s
  rotated : {v h : ℚ} (c s : ℚ) → Within v wide → Within h wide → Within (cos₄₀ h -q c) miss → Within (sin₄₀ h -q s) miss
      → Within (f (v +q h) -q (f v *q c +q g v *q s)) tiny
  rotated {v} {h} c s hv hh hc hs =
      within_le
      (subst (λ z. Within z (ε +q one+ *q miss +q one+ *q miss))
      (solveq ((x0 :- (x1 :* x2 :+ x3 :* x4)) :+ x1 :* (x2 :- x5) :+ x3 :* (x4 :- x6)) (x0 :- (x1 :* x5 :+ x3 :* x6))
      (f (v +q h) ∷ f v ∷ cos₄₀ h ∷ g v ∷ sin₄₀ h ∷ c ∷ s ∷ []) tt)
      (within_add (within_add (W.add hv hh wide_wide) (within_mul (W.small hv) hc)) (within_mul (W.small' hv) hs)))
      tiny_ok

  pub half_on : {v : ℚ} → Within v wide → Within (f (v +q π) +q f v) tiny
  half_on {v} h =
      subst (λ z. Within z tiny) (solveq (x0 :- (x1 :* con (negsuc 0) :+ x2 :* k0)) (x0 :+ x1) (f (v +q π) ∷ f v ∷ g v ∷ []) tt)
      (rotated (whole (negsuc 0)) (nat 0) h π_wide cos_π sin_π)

  pub half_back : {v : ℚ} → Within v wide → Within (f (v -q π) +q f v) tiny
  half_back {v} h =
      subst (λ z. Within z tiny) (solveq (x0 :- (x1 :* con (negsuc 0) :+ x2 :* neg' k0)) (x0 :+ x1) (f (v -q π) ∷ f v ∷ g v ∷ []) tt)
      (rotated (whole (negsuc 0)) (negq (nat 0)) h (within_neg π_wide) (cos_back π (whole (negsuc 0)) cos_π) (sin_back π (nat 0) sin_π))

  pub quarter_on : {v : ℚ} → Within v wide → Within (f (v +q π/2) -q g v) tiny
  quarter_on {v} h =
      subst (λ z. Within z tiny) (solveq (x0 :- (x1 :* k0 :+ x2 :* k1)) (x0 :- x2) (f (v +q π/2) ∷ f v ∷ g v ∷ []) tt)
      (rotated (nat 0) (nat 1) h quarter_wide cos_quarter sin_quarter)

  pub quarter_back : {v : ℚ} → Within v wide → Within (f (v -q π/2) +q g v) tiny
  quarter_back {v} h =
      subst (λ z. Within z tiny) (solveq (x0 :- (x1 :* k0 :+ x2 :* neg' k1)) (x0 :+ x2) (f (v -q π/2) ∷ f v ∷ g v ∷ []) tt)
      (rotated (nat 0) (negq (nat 1)) h (within_neg quarter_wide) (cos_back π/2 (nat 0) cos_quarter) (sin_back π/2 (nat 1) sin_quarter))

  -- across the seam: w is v, a whole turn and a step d
  pub across : {v w d δ : ℚ} → Within v wide → Within (v +q π) wide → Within (w -q π) wide → Within d δ → δ ≤q wide → w ≡ v +q (π +q π) +q d
      → Within (f w -q f v) (tiny +q step δ +q tiny)
  across {v} {w} {d} {δ} hv hm hu hd l e =
      subst (λ z. Within z (tiny +q step δ +q tiny))
      (solveq ((x0 :+ x3) :- (x3 :- x2) :- (x2 :+ x1)) (x0 :- x1) (f w ∷ f v ∷ f (v +q π) ∷ f (w -q π) ∷ []) tt)
      (within_sub (within_sub down (subst (λ z. Within (f z -q f (v +q π)) (step δ)) middle (stepped hm hd l))) (half_on hv))
    where
      down : Within (f w +q f (w -q π)) tiny
      down = subst (λ z. Within (f z +q f (w -q π)) tiny) (solveq (x0 :- x1 :+ x1) x0 (w ∷ π ∷ []) tt) (half_on hu)

      middle : v +q π +q d ≡ w -q π
      middle = solveq (x0 :+ x1 :+ x2) (x0 :+ (x1 :+ x1) :+ x2 :- x1) (v ∷ π ∷ d ∷ []) tt ∙ ap (λ z. z -q π) (sym e)
