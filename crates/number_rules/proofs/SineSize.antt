-- How large a sine is: at most 10⁹ + 1, which sine 8,999,869,268 takes. And the sine and the cosine of one angle together: 0.9999·10⁹ to 1.423·10⁹.
use mathlib.Core.Bool.{Bool, ◌&&◌, ◌||◌, false, true}
use mathlib.Core.Path.{◌∙◌, ◌≡◌, ap, refl, subst, subst⁻¹}
use Prim.Native.Nat.{◌%◌, ◌*◌, ◌+◌, ◌-◌, ◌/◌, ◌<◌, ◌≤◌, ℕ}
use native.Mathlib.Decide.{dec_lt, ℕ_discrete}
use native.Mathlib.Nat.{mul-le-mul, mul-le-mul_left}
use native.Mathlib.Omega.{arith}
use lib.Dec.{T, leb, leb→le, lit≤, ltb}
use lib.IntN.{◌+ℤ◌, nat_abs, pos, ℤ}
use mir.Facts.{and_yes}
use borrow.Author.Tests.{le-ltb}
use Rattle.arithmetic.specs.Floor.{◌modulo◌}
use Rattle.arithmetic.proofs.Sizes.{abs_neg}
use Rattle.arithmetic.proofs.Table.{at, every}
use Rattle.number_rules.specs.Angle.{full_turn, half_turn, quarter_turn, reduced}
use Rattle.number_rules.specs.Sine.{cosine, entry, fold, half_fold, negated_from_half, quarter_sine, radians, rest_cosine, rest_sine, sine, sine_at}
use Rattle.number_rules.specs.SineAccuracy.{SineOrCosine, SineSize, together_least}
use Rattle.number_rules.specs.SineTable.{sines}
use Rattle.number_rules.proofs.SineLaws.{cosine_is, fold_high, fold_low, fold_most, half_high, half_low, reduced_below, sign_high, sign_low}
use Rattle.number_rules.proofs.SineSteps.{radians_most, rest_cosine_most, rest_sine_most, square_most}
use Rattle.number_rules.proofs.SineTableLaws.{entry_small}

square_gap : (r t : ℕ) → 2 * (t * r) ≤ r * r + t * t
square_gap r t = go (dec_lt r t)
  where
    apart : (r d : ℕ) → 2 * ((r + d) * r) ≤ r * r + (r + d) * (r + d)
    apart r d = omega arith

    go : Dec (r < t) → 2 * (t * r) ≤ r * r + t * t
    go (yes l) = let e : t ≡ r + (t - r) = omega arith in rw e (apart r (t - r))
    go (no l) = let e : r ≡ t + (r - t) = omega arith in rw e (omega (arith, apart t (r - t)))

-- ---- a quarter sine
-- up to the entry at 358, the entry and the most that a rest can add stay below 10⁹ + 2
added : ℕ → ℕ → Bool
added k e = leb (e * 1_000_000_000 + entry (360 - k) * 4_363_323) 1_000_000_001_999_999_999 || ltb 358 k

added_tested : T (every added 0 0 sines)
unfolding added sines
added_tested = tt

or_left : (a b : Bool) → b ≡ false → T (a || b) → T a
or_left true b e t = tt
or_left false b e t = absurd (subst T e t)

most_added : (k : ℕ) → k ≤ 358 → entry k * 1_000_000_000 + entry (360 - k) * 4_363_323 ≤ 1_000_000_001_999_999_999
unfolding added sines
most_added k h =
    leb→le (entry k * 1_000_000_000 + entry (360 - k) * 4_363_323) 1_000_000_001_999_999_999
    (or_left (leb (entry k * 1_000_000_000 + entry (360 - k) * 4_363_323) 1_000_000_001_999_999_999) (ltb 358 k) (le-ltb 358 k h)
    (at added 0 sines added_tested k (omega arith)))

-- in the last quarter degree the cosine of the rest falls as fast as its sine grows
last_quarter : (r s : ℕ) → s ≤ r → r ≤ 4_363_323
    → (999_990_481 * (1_000_000_000 - r * r / 2_000_000_000) + 4_363_309 * s) / 1_000_000_000 ≤ 1_000_000_001
last_quarter r s h l = omega (arith, square_gap r 4_363_350, square_most r l)

module _ (y : ℕ) (h : y ≤ quarter_turn) where
  abbrev k : ℕ
  k = y / 25_000_000

  abbrev r : ℕ
  r = radians (y % 25_000_000)

  early : k ≤ 358 → (entry k * rest_cosine r + entry (360 - k) * rest_sine r) / 1_000_000_000 ≤ 1_000_000_001
  early l =
      floored (entry k * rest_cosine r) (entry (360 - k) * rest_sine r) (entry k * 1_000_000_000) (entry (360 - k) * 4_363_323)
      (mul-le-mul_left (entry k) (rest_cosine_most r)) (mul-le-mul_left (entry (360 - k)) (rest_sine_most r (radians_most y))) (most_added k l)
    where
      floored : (p q a b : ℕ) → p ≤ a → q ≤ b → a + b ≤ 1_000_000_001_999_999_999 → (p + q) / 1_000_000_000 ≤ 1_000_000_001
      floored p q a b h l m = omega arith

  late : k ≡ 359 → (entry k * rest_cosine r + entry (360 - k) * rest_sine r) / 1_000_000_000 ≤ 1_000_000_001
  unfolding sines
  late e =
      subst⁻¹ (λ (j : ℕ). (entry j * rest_cosine r + entry (360 - j) * rest_sine r) / 1_000_000_000 ≤ 1_000_000_001) e
      (last_quarter r (rest_sine r) (less r) (radians_most y))
    where
      less : (r : ℕ) → rest_sine r ≤ r
      less r = omega arith

  pub quarter_sine_most : quarter_sine y ≤ 1_000_000_001
  unfolding quarter_sine
  quarter_sine_most = go (dec_lt k 359) (dec_lt y quarter_turn)
    where
      last : (y : ℕ) → y ≤ quarter_turn → (y < quarter_turn → ⊥) → y ≡ quarter_turn
      last y h l = omega arith

      go : Dec (k < 359) → Dec (y < quarter_turn) → (entry k * rest_cosine r + entry (360 - k) * rest_sine r) / 1_000_000_000 ≤ 1_000_000_001
      go (yes l) m = early (omega arith)
      go (no l) (yes m) = late (omega arith)
      go (no l) (no m) =
          subst⁻¹
          (λ (y : ℕ).
          (entry (y / 25_000_000) * rest_cosine (radians (y % 25_000_000)) + entry (360 - y / 25_000_000) * rest_sine (radians (y % 25_000_000))) / 1_000_000_000 ≤ 1_000_000_001)
          (last y h m) (unfold sines in lit≤ tt)

-- ---- the sine and the cosine
sign_size : (a s : ℕ) → nat_abs (negated_from_half a s) ≡ s
sign_size a s = go (dec_lt a half_turn)
  where
    go : Dec (a < half_turn) → nat_abs (negated_from_half a s) ≡ s
    go (yes l) = ap nat_abs (sign_low s l)
    go (no l) = ap nat_abs (sign_high {a = a} s (omega arith)) ∙ abs_neg (pos s)

pub sine_at_most : (a : ℕ) → a < full_turn → nat_abs (sine_at a) ≤ 1_000_000_001
unfolding sine_at
sine_at_most a h = rw (sign_size a (quarter_sine (fold a))) (quarter_sine_most (fold a) (fold_most a h))

pub sine_most : (x : ℤ) → nat_abs (sine x) ≤ 1_000_000_001
unfolding sine
sine_most x = sine_at_most (reduced x) (reduced_below x)

pub cosine_most : (x : ℤ) → nat_abs (cosine x) ≤ 1_000_000_001
unfolding cosine
cosine_most x = sine_most (x +ℤ pos quarter_turn)

pub sine_size : SineSize
sine_size x = (sine_most x, cosine_most x)

-- the bound is sharp
pub sine_peak : sine (pos 8_999_869_268) ≡ pos 1_000_000_001
unfolding sine reduced ◌modulo◌ sine_at negated_from_half fold half_fold quarter_sine sines
sine_peak = refl

-- ---- the fold a quarter turn on, by quadrants
half_top : (a : ℕ) → quarter_turn ≤ a → half_fold a ≡ half_turn - a
half_top a h = go (dec_lt quarter_turn a)
  where
    go : Dec (quarter_turn < a) → half_fold a ≡ half_turn - a
    go (yes l) = half_high l
    go (no l) = half_low {a = a} (omega arith) ∙ omega arith

first : (a : ℕ) → a ≤ quarter_turn → fold a ≡ a
first a h = fold_low {a = a} (omega arith) ∙ half_low h

second : (a : ℕ) → quarter_turn ≤ a → a < half_turn → fold a ≡ half_turn - a
second a h l = fold_low l ∙ half_top a h

third : (a : ℕ) → half_turn ≤ a → a ≤ 27_000_000_000 → fold a ≡ a - half_turn
third a h l = fold_high h ∙ half_low {a = a - half_turn} (omega arith)

fourth : (a : ℕ) → 27_000_000_000 ≤ a → fold a ≡ full_turn - a
fourth a h = fold_high {a = a} (omega arith) ∙ half_top (a - half_turn) (omega arith) ∙ omega arith

fold_on : (a : ℕ) → a < full_turn → fold ((a + quarter_turn) % full_turn) ≡ quarter_turn - fold a
fold_on a h = go (dec_lt a quarter_turn) (dec_lt a half_turn) (dec_lt a 27_000_000_000)
  where
    go : Dec (a < quarter_turn) → Dec (a < half_turn) → Dec (a < 27_000_000_000) → fold ((a + quarter_turn) % full_turn) ≡ quarter_turn - fold a
    go (yes k) l m = second ((a + quarter_turn) % full_turn) (omega arith) (omega arith) ∙ rw (first a (omega arith)) (omega arith)
    go (no k) (yes l) m = third ((a + quarter_turn) % full_turn) (omega arith) (omega arith) ∙ rw (second a (omega arith) l) (omega arith)
    go (no k) (no l) (yes m) = fourth ((a + quarter_turn) % full_turn) (omega arith) ∙ rw (third a (omega arith) (omega arith)) (omega arith)
    go (no k) (no l) (no m) = first ((a + quarter_turn) % full_turn) (omega arith) ∙ rw (fourth a (omega arith)) (omega arith)

-- ---- two entries whose angles add to 90 degrees, or to a quarter degree less
above_entry : (y : ℕ) → y ≤ quarter_turn → quarter_sine y ≤ entry (y / 25_000_000) + 4_363_323
unfolding quarter_sine
above_entry y h =
    let e = entry (y / 25_000_000) in
    floored e (e * rest_cosine (radians (y % 25_000_000))) (entry (360 - y / 25_000_000) * rest_sine (radians (y % 25_000_000)))
    (mul-le-mul_left e (rest_cosine_most (radians (y % 25_000_000))))
    (mul-le-mul (entry_small (360 - y / 25_000_000) (omega arith)) (rest_sine_most (radians (y % 25_000_000)) (radians_most y)))
  where
    floored : (e p q : ℕ) → p ≤ e * 1_000_000_000 → q ≤ 1_000_000_000 * 4_363_323 → (p + q) / 1_000_000_000 ≤ e + 4_363_323
    floored e p q a b = omega arith

below_entry : (y : ℕ) → y ≤ quarter_turn → entry (y / 25_000_000) ≤ quarter_sine y + 10_000
unfolding quarter_sine
below_entry y h =
    let r = radians (y % 25_000_000) in
    let k = y / 25_000_000 in
    let falls : r * r / 2_000_000_000 ≤ 9_999 = omega (arith, square_most r (radians_most y)) in
    floored (entry k) (r * r / 2_000_000_000) (rest_cosine r) (entry (360 - k) * rest_sine r) (omega (arith, falls)) (mul-le-mul (entry_small k (omega arith)) falls)
  where
    floored : (e s c q : ℕ) → c + s ≡ 1_000_000_000 → e * s ≤ 1_000_000_000 * 9_999 → e ≤ (e * c + q) / 1_000_000_000 + 10_000
    floored e s c q t l = omega (arith, ap (λ (n : ℕ). e * n) t, l)

-- together neither too large nor too small
abbrev fits_both : ℕ → ℕ → Bool
fits_both e f = leb (e + 4_363_323 + (f + 4_363_323)) 1_423_000_000 && leb 999_920_000 (e + f)

pair_test : ℕ → ℕ → Bool
pair_test k e = fits_both e (entry (360 - k)) && fits_both e (entry (359 - k))

pair_tested : T (every pair_test 0 0 sines)
unfolding pair_test sines
pair_tested = tt

pair_at : (k : ℕ) → k ≤ 360 → T (fits_both (entry k) (entry (360 - k)) && fits_both (entry k) (entry (359 - k)))
unfolding pair_test sines
pair_at k h = at pair_test 0 sines pair_tested k (omega arith)

abbrev Together : ℕ → Type 0
Together n = (together_least ≤ n) × (n ≤ 1_423_000_000)

quarter_pair : (y : ℕ) → y ≤ quarter_turn → Together (quarter_sine y + quarter_sine (quarter_turn - y))
quarter_pair y h = go (ℕ_discrete ((quarter_turn - y) / 25_000_000) (360 - k))
  where
    k : ℕ
    k = y / 25_000_000

    both : T (fits_both (entry k) (entry (360 - k)) && fits_both (entry k) (entry (359 - k)))
    both = pair_at k (omega arith)

    joined : (j : ℕ) → (quarter_turn - y) / 25_000_000 ≡ j → T (fits_both (entry k) (entry j)) → Together (quarter_sine y + quarter_sine (quarter_turn - y))
    joined j e t =
        let most : quarter_sine (quarter_turn - y) ≤ entry j + 4_363_323 = rw e at (above_entry (quarter_turn - y) (omega arith)) in
        let least : entry j ≤ quarter_sine (quarter_turn - y) + 10_000 = rw e at (below_entry (quarter_turn - y) (omega arith)) in
        let fit = and_yes (leb (entry k + 4_363_323 + (entry j + 4_363_323)) 1_423_000_000) (leb 999_920_000 (entry k + entry j)) t in (
          omega (arith, below_entry y h, least, leb→le 999_920_000 (entry k + entry j) fit.1),
          omega (arith, above_entry y h, most, leb→le (entry k + 4_363_323 + (entry j + 4_363_323)) 1_423_000_000 fit.0),
        )

    go : Dec ((quarter_turn - y) / 25_000_000 ≡ 360 - k) → Together (quarter_sine y + quarter_sine (quarter_turn - y))
    go (yes e) = joined (360 - k) e (and_yes (fits_both (entry k) (entry (360 - k))) _ both).0
    go (no f) = joined (359 - k) (omega arith) (and_yes (fits_both (entry k) (entry (360 - k))) _ both).1

pair_together : (x : ℤ) → Together (nat_abs (sine x) + nat_abs (cosine x))
unfolding sine sine_at
pair_together x =
    let a = reduced x in
    let s = sign_size a (quarter_sine (fold a)) in
    let c : nat_abs (cosine x) ≡ quarter_sine (quarter_turn - fold a) =
    ap nat_abs (cosine_is x) ∙ sign_size ((a + quarter_turn) % full_turn) (quarter_sine (fold ((a + quarter_turn) % full_turn))) ∙ ap quarter_sine (fold_on a (reduced_below x)) in
    let both = quarter_pair (fold a) (fold_most a (reduced_below x)) in
    (omega (arith, both.0), omega (arith, both.1))

pub pair_most : (x : ℤ) → nat_abs (sine x) + nat_abs (cosine x) ≤ 1_423_000_000
pair_most x = (pair_together x).1

pub pair_least : SineOrCosine
pair_least x = (pair_together x).0
