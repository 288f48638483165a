-- The raised elevation lies from a quarter degree to less than 93 degrees, so its sine is above zero.
-- Elevations of either sign go by one argument: q is d + ⌊103·10¹⁵/d⌋ - 511,000,000, with d = e + 511,000,000, which is 427,663,000 or more.
use mathlib.Core.Bool.{Bool, cond, false, true}
use mathlib.Core.Path.{◌∙◌, ◌≡◌, ap, refl}
use Prim.Native.Nat.{◌%◌, ◌*◌, ◌+◌, ◌-◌, ◌/◌, ◌<◌, ◌≤◌, ℕ}
use native.Mathlib.Decide.{dec_lt}
use native.Mathlib.Nat.{div-lt_iff_lt-mul, le-div_iff_mul-le, mul-le-mul}
use native.Mathlib.Omega.{arith}
use lib.Dec.{leb, leb→le}
use lib.IntN.{◌+ℤ◌, nat_abs, pos, ℤ}
use lib.Ieee.{Float}
use lib.Signed.{lt_z}
use Rattle.arithmetic.specs.Floor.{⌊◌÷◌⌋}
use Rattle.arithmetic.proofs.Difference.{#◌, ◌⊞◌, abs_parts, by_eq, dn, to_eq, to_le, up, ⟨◌⟩}
use Rattle.arithmetic.proofs.Table.{at_part}
use Rattle.number_rules.specs.Angle.{quarter_turn}
use Rattle.number_rules.specs.Sine.{entry, fold, quarter_sine, radians, rest_cosine, rest_sine, sine, sine_at}
use Rattle.number_rules.specs.SineTable.{sines}
use Rattle.numbers.proofs.Machine.{lit, not_less}
use Rattle.number_rules.proofs.SineLaws.{fold_low, half_high, half_low, reduced_same, sign_low}
use Rattle.number_rules.proofs.SineSteps.{radians_most, square_most}
use Rattle.refraction.specs.Double.{zero_degrees}
use Rattle.refraction.specs.Refraction.{IsRefracted, lowest_refracted, raised, refraction, refraction_in}
use Rattle.std.specs.Prelude.{Option}
use Rattle.refraction.specs.declared.air.Air.{Air}

-- e + 511,000,000 is above zero
pub divisor : {e : ℤ} → IsRefracted e → (d : ℕ) × (e +ℤ pos 511_000_000 ≡ pos d) × (427_663_000 ≤ d) × (d ≤ 9_511_000_000)
divisor {e} h =
    let low = to_le ⟨ lowest_refracted ⟩ ⟨ e ⟩ h.not_below in
    let high = rw (abs_parts e) at h.size in
    let d = up e + 511_000_000 - dn e in
    (d, by_eq (⟨ e ⟩ ⊞ # 511_000_000) (# d) (omega (arith, low)), omega (arith, low), omega (arith, high))

pub raised_range : {e : ℤ} → IsRefracted e → (q : ℕ) × (raised e ≡ pos q) × (25_000_000 ≤ q) × (q ≤ 9_300_000_000)
unfolding raised ⌊◌÷◌⌋
raised_range {e} h = (q, raised_is, omega (arith, least), omega (arith, most, high))
  where
    d : ℕ
    d = (divisor h).0

    low : 427_663_000 ≤ d
    low = (divisor h).2

    high : d ≤ 9_511_000_000
    high = (divisor h).3

    lift : ℕ
    lift = 103_000_000_000_000_000 / d

    -- e is d - 511,000,000
    q : ℕ
    q = d + lift - 511_000_000

    most : lift < 300_000_000
    most = (div-lt_iff_lt-mul {k = d} (omega (arith, low))).1 (omega (arith, low))

    least : 536_000_000 ≤ d + lift
    least = go (dec_lt d 536_000_000)
      where
        go : Dec (d < 536_000_000) → 536_000_000 ≤ d + lift
        go (yes l) = omega (arith, low, (le-div_iff_mul-le {k = d} {x = 110_000_000} {y = 103_000_000_000_000_000} (omega (arith, low))).1 (omega arith))
        go (no l) = omega arith

    raised_is : raised e ≡ pos q
    raised_is =
        let sum = (divisor h).1 in
        rw sum (by_eq (⟨ e ⟩ ⊞ # lift) (# q) (omega (arith, least, to_eq (⟨ e ⟩ ⊞ # 511_000_000) (# d) sum)))

-- ---- a sine above zero
-- past its first entry the table has none below 2
entry_above : (k : ℕ) → 1 ≤ k → k ≤ 360 → 2 ≤ entry k
unfolding sines
entry_above k lo hi = leb→le 2 (entry k) (at_part (λ (i e : ℕ). leb 2 e) 0 sines 1 360 tt k lo (omega arith) (omega arith))

rest_cosine_least : (r : ℕ) → r ≤ 4_363_323 → 900_000_000 ≤ rest_cosine r
rest_cosine_least r h = omega (arith, square_most r h)

quarter_sine_above : (y : ℕ) → 25_000_000 ≤ y → y ≤ quarter_turn → 0 < quarter_sine y
unfolding quarter_sine
quarter_sine_above y lo hi =
    let k = y / 25_000_000 in
    let r = radians (y % 25_000_000) in
    floored (entry k * rest_cosine r) (entry (360 - k) * rest_sine r)
    (mul-le-mul (entry_above k (omega arith) (omega arith)) (rest_cosine_least r (radians_most y)))
  where
    floored : (p q : ℕ) → 2 * 900_000_000 ≤ p → 0 < (p + q) / 1_000_000_000
    floored p q h = omega arith

module _ (q : ℕ) (lo : 25_000_000 ≤ q) (hi : q ≤ 17_975_000_000) where
  fold_range : (25_000_000 ≤ fold q) × (fold q ≤ quarter_turn)
  fold_range = go (dec_lt quarter_turn q)
    where
      go : Dec (quarter_turn < q) → (25_000_000 ≤ fold q) × (fold q ≤ quarter_turn)
      go (yes l) = rw (fold_low {a = q} (omega arith) ∙ half_high l) (omega arith, omega arith)
      go (no l) = rw (fold_low {a = q} (omega arith) ∙ half_low {a = q} (omega arith)) (lo, omega arith)

  pub sine_is : sine (pos q) ≡ pos (quarter_sine (fold q))
  unfolding sine sine_at
  sine_is = ap sine_at (reduced_same q (omega arith)) ∙ sign_low {a = q} (quarter_sine (fold q)) (omega arith)

  pub sine_above : 0 < quarter_sine (fold q)
  sine_above = quarter_sine_above (fold q) fold_range.0 fold_range.1

pub raised_sine : {e : ℤ} → IsRefracted e → (s : ℕ) × (sine (raised e) ≡ pos s) × (0 < s)
raised_sine h =
    let range = raised_range h in
    let q = range.0 in
    let below : q ≤ 17_975_000_000 = omega (arith, range.3) in
    (quarter_sine (fold q), ap sine range.1 ∙ sine_is q range.2 below, sine_above q range.2 below)

-- ---- a law of every refraction: it holds of zero, and where the formula is worked
pub of_refraction : (Law : Float → Type 0) (air : Option Air) (e : ℤ) → nat_abs e ≤ quarter_turn → Law zero_degrees → (IsRefracted e → Law (refraction_in air e))
    → Law (refraction air e)
unfolding refraction
of_refraction Law air e size at_zero worked = go (lt_z e lowest_refracted) refl
  where
    go : (b : Bool) → lt_z e lowest_refracted ≡ b → Law (cond b zero_degrees (refraction_in air e))
    go true below = at_zero
    go false not_below = worked (record { not_below = not_less (lit e) (lit lowest_refracted) not_below; size = size })
