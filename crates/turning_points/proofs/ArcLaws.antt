-- The short way round: its sizes, and a value on a leg in numbers that are never below zero.
use mathlib.Core.Path.{◌∙◌, ◌≡◌, ap, refl, sym}
use Prim.Native.Nat.{◌%◌, ◌*◌, ◌+◌, ◌-◌, ◌/◌, ◌<◌, ◌≤◌, ℕ}
use native.Mathlib.Nat.{add_comm, add-mul-div_right, div-add-mod, div-eq_of_lt, div-le_of_le-mul, mod-lt, mul_comm, mul-div_cancel, mul-le-mul, mul-le-mul_left, mul-le-mul_right, zero-add, zero-lt-suc}
use native.Mathlib.Decide.{dec_lt}
use native.Mathlib.Omega.{arith}
use lib.IntN.{◌*ℤ◌, ◌+ℤ◌, neg_ℤ, pos, ℤ}
use borrow.Author.Tests.{le-leb, le-ltb, lt-leb, lt-ltb}
use Rattle.arithmetic.proofs.Difference.{#◌, ◌⊞◌, ◌⊠◌, by_eq, ⊟◌}
use Rattle.arithmetic.proofs.FloorLaws.{unique_floor}
use Rattle.arithmetic.specs.Floor.{◌modulo◌, ⌊◌÷◌⌋}
use Rattle.day.specs.Curve.{minutes}
use Rattle.heading.specs.Heading.{clockwise}
use Rattle.number_rules.specs.Angle.{full_turn, half_turn, reduced}
use Rattle.number_rules.proofs.SineLaws.{reduced_below, reduced_turns}
use Rattle.turning_points.specs.Arc.{OnLeg, distance, short_way, value_on}
use Rattle.turning_points.specs.declared.arc.Leg.{Leg}

-- ---- an arc
pub clockwise_below : (a b : ℕ) → clockwise a b < full_turn
unfolding clockwise
clockwise_below a b = mod-lt (b + full_turn - a) (zero-lt-suc 35_999_999_999)

-- ---- the distance
pub distance_near : (a b : ℕ) → clockwise a b ≤ half_turn → distance a b ≡ clockwise a b
unfolding distance
distance_near a b h = rw (le-leb (clockwise a b) half_turn h) refl

pub distance_far : (a b : ℕ) → half_turn < clockwise a b → distance a b ≡ full_turn - clockwise a b
unfolding distance
distance_far a b h = rw (lt-leb (clockwise a b) half_turn h) refl

pub distance_same : (a : ℕ) → a < full_turn → distance a a ≡ 0
distance_same a h = distance_near a a (omega (arith, none)) ∙ none
  where
    none : clockwise a a ≡ 0
    none = unfold clockwise in omega arith

-- ---- a value on a leg
-- a division of what is below zero: rounded up, and negated
floor_negative : (x : ℕ) {n : ℕ} → 0 < n → ⌊ neg_ℤ (pos x) ÷ n ⌋ ≡ neg_ℤ (pos ((x + (n - 1)) / n))
floor_negative x {n} h =
    let c = (x + (n - 1)) / n in
    let e : n * c + (x + (n - 1)) % n ≡ x + (n - 1) = div-add-mod (x + (n - 1)) n in
    let l : (x + (n - 1)) % n < n = mod-lt (x + (n - 1)) h in
    unique_floor (neg_ℤ (pos x)) (neg_ℤ (pos c)) (n * c - x) (omega arith)
    (by_eq (⊟ # x) (# n ⊠ (⊟ # c) ⊞ # (n * c - x)) (omega arith))

-- a less c, brought back above zero by a turn
reduced_less : (a c : ℕ) → c ≤ full_turn → reduced (pos a +ℤ neg_ℤ (pos c)) ≡ (a + full_turn - c) % full_turn
reduced_less a c h =
    sym (reduced_turns (pos a +ℤ neg_ℤ (pos c)) (pos 1))
    ∙ ap reduced (by_eq (# a ⊞ (⊟ # c) ⊞ # full_turn ⊠ # 1) (# (a + full_turn - c)) (omega arith))
    ∙ natural (a + full_turn - c)
  where
    natural : (n : ℕ) → reduced (pos n) ≡ n % full_turn
    natural n = unfold reduced ◌modulo◌ in refl

abbrev pub arc : Leg → ℕ
arc leg = clockwise leg.start leg.end

-- how long a leg is, and how much of it is passed
abbrev pub all : Leg → ℕ
all leg = leg.last - leg.first

abbrev pub part : Leg → ℕ → ℕ
part leg m = m - leg.first

-- on a leg that runs clockwise, and what is taken off on one that runs the other way
abbrev pub ahead_on : Leg → ℕ → ℕ
ahead_on leg m = (leg.start + arc leg * part leg m / all leg) % full_turn

abbrev pub back_on : Leg → ℕ → ℕ
back_on leg m = ((full_turn - arc leg) * part leg m + (all leg - 1)) / all leg

module _ {leg : Leg} {m : ℕ} (on : OnLeg leg m) where
  -- a share of an arc is no more than the arc
  share_most : (x : ℕ) → x * part leg m ≤ x * all leg
  share_most x = mul-le-mul_left x (omega (arith, on.from, on.to))

  -- products fit: an arc times the minutes of a day
  pub product_most : (x : ℕ) → x ≤ full_turn → x * part leg m ≤ full_turn * minutes
  product_most x h = let few : part leg m ≤ minutes = omega (arith, on.to, on.in_day) in mul-le-mul h few

  pub part_most : (x : ℕ) → x * part leg m / all leg ≤ x
  part_most x = div-le_of_le-mul (all leg) (omega (arith, share_most x, mul_comm x (all leg)))

  pub back_most : half_turn ≤ arc leg → back_on leg m ≤ full_turn
  back_most h =
      let short : full_turn - arc leg ≤ half_turn = omega arith in
      let whole : (full_turn - arc leg) * all leg ≤ half_turn * all leg = mul-le-mul_right (all leg) short in
      div-le_of_le-mul (all leg) (omega (arith, share_most (full_turn - arc leg), on.rising))

  pub ahead : arc leg < half_turn → value_on leg m ≡ ahead_on leg m
  unfolding value_on short_way reduced ⌊◌÷◌⌋ ◌modulo◌
  ahead h = rw (lt-ltb (arc leg) half_turn h) refl

  pub behind : half_turn ≤ arc leg → value_on leg m ≡ (leg.start + full_turn - back_on leg m) % full_turn
  unfolding value_on short_way
  behind h =
      let rest = full_turn - arc leg in
      let some : 0 < all leg = omega (arith, on.rising) in
      let same : neg_ℤ (pos rest) *ℤ pos (part leg m) ≡ neg_ℤ (pos (rest * part leg m)) = by_eq ((⊟ # rest) ⊠ # (part leg m)) (⊟ # (rest * part leg m)) (omega arith) in
      rw (le-ltb (arc leg) half_turn h)
      (ap (λ (z : ℤ). reduced (pos leg.start +ℤ ⌊ z ÷ all leg ⌋)) same
      ∙ ap (λ (z : ℤ). reduced (pos leg.start +ℤ z)) (floor_negative (rest * part leg m) some)
      ∙ reduced_less leg.start (back_on leg m) (back_most h))

pub value_below : (leg : Leg) (m : ℕ) → value_on leg m < full_turn
unfolding value_on
value_below leg m = reduced_below (pos leg.start +ℤ ⌊ short_way leg.start leg.end *ℤ pos (part leg m) ÷ all leg ⌋)

-- ---- the two ends of a leg
module _ {leg : Leg} (on : OnLeg leg leg.last) where
  arrives : (leg.start + arc leg) % full_turn ≡ leg.end
  unfolding clockwise
  arrives = omega (arith, on.start_reduced, on.end_reduced)

  some : 0 < all leg
  some = omega (arith, on.rising)

  pub at_end : value_on leg leg.last ≡ leg.end
  at_end = go (dec_lt (arc leg) half_turn)
    where
      go : Dec (arc leg < half_turn) → value_on leg leg.last ≡ leg.end
      go (yes h) = ahead on h ∙ (rw (mul-div_cancel (arc leg) some) arrives)
      go (no h) =
          let rest = full_turn - arc leg in
          let n = all leg in
          let q : back_on leg leg.last ≡ rest = ap (λ (x : ℕ). x / n) (add_comm (rest * n) (n - 1)) ∙ add-mul-div_right (n - 1) rest some ∙ ap (λ (x : ℕ). x + rest) (div-eq_of_lt (omega arith)) ∙ zero-add rest in
          behind on (omega arith) ∙ (rw q (last (arc leg) (clockwise_below leg.start leg.end) arrives))
        where
          last : (c : ℕ) → c < full_turn → (leg.start + c) % full_turn ≡ leg.end → (leg.start + full_turn - (full_turn - c)) % full_turn ≡ leg.end
          last c h e = omega arith

module _ {leg : Leg} (on : OnLeg leg leg.first) where
  pub at_start : value_on leg leg.first ≡ leg.start
  at_start = go (dec_lt (arc leg) half_turn)
    where
      none : part leg leg.first ≡ 0
      none = omega arith

      go : Dec (arc leg < half_turn) → value_on leg leg.first ≡ leg.start
      go (yes h) =
          let z : arc leg * part leg leg.first / all leg ≡ 0 = ap (λ (x : ℕ). arc leg * x / all leg) none ∙ div-eq_of_lt (omega (arith, on.rising)) in
          ahead on h ∙ (rw z (omega (arith, on.start_reduced)))
      go (no h) =
          let z : back_on leg leg.first ≡ 0 = ap (λ (x : ℕ). ((full_turn - arc leg) * x + (all leg - 1)) / all leg) none ∙ div-eq_of_lt (omega (arith, on.rising)) in
          behind on (omega arith) ∙ (rw z (omega (arith, on.start_reduced)))
