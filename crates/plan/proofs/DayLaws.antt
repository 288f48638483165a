-- A day that has a plan: the next minute is always reached, the farthest one lies beyond what is reached, and the turning points go on to the last minute.
use mathlib.Core.Bool.{Bool, false, not, true}
use mathlib.Core.List.{List}
use mathlib.Core.Path.{◌∙◌, ◌≡◌, ap, refl, sym}
use Prim.Native.Nat.{◌+◌, ◌-◌, ◌<◌, ◌≤◌, suc, zero, ℕ}
use native.Mathlib.Decide.{dec_lt}
use native.Mathlib.Numerals.{add-one}
use native.Mathlib.Omega.{arith}
use lib.Dec.{eqb}
use lib.IntN.{ℤ}
use borrow.Author.Tests.{eq-eqb, eqb-false, eqb-true, le-ltb, lt-ltb, ne_eqb, not-true}
use Rattle.day.proofs.SearchLaws.{before, clash, is_first, there}
use Rattle.day.specs.Curve.{last_minute, minutes}
use Rattle.day.specs.Search.{first_where}
use Rattle.number_rules.specs.Angle.{full_turn}
use Rattle.turning_points.proofs.ArcLaws.{at_end, distance_same}
use Rattle.turning_points.proofs.PointLaws.{azimuth_below, turned_at}
use Rattle.turning_points.proofs.SearchLaws.{and_both, and_intro, at_none, is_nowhere}
use Rattle.turning_points.specs.Arc.{OnLeg, are_opposite, distance, value_on}
use Rattle.turning_points.specs.Points.{are_reduced, are_turned, azimuth, nowhere}
use Rattle.plan.specs.Plan.{EachMinute, Plannable, count, farthest, is_off, is_possible, reaches, straight, turning}

pub plannable : (day : List ℤ) → EachMinute day → is_possible day ≡ true → Plannable day
unfolding is_possible
plannable day whole e =
    let a = and_both (are_reduced day) (are_turned day) e in
    record { whole = whole; reduced = a.0; turned = a.1 }

module _ (tolerance : ℕ) (day : List ℤ) (p : Plannable day) where
  pub azimuth_in : (m : ℕ) → m ≤ last_minute → azimuth day m < full_turn
  azimuth_in m h = azimuth_below day p.reduced m (omega (arith, p.whole))

  pub day_leg : (a b m : ℕ) → a < b → b ≤ last_minute → a ≤ m → m ≤ b → OnLeg (straight day a b) m
  day_leg a b m h k l r =
      record { from = l; to = r; rising = h; in_day = omega arith; start_reduced = azimuth_in a (omega arith); end_reduced = azimuth_in b k }

  -- ---- what is reached
  module _ (a b : ℕ) where
    pub reached_apart : reaches tolerance day a b ≡ true → are_opposite (azimuth day a) (azimuth day b) ≡ false
    unfolding reaches
    reached_apart e =
        not-true (are_opposite (azimuth day a) (azimuth day b))
        (and_both (not (are_opposite (azimuth day a) (azimuth day b))) (nowhere (is_off tolerance day a b) (b + 1)) e).0

    pub reached_on : reaches tolerance day a b ≡ true → (m : ℕ) → m ≤ b → is_off tolerance day a b m ≡ false
    unfolding reaches
    reached_on e m h =
        at_none (is_off tolerance day a b) (b + 1)
        (and_both (not (are_opposite (azimuth day a) (azimuth day b))) (nowhere (is_off tolerance day a b) (b + 1)) e).1 m (omega arith)

    pub reached_when : are_opposite (azimuth day a) (azimuth day b) ≡ false → ((m : ℕ) → m ≤ b → is_off tolerance day a b m ≡ false) → reaches tolerance day a b ≡ true
    unfolding reaches
    reached_when apart on = and_intro (ap not apart) (is_nowhere (is_off tolerance day a b) (b + 1) (λ m h. on m (omega (arith, h))))

    -- a minute that is not after a is not judged
    pub not_after : (m : ℕ) → m ≤ a → is_off tolerance day a b m ≡ false
    unfolding is_off
    not_after m h = rw (le-ltb a m h) refl

  -- at its end a leg is where the day is
  end_on : (a b : ℕ) → a < b → b ≤ last_minute → is_off tolerance day a b b ≡ false
  unfolding is_off
  end_on a b h k =
      let value = value_on (straight day a b) b in
      let same : distance value (azimuth day b) ≡ 0 = ap (λ (n : ℕ). distance n (azimuth day b)) (at_end (day_leg a b b h k (omega arith) (omega arith))) ∙ distance_same (azimuth day b) (azimuth_in b k) in
      rw (lt-ltb a b h) (le-ltb tolerance (distance value (azimuth day b)) (omega (arith, same)))

  pub next_reached : (a : ℕ) → a < last_minute → reaches tolerance day a (a + 1) ≡ true
  next_reached a h = reached_when a (a + 1) (turned_at day p.turned a (omega (arith, p.whole))) (λ m k. on m (dec_lt a m) k)
    where
      on : (m : ℕ) → Dec (a < m) → m ≤ a + 1 → is_off tolerance day a (a + 1) m ≡ false
      on m (yes l) k = let same : m ≡ a + 1 = omega arith in ap (is_off tolerance day a (a + 1)) same ∙ end_on a (a + 1) (omega arith) (omega arith)
      on m (no l) k = not_after a (a + 1) m (omega arith)

  -- ---- the farthest minute
  pub farthest_most : (a : ℕ) → farthest tolerance day a ≤ last_minute
  unfolding farthest
  farthest_most a = omega arith

  module _ (a : ℕ) (h : a < last_minute) where
    abbrev from_end : ℕ → Bool
    from_end k = reaches tolerance day a (last_minute - k)

    abbrev passed : ℕ
    passed = first_where from_end (last_minute - a)

    some_reached : passed < last_minute - a
    some_reached = go (dec_lt passed (last_minute - a))
      where
        go : Dec (passed < last_minute - a) → passed < last_minute - a
        go (yes l) = l
        go (no l) =
            let none : from_end (last_minute - a - 1) ≡ false = before from_end (last_minute - a) (last_minute - a - 1) (omega arith) in
            let next : last_minute - (last_minute - a - 1) ≡ a + 1 = omega arith in
            absurd (clash (next_reached a h) (rw next at none))

    pub farthest_later : a < farthest tolerance day a
    unfolding farthest
    farthest_later = omega (arith, some_reached)

    pub farthest_reached : reaches tolerance day a (farthest tolerance day a) ≡ true
    unfolding farthest
    farthest_reached = there from_end (last_minute - a) some_reached

    pub farthest_beyond : (e : ℕ) → farthest tolerance day a < e → e ≤ last_minute → reaches tolerance day a e ≡ false
    unfolding farthest
    farthest_beyond e l k =
        let same : last_minute - (last_minute - e) ≡ e = omega arith in
        rw same at (before from_end (last_minute - a) (last_minute - e) (omega arith))

    -- a search from the end of the day
    pub farthest_is : (b : ℕ) → a < b → b ≤ last_minute → reaches tolerance day a b ≡ true → ((e : ℕ) → b < e → e ≤ last_minute → reaches tolerance day a e ≡ false)
        → farthest tolerance day a ≡ b
    unfolding farthest
    farthest_is b l k reached beyond =
        let here : last_minute - (last_minute - b) ≡ b = omega arith in
        let found : passed ≡ last_minute - b =
        is_first from_end (last_minute - a) (last_minute - b) (omega arith) (λ i g. beyond (last_minute - i) (omega (arith, g)) (omega arith)) (λ _. rw here reached) in
        omega (arith, found)

    pub still_later : (b : ℕ) → a < b → reaches tolerance day a b ≡ false → a < b - 1
    still_later b l isn't = go (dec_lt (a + 1) b)
      where
        go : Dec (a + 1 < b) → a < b - 1
        go (yes g) = omega arith
        go (no g) = let same : a + 1 ≡ b = omega arith in absurd (clash (next_reached a h) (rw same isn't))

  -- ---- the turning points
  pub turning_in : (i : ℕ) → turning tolerance day i ≤ last_minute
  unfolding turning
  turning_in zero = omega arith
  turning_in (suc i) = farthest_most (turning tolerance day i)

  pub turning_next : (i : ℕ) → turning tolerance day (i + 1) ≡ farthest tolerance day (turning tolerance day i)
  unfolding turning
  turning_next i = rw (add-one i) refl

  -- until the last minute, each is later than the one before, and so no earlier than its number
  pub turning_late : (i : ℕ) → ((j : ℕ) → j < i → turning tolerance day j < last_minute) → i ≤ turning tolerance day i
  unfolding turning
  turning_late zero f = omega arith
  turning_late (suc i) f = omega (arith, turning_late i (λ j h. f j (omega (arith, h))), farthest_later (turning tolerance day i) (f i (omega arith)))

  -- the number of legs
  abbrev pub legs : ℕ
  legs = first_where (λ i. eqb (turning tolerance day i) last_minute) minutes

  -- so many as came before the first point at the last minute
  pub legs_are : (n : ℕ) → turning tolerance day n ≡ last_minute → ((i : ℕ) → i < n → turning tolerance day i < last_minute) → n + 1 ≡ count tolerance day
  unfolding count
  legs_are n here earlier =
      let few : n ≤ last_minute = omega (arith, turning_late n earlier, here) in
      ap (λ (k : ℕ). k + 1)
      (sym (is_first (λ i. eqb (turning tolerance day i) last_minute) minutes n (omega arith)
      (λ i h. ne_eqb (turning tolerance day i) last_minute (λ e. omega (arith, e, earlier i h))) (λ _. eq-eqb (turning tolerance day n) last_minute here)))

  pub count_is : count tolerance day ≡ legs + 1
  unfolding count
  count_is = refl

  pub turning_before : (i : ℕ) → i < legs → turning tolerance day i < last_minute
  turning_before i h =
      let other = eqb-false (turning tolerance day i) last_minute (before (λ (k : ℕ). eqb (turning tolerance day k) last_minute) minutes i h) in
      go (dec_lt (turning tolerance day i) last_minute) other
    where
      go : Dec (turning tolerance day i < last_minute) → (turning tolerance day i ≡ last_minute → ⊥) → turning tolerance day i < last_minute
      go (yes l) other = l
      go (no l) other = absurd (other (omega (arith, l, turning_in i)))

  pub legs_most : legs < minutes
  legs_most = go (dec_lt legs minutes)
    where
      go : Dec (legs < minutes) → legs < minutes
      go (yes l) = l
      go (no l) =
          absurd (omega (arith, turning_late last_minute (λ j h. turning_before j (omega (arith, h, l))), turning_before last_minute (omega (arith, l))))

  pub turning_last : turning tolerance day legs ≡ last_minute
  turning_last = eqb-true (turning tolerance day legs) last_minute (there (λ (k : ℕ). eqb (turning tolerance day k) last_minute) minutes legs_most)

  pub turning_rises : (i : ℕ) → i < legs → turning tolerance day i < turning tolerance day (i + 1)
  turning_rises i h = omega (arith, turning_next i, farthest_later (turning tolerance day i) (turning_before i h))

  pub some_legs : 0 < legs
  some_legs = go (dec_lt 0 legs)
    where
      go : Dec (0 < legs) → 0 < legs
      go (yes l) = l
      go (no l) = let none : legs ≡ 0 = omega arith in absurd (first_is (rw none at turning_last))
        where
          first_is : turning tolerance day 0 ≡ last_minute → ⊥
          first_is e = unfold turning in omega (arith, e)
