-- What the tests of a proposal say in plain words, and back.
use mathlib.Core.Bool.{Bool, ◌&&◌, false, not, true}
use mathlib.Core.List.{List}
use mathlib.Core.Path.{◌∙◌, ◌≡◌, ap, refl, sym}
use Prim.Native.Nat.{◌+◌, ◌-◌, ◌<◌, ◌≤◌, ℕ}
use native.Mathlib.Omega.{arith}
use lib.Dec.{eqb, leb, lit<, ltb}
use lib.IntN.{pos, ℤ}
use lib.ListN.{get_or, length}
use borrow.Author.Tests.{eq-eqb, eqb-false, eqb-true, le-leb, leb-false, leb-true, lt-leb, ltb-false, ltb-true, ne_eqb, not-false}
use Rattle.std.specs.Bool.{MatchBool}
use Rattle.std.specs.List.{AllWithin, HoldsAt, IsAllAdjacentAnswer}
use Rattle.day.specs.Curve.{last_minute, minutes}
use Rattle.heading.proofs.HeadingLaws.{below_turn}
use Rattle.heading.specs.Heading.{clockwise, is_reduced}
use Rattle.number_rules.specs.Angle.{full_turn, half_turn}
use Rattle.turning_points.specs.Arc.{are_opposite}
use Rattle.turning_points.specs.Formed.{EveryPointsFormed, EveryPointsTurned, NeverOpposite, WellFormed}
use Rattle.turning_points.specs.Points.{are_reduced, are_turned, at, azimuth, falls, is_counted, is_formed, is_rising, never_falls, not_reduced, opposite_next, signed_at}
use Rattle.turning_points.proofs.SearchLaws.{and_both, and_intro, at_none, is_nowhere, somewhere}

-- ---- azimuths
module _ (azimuths : List ℤ) where
  pub reduced_at : are_reduced azimuths ≡ true → (i : ℕ) → i < length azimuths → is_reduced (signed_at azimuths i) ≡ true
  unfolding are_reduced not_reduced
  reduced_at e i h = not-false (is_reduced (signed_at azimuths i)) (at_none (not_reduced azimuths) (length azimuths) e i h)

  pub reduced_when : ((i : ℕ) → i < length azimuths → is_reduced (signed_at azimuths i) ≡ true) → are_reduced azimuths ≡ true
  unfolding are_reduced not_reduced
  reduced_when f = is_nowhere (not_reduced azimuths) (length azimuths) (λ i h. ap not (f i h))

  pub azimuth_below : are_reduced azimuths ≡ true → (i : ℕ) → i < length azimuths → azimuth azimuths i < full_turn
  azimuth_below e i h = below_turn (signed_at azimuths i) (reduced_at e i h)

  pub turned_at : are_turned azimuths ≡ true → (i : ℕ) → i + 1 < length azimuths → are_opposite (azimuth azimuths i) (azimuth azimuths (i + 1)) ≡ false
  unfolding are_turned opposite_next
  turned_at e i h = at_none (opposite_next azimuths) (length azimuths - 1) e i (omega arith)

  pub turned_when : ((i : ℕ) → i + 1 < length azimuths → are_opposite (azimuth azimuths i) (azimuth azimuths (i + 1)) ≡ false) → are_turned azimuths ≡ true
  unfolding are_turned opposite_next
  turned_when f = is_nowhere (opposite_next azimuths) (length azimuths - 1) (λ i h. f i (omega (arith, h)))

  pub never_opposite : are_turned azimuths ≡ true → NeverOpposite azimuths
  unfolding are_opposite
  never_opposite e i h = eqb-false (clockwise (azimuth azimuths i) (azimuth azimuths (i + 1))) half_turn (turned_at e i h)

  pub turned_apart : NeverOpposite azimuths → are_turned azimuths ≡ true
  unfolding are_opposite
  turned_apart f = turned_when (λ i h. ne_eqb (clockwise (azimuth azimuths i) (azimuth azimuths (i + 1))) half_turn (f i h))

-- ---- all that 29 asks
module _ (list : List ℕ) (azimuths : List ℤ) where
  abbrev n : ℕ
  n = length list

  pub counted : is_counted (length list) (length azimuths) ≡ true → (length list ≡ length azimuths) × (2 ≤ length list) × (length list ≤ minutes)
  unfolding is_counted
  counted e =
      let same = and_both (eqb n (length azimuths)) (leb 2 n && leb n minutes) e in
      let few = and_both (leb 2 n) (leb n minutes) same.1 in
      (eqb-true n (length azimuths) same.0, leb-true 2 n few.0, leb-true n minutes few.1)

  -- the three tests of a formed proposal
  pub formed_tests : is_formed list azimuths ≡ true → (is_counted n (length azimuths) ≡ true) × (is_rising list ≡ true) × (are_reduced azimuths ≡ true)
  unfolding is_formed
  formed_tests e =
      let a = and_both (is_counted n (length azimuths)) (is_rising list && are_reduced azimuths) e in
      let b = and_both (is_rising list) (are_reduced azimuths) a.1 in
      (a.0, b.0, b.1)

  pub well_formed : is_formed list azimuths ≡ true → WellFormed list azimuths
  unfolding is_rising never_falls falls
  well_formed e =
      let tests = formed_tests e in
      let count = counted tests.0 in
      let a = and_both (eqb (at list 0) 0) (eqb (at list (n - 1)) last_minute && never_falls list) tests.1 in
      let b = and_both (eqb (at list (n - 1)) last_minute) (never_falls list) a.1 in
      record {
        each_with_azimuth = count.0;
        at_least = count.1;
        at_most = count.2;
        starts = eqb-true (at list 0) 0 a.0;
        ends = eqb-true (at list (n - 1)) last_minute b.0;
        rises = λ i h. leb-false (at list (i + 1)) (at list i) (at_none (falls list) (n - 1) b.1 i (omega (arith, h)));
        reduced = reduced_at azimuths tests.2;
      }

  pub formed_when : WellFormed list azimuths → is_formed list azimuths ≡ true
  unfolding is_formed is_counted is_rising never_falls falls
  formed_when f =
      and_intro
      (and_intro (eq-eqb n (length azimuths) f.each_with_azimuth) (and_intro (le-leb 2 n f.at_least) (le-leb n minutes f.at_most)))
      (and_intro
      (and_intro (eq-eqb (at list 0) 0 f.starts)
      (and_intro (eq-eqb (at list (n - 1)) last_minute f.ends)
      (is_nowhere (falls list) (n - 1) (λ i h. lt-leb (at list (i + 1)) (at list i) (f.rises i (omega (arith, h)))))))
      (reduced_when azimuths f.reduced))

-- ---- the claims
pub points_formed : EveryPointsFormed
points_formed list azimuths = (well_formed list azimuths, formed_when list azimuths)

pub points_turned : EveryPointsTurned
points_turned azimuths = (never_opposite azimuths, turned_apart azimuths)

-- ---- what the library tells of a list
pub rising_told : (list : List ℕ) (r : Bool) → IsAllAdjacentAnswer (λ x y b. b ≡ ltb x y) list r → r ≡ never_falls list
unfolding never_falls falls
rising_told list true f = sym (is_nowhere (falls list) (length list - 1) (λ i h. lt-leb (at list (i + 1)) (at list i) (ltb-true (at list i) (at list (i + 1)) (sym (f i 0 (omega arith))))))
rising_told list false (k, h, f) = sym (somewhere (falls list) (length list - 1) k (omega arith) (le-leb (at list (k + 1)) (at list k) (ltb-false (at list k) (at list (k + 1)) (sym (f 0)))))

pub reduced_told : (azimuths : List ℤ) (r : Bool)
    → MatchBool r (AllWithin (λ x. is_reduced x ≡ true) azimuths 0 (length azimuths)) ((k : ℕ) × (k < length azimuths) × HoldsAt (λ x. is_reduced x ≡ false) azimuths k) → r ≡ are_reduced azimuths
unfolding are_reduced not_reduced
reduced_told azimuths true f = sym (is_nowhere (not_reduced azimuths) (length azimuths) (λ i h. ap not (f i (pos 0) (omega arith) h)))
reduced_told azimuths false (k, h, f) = sym (somewhere (not_reduced azimuths) (length azimuths) k h (ap not (f (pos 0))))

-- ---- neighbours, as a slice of their own
pub pair_reduced : (azimuths pair : List ℤ) (i : ℕ) → are_reduced azimuths ≡ true → length pair ≡ 2 → i + 2 ≤ length azimuths
    → ((k : ℕ) (d : ℤ) → k < 2 → get_or pair k d ≡ get_or azimuths (i + k) d) → are_reduced pair ≡ true
pair_reduced azimuths pair i e two room same =
    reduced_when pair (λ k h. ap is_reduced (same k (pos 0) (omega (arith, h))) ∙ reduced_at azimuths e (i + k) (omega (arith, h)))

pub pair_opposite : (azimuths pair : List ℤ) (i : ℕ)
    → ((k : ℕ) (d : ℤ) → k < 2 → get_or pair k d ≡ get_or azimuths (i + k) d) → opposite_next azimuths i ≡ are_opposite (azimuth pair 0) (azimuth pair 1)
unfolding opposite_next
pair_opposite azimuths pair i same = let here : i + 0 ≡ i = omega arith in
    rw (same 0 (pos 0) (lit< tt), same 1 (pos 0) (lit< tt), here) refl
