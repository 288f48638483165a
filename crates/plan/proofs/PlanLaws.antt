-- Why a plan is never refused, and needs each of its points. On each of its legs no minute is off, since the leg was reached. And a plan without an inner point has the leg from the point before to
-- the point behind: were it accepted, the search from the point before would have reached the point behind, but it went on to the farthest minute, which lies before that.
use mathlib.Core.Bool.{false, true}
use mathlib.Core.List.{List}
use mathlib.Core.Logic.{◌⊎◌}
use mathlib.Core.Path.{◌∙◌, ◌≡◌, ap, refl, sym}
use Prim.Native.Nat.{◌+◌, ◌-◌, ◌<◌, ◌≤◌, suc, zero, ℕ}
use native.Mathlib.Decide.{dec_lt}
use native.Mathlib.Numerals.{add-one}
use native.Mathlib.Omega.{arith}
use lib.Dec.{ltb}
use lib.IntN.{nat_abs, pos, ℤ}
use lib.ListN.{length}
use borrow.Author.Tests.{le-ltb, lt-ltb}
use Rattle.std.specs.Prelude.{Some}
use Rattle.arctangent.specs.Direction.{Direction}
use Rattle.calendar.specs.Refusal.{first}
use Rattle.day.proofs.CurveLaws.{below_entry, below_length}
use Rattle.day.proofs.SearchLaws.{clash}
use Rattle.day.specs.Curve.{last_minute}
use Rattle.heading.specs.Heading.{is_reduced}
use Rattle.proposal.proofs.LegLaws.{leg_is, value_start}
use Rattle.proposal.proofs.VerdictLaws.{Unrefused, refused_later, unrefused}
use Rattle.proposal.specs.Verdict.{is_out, leg_of, out_at, proposal_refusals, value_at}
use Rattle.turning_points.proofs.ArcLaws.{distance_same}
use Rattle.turning_points.proofs.PointLaws.{formed_when, reduced_at, turned_at, turned_when}
use Rattle.turning_points.specs.Arc.{are_opposite, distance, value_on}
use Rattle.turning_points.specs.Formed.{WellFormed}
use Rattle.turning_points.specs.Points.{are_turned, at, azimuth, leg_at, signed_at}
use Rattle.turning_points.specs.declared.arc.Leg.{Leg}
use Rattle.plan.specs.Claims.{without}
use Rattle.plan.specs.Plan.{Plannable, count, is_off, plan_azimuths, plan_minutes, reaches, straight, turning}
use Rattle.plan.proofs.DayLaws.{azimuth_in, count_is, farthest_beyond, farthest_reached, legs, legs_most, not_after, reached_apart, reached_on, reached_when, some_legs, turning_before, turning_in, turning_last, turning_next, turning_rises}
use Rattle.plan.proofs.WithoutLaws.{azimuth_after, azimuth_before, azimuths_left, minute_after, minute_before, minutes_left, well_formed_without}

module _ (tolerance : ℕ) (day : List ℤ) (p : Plannable day) where
  abbrev list : List ℕ
  list = plan_minutes tolerance day

  abbrev azimuths : List ℤ
  azimuths = plan_azimuths tolerance day

  abbrev point : ℕ → ℕ
  point = turning tolerance day

  abbrev all : ℕ
  all = legs tolerance day p

  -- ---- its two lists
  pub list_length : length list ≡ all + 1
  unfolding plan_minutes
  list_length = below_length point (count tolerance day) ∙ count_is tolerance day p

  pub azimuths_length : length azimuths ≡ all + 1
  unfolding plan_azimuths
  azimuths_length = below_length (λ i. signed_at day (point i)) (count tolerance day) ∙ count_is tolerance day p

  list_at : (i : ℕ) → i ≤ all → at list i ≡ point i
  unfolding plan_minutes
  list_at i h = below_entry point 0 (count tolerance day) i (omega (arith, count_is tolerance day p))

  signed_is : (i : ℕ) → i ≤ all → signed_at azimuths i ≡ signed_at day (point i)
  unfolding plan_azimuths
  signed_is i h = below_entry (λ k. signed_at day (point k)) (pos 0) (count tolerance day) i (omega (arith, count_is tolerance day p))

  azimuth_is : (i : ℕ) → i ≤ all → azimuth azimuths i ≡ azimuth day (point i)
  azimuth_is i h = ap nat_abs (signed_is i h)

  reached : (i : ℕ) → i < all → reaches tolerance day (point i) (point (i + 1)) ≡ true
  reached i h = rw (turning_next tolerance day p i) (farthest_reached tolerance day p (point i) (turning_before tolerance day p i h))

  well : WellFormed list azimuths
  well =
      record {
        each_with_azimuth = list_length ∙ sym azimuths_length;
        at_least = omega (arith, list_length, some_legs tolerance day p);
        at_most = omega (arith, list_length, legs_most tolerance day p);
        starts = list_at 0 (omega arith) ∙ (unfold turning in refl);
        ends = ap (λ (n : ℕ). at list (n - 1)) list_length ∙ ap (at list) end ∙ list_at all (omega arith) ∙ turning_last tolerance day p;
        rises = λ i h. rises i (omega (arith, h, list_length));
        reduced = λ i h. reduced i (omega (arith, h, azimuths_length));
      }
    where
      end : all + 1 - 1 ≡ all
      end = omega arith

      rises : (i : ℕ) → i < all → at list i < at list (i + 1)
      rises i h = rw (list_at i (omega arith), list_at (i + 1) (omega arith)) (turning_rises tolerance day p i h)

      reduced : (i : ℕ) → i ≤ all → is_reduced (signed_at azimuths i) ≡ true
      reduced i h = ap is_reduced (signed_is i h) ∙ reduced_at day p.reduced (point i) (omega (arith, turning_in tolerance day p i, p.whole))

  turned : are_turned azimuths ≡ true
  turned = turned_when azimuths (λ i h. apart i (omega (arith, h, azimuths_length)))
    where
      apart : (i : ℕ) → i < all → are_opposite (azimuth azimuths i) (azimuth azimuths (i + 1)) ≡ false
      apart i h = rw (azimuth_is i (omega arith), azimuth_is (i + 1) (omega arith)) (reached_apart tolerance day p (point i) (point (i + 1)) (reached i h))

  -- ---- against a day whose azimuth is known at each minute
  module _ (worked : ℕ → Direction) (known : (m : ℕ) → m ≤ last_minute → worked m ≡ Some (record { units = azimuth day m })) where
    -- on a leg between two azimuths of the day a minute is out exactly where it is off
    module _ (ms : List ℕ) (az : List ℤ) (f : WellFormed ms az) (i a b : ℕ) (h : i + 1 < length ms)
        (from : at ms i ≡ a) (to : at ms (i + 1) ≡ b) (start : azimuth az i ≡ azimuth day a) (end : azimuth az (i + 1) ≡ azimuth day b) where
      out_is_off : (m : ℕ) → a < m → m ≤ b → b ≤ last_minute → out_at tolerance worked ms az m ≡ is_off tolerance day a b m
      unfolding out_at value_at is_off is_out
      out_is_off m l k in_day =
          let leg : leg_at ms az (leg_of ms m) ≡ straight day a b =
          ap (leg_at ms az) (leg_is ms az f i m h (omega (arith, from, l)) (omega (arith, to, k))) ∙ (λ j. record { first = from j; last = to j; start = start j; end = end j }) in
          ap (λ (d : Direction). is_out tolerance d (value_on (leg_at ms az (leg_of ms m)) m)) (known m (omega arith))
          ∙ ap (λ (x : Leg). ltb tolerance (distance (value_on x m) (azimuth day m))) leg
          ∙ sym (rw (lt-ltb a m l) refl)

    -- ---- never refused
    start_in : out_at tolerance worked list azimuths 0 ≡ false
    unfolding out_at is_out
    start_in =
        let first_is : point 0 ≡ 0 = unfold turning in refl in
        let value : value_at list azimuths 0 ≡ azimuth day 0 = value_start list azimuths well ∙ azimuth_is 0 (omega arith) ∙ ap (azimuth day) first_is in
        ap (λ (d : Direction). is_out tolerance d (value_at list azimuths 0)) (known 0 (omega arith))
        ∙ le-ltb tolerance (distance (value_at list azimuths 0) (azimuth day 0))
        (omega (arith, ap (λ (n : ℕ). distance n (azimuth day 0)) value, distance_same (azimuth day 0) (azimuth_in tolerance day p 0 (omega arith))))

    leg_in : (i m : ℕ) → i < all → point i < m → m ≤ point (i + 1) → out_at tolerance worked list azimuths m ≡ false
    leg_in i m h l k =
        out_is_off list azimuths well i (point i) (point (i + 1)) (omega (arith, list_length)) (list_at i (omega arith)) (list_at (i + 1) (omega arith)) (azimuth_is i (omega arith)) (azimuth_is (i + 1) (omega arith)) m l k (turning_in tolerance day p (i + 1))
        ∙ reached_on tolerance day p (point i) (point (i + 1)) (reached i h) m k

    up_to : (i : ℕ) → i ≤ all → (m : ℕ) → m ≤ point i → out_at tolerance worked list azimuths m ≡ false
    up_to zero h m l = let same : m ≡ 0 = unfold turning in omega (arith, l) in ap (out_at tolerance worked list azimuths) same ∙ start_in
    up_to (suc i) h m l = go (up_to i (omega arith)) (dec_lt (point i) m)
      where
        go : ((m : ℕ) → m ≤ point i → out_at tolerance worked list azimuths m ≡ false) → Dec (point i < m) → out_at tolerance worked list azimuths m ≡ false
        go earlier (yes g) = leg_in i m (omega arith) g (rw (add-one i) l)
        go earlier (no g) = earlier m (omega arith)

    pub plan_unrefused : Unrefused tolerance worked list azimuths
    plan_unrefused =
        record { formed = formed_when list azimuths well; turned = turned; within = λ m h. up_to all (omega arith) m (omega (arith, h, turning_last tolerance day p)) }

    -- ---- each inner point is needed
    module _ (i : ℕ) (inner : 0 < i) (h : i < all) where
      abbrev left : List ℕ
      left = without i list

      abbrev azimuths_too : List ℤ
      azimuths_too = without i azimuths

      more : i + 1 < length list
      more = omega (arith, list_length)

      well_left : WellFormed left azimuths_too
      well_left = well_formed_without list azimuths well i inner more

      -- the point before, and the point behind
      abbrev j : ℕ
      j = i - 1

      next : j + 1 ≡ i
      next = omega arith

      minute_j : at left j ≡ point j
      minute_j = minute_before list azimuths well i inner more j (omega arith) ∙ list_at j (omega arith)

      minute_next : at left (j + 1) ≡ point (i + 1)
      minute_next = ap (at left) next ∙ minute_after list azimuths well i inner more i (omega arith) ∙ list_at (i + 1) (omega arith)

      azimuth_j : azimuth azimuths_too j ≡ azimuth day (point j)
      azimuth_j = ap nat_abs (azimuth_before list azimuths well i inner more j (omega arith)) ∙ azimuth_is j (omega arith)

      azimuth_next : azimuth azimuths_too (j + 1) ≡ azimuth day (point (i + 1))
      azimuth_next = ap (azimuth azimuths_too) next ∙ ap nat_abs (azimuth_after list azimuths well i inner more i (omega arith)) ∙ azimuth_is (i + 1) (omega arith)

      -- were it accepted, the point behind would be reached from the point before
      would_reach : Unrefused tolerance worked left azimuths_too → reaches tolerance day (point j) (point (i + 1)) ≡ true
      would_reach u = reached_when tolerance day p (point j) (point (i + 1)) apart (λ m k. on m (dec_lt (point j) m) k)
        where
          apart : are_opposite (azimuth day (point j)) (azimuth day (point (i + 1))) ≡ false
          apart = rw (azimuth_j, azimuth_next) at (turned_at azimuths_too u.turned j (omega (arith, azimuths_left list azimuths well i inner more, list_length)))

          on : (m : ℕ) → Dec (point j < m) → m ≤ point (i + 1) → is_off tolerance day (point j) (point (i + 1)) m ≡ false
          on m (yes l) k =
              sym (out_is_off left azimuths_too well_left j (point j) (point (i + 1)) (omega (arith, minutes_left list azimuths well i inner more, list_length)) minute_j minute_next azimuth_j azimuth_next m l k (turning_in tolerance day p (i + 1)))
              ∙ u.within m (omega (arith, k, turning_in tolerance day p (i + 1)))
          on m (no l) k = not_after tolerance day p (point j) (point (i + 1)) m (omega arith)

      -- but the farthest minute from there is the point that was dropped
      never : first (proposal_refusals tolerance worked left azimuths_too) ≡ 0 → ⊥
      never e =
          let dropped : point (j + 1) ≡ point i = ap point next in
          let behind = farthest_beyond tolerance day p (point j) (turning_before tolerance day p j (omega arith)) (point (i + 1))
          (omega (arith, turning_next tolerance day p j, dropped, turning_rises tolerance day p i h)) (turning_in tolerance day p (i + 1)) in
          clash (would_reach (unrefused tolerance worked left azimuths_too e)) behind

      pub dropped_refused : (first (proposal_refusals tolerance worked left azimuths_too) ≡ 30) ⊎ (first (proposal_refusals tolerance worked left azimuths_too) ≡ 31)
      dropped_refused = refused_later tolerance worked left azimuths_too (formed_when left azimuths_too well_left) never
