-- The leg on which a minute lies: there is one on a well-formed proposal, and it is that of the minute before or the next.
use mathlib.Core.Bool.{Bool, false}
use mathlib.Core.List.{List}
use mathlib.Core.Path.{◌∙◌, ◌≡◌, ap, refl, subst⁻¹, sym}
use Prim.Native.Nat.{◌+◌, ◌-◌, ◌<◌, ◌≤◌, suc, zero, zero-le, ℕ}
use native.Mathlib.Decide.{dec_lt}
use native.Mathlib.Omega.{arith}
use lib.Dec.{leb}
use lib.IntN.{ℤ}
use lib.ListN.{length}
use borrow.Author.Tests.{le-leb, leb-false, leb-true, lt-leb}
use Rattle.day.proofs.SearchLaws.{before, is_first, there}
use Rattle.day.specs.Curve.{minutes}
use Rattle.day.specs.Search.{first_where}
use Rattle.heading.proofs.HeadingLaws.{below_turn}
use Rattle.turning_points.proofs.ArcLaws.{at_start}
use Rattle.turning_points.specs.Arc.{OnLeg, value_on}
use Rattle.turning_points.specs.Formed.{WellFormed}
use Rattle.turning_points.specs.Points.{at, leg_at, signed_at}
use Rattle.proposal.specs.Verdict.{leg_of, value_at}

module _ (list : List ℕ) (azimuths : List ℤ) (f : WellFormed list azimuths) where
  -- ---- a later point has no earlier minute
  later_by : (i d : ℕ) → i + d < length list → at list i ≤ at list (i + d)
  later_by i zero h = let e : i + 0 ≡ i = omega arith in rw e (omega arith)
  later_by i (suc d) h =
      let e : i + suc d ≡ i + d + 1 = omega arith in
      rw e (omega (arith, later_by i d (omega arith), f.rises (i + d) (omega arith)))

  pub later : (i j : ℕ) → i ≤ j → j < length list → at list i ≤ at list j
  later i j l h = let e : i + (j - i) ≡ j = omega arith in rw e at (later_by i (j - i) (omega arith))

  pub in_day : (i : ℕ) → i < length list → at list i < minutes
  in_day i h = omega (arith, later i (length list - 1) (omega arith) (omega arith), f.ends)

  pub on_leg : (i m : ℕ) → i + 1 < length list → at list i ≤ m → m ≤ at list (i + 1) → OnLeg (leg_at list azimuths i) m
  on_leg i m h l k =
      record {
        from = l;
        to = k;
        rising = f.rises i h;
        in_day = in_day (i + 1) h;
        start_reduced = below_turn (signed_at azimuths i) (f.reduced i (omega (arith, f.each_with_azimuth)));
        end_reduced = below_turn (signed_at azimuths (i + 1)) (f.reduced (i + 1) (omega (arith, f.each_with_azimuth)));
      }

  -- ---- the leg of a minute
  abbrev reaches : ℕ → ℕ → Bool
  reaches m i = leb m (at list (i + 1))

  pub leg_is : (i m : ℕ) → i + 1 < length list → at list i < m → m ≤ at list (i + 1) → leg_of list m ≡ i
  unfolding leg_of
  leg_is i m h l k =
      is_first (reaches m) (length list - 1) i (omega arith)
      (λ j b. lt-leb m (at list (j + 1)) (omega (arith, later (j + 1) i (omega (arith, b)) (omega arith))))
      (λ _. le-leb m (at list (i + 1)) k)

  pub leg_start : leg_of list 0 ≡ 0
  unfolding leg_of
  leg_start = is_first (reaches 0) (length list - 1) 0 zero-le (λ j b. absurd (omega (arith, b))) (λ _. le-leb 0 (at list (0 + 1)) zero-le)

  -- every minute lies on one
  pub leg_there : (m : ℕ) → m < minutes → leg_of list m + 1 < length list
  unfolding leg_of
  leg_there m h = go (dec_lt (first_where (reaches m) (length list - 1)) (length list - 1))
    where
      last : length list - 2 + 1 ≡ length list - 1
      last = omega (arith, f.at_least)

      go : Dec (first_where (reaches m) (length list - 1) < length list - 1) → first_where (reaches m) (length list - 1) + 1 < length list
      go (yes l) = omega arith
      go (no l) =
          let none = before (reaches m) (length list - 1) (length list - 2) (omega (arith, f.at_least)) in
          absurd (omega (arith, h, leb-false m (at list (length list - 2 + 1)) none, ap (at list) last, f.ends))

  pub on_leg_of : (m : ℕ) → m < minutes → OnLeg (leg_at list azimuths (leg_of list m)) m
  on_leg_of m h = on_leg (leg_of list m) m (leg_there m h) (from (leg_of list m) refl) to
    where
      to : m ≤ at list (leg_of list m + 1)
      to = unfold leg_of in leb-true m (at list (leg_of list m + 1)) (there (reaches m) (length list - 1) (omega (arith, leg_there m h)))

      from : (i : ℕ) → leg_of list m ≡ i → at list i ≤ m
      from zero e = omega (arith, f.starts)
      from (suc i) e = go (unfold leg_of in before (reaches m) (length list - 1) i (omega (arith, e)))
        where
          go : reaches m i ≡ false → at list (suc i) ≤ m
          go none = let same : i + 1 ≡ suc i = omega arith in omega (arith, leb-false m (at list (i + 1)) none, ap (at list) same)

  -- ---- from the leg of the minute before
  module _ (i m : ℕ) (is : i ≡ leg_of list (m - 1)) (h : m < minutes) where
    earlier : OnLeg (leg_at list azimuths i) (m - 1)
    earlier = subst⁻¹ (λ (j : ℕ). OnLeg (leg_at list azimuths j) (m - 1)) is (on_leg_of (m - 1) (omega arith))

    pub leg_before_there : i + 1 < length list
    leg_before_there = omega (arith, is, leg_there (m - 1) (omega arith))

    pub leg_next : at list (i + 1) < m → i + 1 ≡ leg_of list m
    leg_next past = sym (leg_is (i + 1) m more past (omega (arith, earlier.to, f.rises (i + 1) more)))
      where
        more : i + 1 + 1 < length list
        more = go (dec_lt (i + 1 + 1) (length list))
          where
            go : Dec (i + 1 + 1 < length list) → i + 1 + 1 < length list
            go (yes l) = l
            go (no l) =
                let same : i + 1 ≡ length list - 1 = omega (arith, leg_before_there) in
                absurd (omega (arith, h, past, f.ends, ap (at list) same))

    pub leg_same : m ≤ at list (i + 1) → i ≡ leg_of list m
    leg_same reached = go (dec_lt 0 m)
      where
        go : Dec (0 < m) → i ≡ leg_of list m
        go (yes l) = sym (leg_is i m leg_before_there (omega (arith, earlier.from)) reached)
        go (no l) = let same : m - 1 ≡ m = omega arith in is ∙ ap (leg_of list) same

  -- ---- the value at the first minute is the first azimuth
  pub value_start : value_at list azimuths 0 ≡ (leg_at list azimuths 0).start
  unfolding value_at
  value_start =
      rw leg_start
      (ap (value_on (leg_at list azimuths 0)) (sym f.starts)
      ∙ at_start (on_leg 0 (at list 0) (omega (arith, f.at_least)) (omega arith) (omega (arith, f.rises 0 (omega (arith, f.at_least))))))
