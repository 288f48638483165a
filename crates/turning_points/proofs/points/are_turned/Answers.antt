-- `points::are_turned` meets its contract. The invariant: no pair so far is opposite, and what is left of the list is its end.
use mathlib.Core.Bool.{true}
use mathlib.Core.List.{List}
use mathlib.Core.Path.{◌∙◌, ◌≡◌, sym}
use Prim.Native.Nat.{◌+◌, ◌-◌, ◌<◌, ◌≤◌, ℕ}
use native.Mathlib.Omega.{arith}
use lib.IntN.{ℤ}
use lib.ListN.{drop, get_or, length}
use borrow.Author.Count.{below_more}
use Rattle.std.proofs.Common.{rules}
use Rattle.std.proofs.lemmas.Iterator.{window_more}
use Rattle.std.specs.Slice.Iter.{windows_rest, windows_size}
use Rattle.turning_points.specs.Arc.{are_opposite}
use Rattle.turning_points.specs.Points.{are_reduced, are_turned, opposite_next}
use Rattle.turning_points.proofs.PointLaws.{azimuth_below, pair_opposite, pair_reduced}
use Rattle.turning_points.proofs.SearchLaws.{is_nowhere, somewhere}
use Rattle.turning_points.proofs.points.are_turned.Goals as goal
use Rattle.turning_points.proofs.points.are_turned.Goals.{After-are_opposite, After-azimuth_at, In-Some}

-- a pair of neighbours
module _ (c : In-Some) where
  abbrev all : List ℤ
  all = c.args.azimuths.now

  abbrev left : List ℤ
  left = windows_rest c.loop-pair.pair-iterator

  abbrev passed : ℕ
  passed = length all - length left

  abbrev pair : List ℤ
  pair = c.in-Some.pair.now

  turn : (length (windows_rest c.next.new.self) + 1 ≡ length left) × (windows_rest c.next.new.self ≡ drop (length all - length (windows_rest c.next.new.self)) all)
      × (windows_size c.loop-pair.pair-iterator ≤ length left) × ((k : ℕ) (d : ℤ) → k < windows_size c.loop-pair.pair-iterator → get_or pair k d ≡ get_or all (passed + k) d)
  turn = window_more all c.loop-pair.pair-iterator c.next.new.self _ _ c.in-Some.is c.next.ensures.steps (search rules) (search rules) (search rules)

  same : (k : ℕ) (d : ℤ) → k < 2 → get_or pair k d ≡ get_or all (passed + k) d
  same k d h = turn.3 k d (omega (arith, c.loop-pair.invariant.0))

  two : length pair ≡ 2
  two = search rules

  reduced : are_reduced pair ≡ true
  reduced = pair_reduced all pair passed c.requires two (omega (arith, turn.2, c.loop-pair.invariant.0, c.loop-pair.invariant.1)) same

next_is : (c : After-are_opposite) → opposite_next c.args.azimuths.now (passed (goal.at.After-are_opposite c).In-Some) ≡ c.are_opposite.result
next_is c =
    let t = (goal.at.After-are_opposite c).In-Some in
    pair_opposite (all t) (pair t) (passed t) (same t) ∙ sym (c.are_opposite.ensures ∙ (λ i. are_opposite (c.azimuth_at.ensures i) (c.azimuth_at-in-loop-pair.ensures i)))

pub azimuth_at-requires : goal.azimuth_at-requires
azimuth_at-requires c = (reduced c, omega (arith, two c))

pub azimuth_at-requires-in-loop-pair : goal.azimuth_at-requires-in-loop-pair
azimuth_at-requires-in-loop-pair c = let t = (goal.at.azimuth_at-requires-in-loop-pair c).In-Some in (reduced t, omega (arith, two t))

pub are_opposite-requires : goal.are_opposite-requires
are_opposite-requires c =
    let t = (goal.at.are_opposite-requires c).In-Some in (
      omega (arith, c.azimuth_at.ensures, azimuth_below (pair t) (reduced t) 0 (omega (arith, two t))),
      omega (arith, c.azimuth_at-in-loop-pair.ensures, azimuth_below (pair t) (reduced t) 1 (omega (arith, two t))),
    )

pub returns-then-are_opposite : goal.returns-then-are_opposite
unfolding are_turned
returns-then-are_opposite c =
    let k = (goal.at.returns-then-are_opposite c).After-are_opposite in
    let t = (goal.at.After-are_opposite k).In-Some in
    sym (somewhere (opposite_next (all t)) (length (all t) - 1) (passed t) (omega (arith, (turn t).2, t.loop-pair.invariant.0, t.loop-pair.invariant.1)) (next_is k ∙ c.if-are_opposite.true))

pub loop-pair-preserved : goal.loop-pair-preserved
loop-pair-preserved c =
    let k = (goal.at.loop-pair-preserved c).After-are_opposite in
    let t = (goal.at.After-are_opposite k).In-Some in
    let rest = windows_rest t.next.new.self in
    let more : length (all t) - length rest ≡ passed t + 1 = omega (arith, (turn t).0, t.loop-pair.invariant.1) in (
      search rules,
      omega (arith, (turn t).0, t.loop-pair.invariant.1),
      (turn t).1,
      rw more (below_more _ _ t.loop-pair.invariant.3 (next_is k ∙ c.if-are_opposite.false)),
    )

pub returns : goal.returns
unfolding are_turned
returns c =
    let azimuths = c.args.azimuths.now in
    sym (is_nowhere (opposite_next azimuths) (length azimuths - 1) (λ i h. c.loop-pair.invariant.3 i (search rules)))
