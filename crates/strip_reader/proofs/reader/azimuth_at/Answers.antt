-- `reader::azimuth_at` meets its contract.
use mathlib.Core.Path.{◌∙◌, ◌≡◌, ap, sym}
use Prim.Native.Nat.{◌/◌, ◌<◌}
use native.Mathlib.Omega.{arith}
use lib.Dec.{lit≤}
use lib.ListN.{length}
use borrow.Author.Tests.{eq-eqb, le-ltb, lt-ltb, ne_eqb}
use Rattle.strip.proofs.AzimuthLaws.{entry_in}
use Rattle.strip.specs.Checks.{absent, full_turn}
use Rattle.strip.specs.Format.{azimuth_size}
use Rattle.strip_reader.specs.Reading.{azimuth_at, azimuth_of}
use Rattle.strip_reader.proofs.reader.azimuth_at.Goals as goal
use Rattle.strip_reader.proofs.reader.azimuth_at.Goals.{After-number_at-number, Start}

-- the number that stands there
module _ (c : After-number_at-number) where
  abbrev s : Start
  s = (goal.at.After-number_at-number c).Start

  here : s.args.step < length s.args.part.now / azimuth_size
  here = c.if-part-step.false

  found : azimuth_of c.number_at-number.result ≡ azimuth_at s.args.part.now s.args.step
  unfolding azimuth_at
  found = ap azimuth_of (c.number_at-number.ensures ∙ entry_in s.args.part.now s.args.step here) ∙ sym (simp (lt-ltb s.args.step (length s.args.part.now / azimuth_size) here))

pub returns-then-part-step : goal.returns-then-part-step
unfolding azimuth_at
returns-then-part-step c = sym (simp (le-ltb c.args.step (length c.args.part.now / azimuth_size) c.if-part-step.true))

pub overflow_mul-step : goal.overflow_mul-step
overflow_mul-step c = omega (arith, c.if-part-step.false, c.well_formed.0.0)

pub number_at-number-requires : goal.number_at-number-requires
number_at-number-requires c = (omega (arith, c.if-part-step.false), lit≤ tt)

pub returns-then-number-lt-FULL_TURN : goal.returns-then-number-lt-FULL_TURN
returns-then-number-lt-FULL_TURN c = let k = (goal.at.returns-then-number-lt-FULL_TURN c).After-number_at-number in sym (simp (lt-ltb k.number_at-number.result full_turn c.if-number-lt-FULL_TURN.true)) ∙ found k

pub returns-then-number : goal.returns-then-number
returns-then-number c = let k = (goal.at.returns-then-number c).After-number_at-number in sym (simp (le-ltb k.number_at-number.result full_turn c.if-number-lt-FULL_TURN.false, eq-eqb k.number_at-number.result absent c.if-number.true)) ∙ found k

pub returns : goal.returns
returns c = let k = (goal.at.returns c).After-number_at-number in sym (simp (le-ltb k.number_at-number.result full_turn c.if-number-lt-FULL_TURN.false, ne_eqb k.number_at-number.result absent c.if-number.false)) ∙ found k
