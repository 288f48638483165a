-- `judge::next_leg` meets its contract.
use Prim.Native.Nat.{◌+◌, ◌<◌}
use native.Mathlib.Omega.{arith}
use lib.ListN.{length}
use Rattle.turning_points.proofs.PointLaws.{well_formed}
use Rattle.turning_points.specs.Formed.{WellFormed}
use Rattle.proposal.proofs.LegLaws.{leg_before_there, leg_next, leg_same}
use Rattle.proposal.proofs.judge.next_leg.Goals as goal
use Rattle.proposal.proofs.judge.next_leg.Goals.{Start}

module _ (s : Start) where
  well : WellFormed s.args.points.minutes.now s.args.points.azimuths.now
  well = well_formed s.args.points.minutes.now s.args.points.azimuths.now s.requires.formed

  there : s.args.leg + 1 < length s.args.points.minutes.now
  there = leg_before_there s.args.points.minutes.now s.args.points.azimuths.now well s.args.leg s.args.minute s.requires.leg_value.0 (omega (arith, s.requires.leg_value.1))

pub overflow_add-leg : goal.overflow_add-leg
overflow_add-leg c = omega (arith, there (goal.at.overflow_add-leg c).Start, (well (goal.at.overflow_add-leg c).Start).at_most)

pub minute-requires : goal.minute-requires
minute-requires c = there (goal.at.minute-requires c).Start

pub overflow_add-result : goal.overflow_add-result
overflow_add-result c = let s = (goal.at.overflow_add-result c).Start in omega (arith, there s, (well s).at_most)

pub returns-then-minute : goal.returns-then-minute
returns-then-minute c =
    let s = (goal.at.returns-then-minute c).Start in
    let a = s.args in
    leg_next a.points.minutes.now a.points.azimuths.now (well s) a.leg a.minute s.requires.leg_value.0 (omega (arith, s.requires.leg_value.1)) (omega (arith, c.minute.ensures, c.if-minute.true))

pub returns-else-minute : goal.returns-else-minute
returns-else-minute c =
    let s = (goal.at.returns-else-minute c).Start in
    let a = s.args in
    leg_same a.points.minutes.now a.points.azimuths.now (well s) a.leg a.minute s.requires.leg_value.0 (omega (arith, s.requires.leg_value.1)) (omega (arith, c.minute.ensures, c.if-minute.false))
