-- `boundary::refusals::disks_of` meets its contract.
use mathlib.Core.List.{[], ◌∷◌}
use mathlib.Core.Path.{refl}
use lib.IntN.{nat_abs}
use Rattle.numbers.proofs.Machine.{any, cast_up}
use Rattle.calendar.proofs.RefusalLaws.{alone}
use Rattle.boundary.proofs.DisksLaws.{checked, radii, within}
use Rattle.boundary.proofs.FaultLaws.{handed_up, passed, refused}
use Rattle.boundary.proofs.refusals.disks_of.Goals as goal

pub returns-in_err-unless : goal.returns-in_err-unless
returns-in_err-unless c =
    rw (handed_up c.from_residual.ensures) (refused _ _ (checked _ _ c.ranges.apart c.in_err-unless.ensures c.is_between.ensures))

pub returns-in_err-unless-2 : goal.returns-in_err-unless-2
returns-in_err-unless-2 c =
    rw (handed_up c.from_residual-in_err-unless-2.ensures)
    (passed _ (checked _ _ c.ranges.apart c.in_ok-unless.ensures c.is_between.ensures)
    (refused _ _ (checked _ _ c.ranges.rs c.in_err-unless-2.ensures c.is_between-2.ensures)))

pub returns-in_err-unless-3 : goal.returns-in_err-unless-3
returns-in_err-unless-3 c =
    rw (handed_up c.from_residual-in_err-unless-3.ensures)
    (passed _ (checked _ _ c.ranges.apart c.in_ok-unless.ensures c.is_between.ensures)
    (passed _ (checked _ _ c.ranges.rs c.in_ok-unless-2.ensures c.is_between-2.ensures)
    (alone (checked _ _ c.ranges.rm c.in_err-unless-3.ensures c.is_between-3.ensures))))

pub overflow_cast-result : goal.overflow_cast-result
overflow_cast-result c = cast_up c.ranges.apart (within (checked _ _ c.ranges.apart c.in_ok-unless.ensures c.is_between.ensures) refl).0

pub overflow_cast-result-2 : goal.overflow_cast-result-2
overflow_cast-result-2 c = cast_up c.ranges.rs (within (checked _ _ c.ranges.rs c.in_ok-unless-2.ensures c.is_between-2.ensures) refl).0

pub overflow_cast-result-3 : goal.overflow_cast-result-3
overflow_cast-result-3 c = cast_up c.ranges.rm (within (checked _ _ c.ranges.rm c.in_ok-unless-3.ensures c.is_between-3.ensures) refl).0

pub invariant_of-result : goal.invariant_of-result
invariant_of-result c =
    record { radii = radii (within c.in_ok-unless-2.ensures c.is_between-2.ensures) (within c.in_ok-unless-3.ensures c.is_between-3.ensures) }

pub returns : goal.returns
returns c = (
  passed _ (checked _ _ c.ranges.apart c.in_ok-unless.ensures c.is_between.ensures)
      (passed _ (checked _ _ c.ranges.rs c.in_ok-unless-2.ensures c.is_between-2.ensures)
      (alone (checked _ _ c.ranges.rm c.in_ok-unless-3.ensures c.is_between-3.ensures))),
  λ i. nat_abs ((any c.ranges.apart).same i) ∷ nat_abs ((any c.ranges.rs).same i) ∷ nat_abs ((any c.ranges.rm).same i) ∷ [],
)
