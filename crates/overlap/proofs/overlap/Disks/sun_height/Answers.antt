-- `overlap::overlap::Disks::sun_height` meets its contract.
use native.Mathlib.Nat.{mul-le-mul}
use native.Mathlib.Omega.{arith}
use Prim.Native.Nat.{◌+◌, ◌-◌, ◌≤◌}
use borrow.Author.Rules.{rules}
use Rattle.overlap.specs.Overlap.{sun_height}
use Rattle.overlap.proofs.overlap.Disks.sun_height.Goals as goal

pub overflow_mul-result : goal.overflow_mul-result
overflow_mul-result c =
    let a = c.args.self in
    let w : a.sun + a.moon - a.apart ≤ 60_000_000 = omega arith in
    let v : a.apart + a.moon - a.sun ≤ 90_000_000 = omega arith in
    omega (arith, mul-le-mul w v)

pub returns : goal.returns
unfolding sun_height
returns c = search rules
