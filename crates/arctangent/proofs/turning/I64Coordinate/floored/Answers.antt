-- `arctangent::turning::I64Coordinate::floored` meets its contract.
use mathlib.Core.Path.{subst⁻¹}
use Prim.Native.Nat.{◌^◌, ◌≤◌}
use native.Mathlib.Nat.{le_trans}
use lib.IntN.{nat_abs, ℤ}
use Rattle.arithmetic.proofs.FloorLaws.{floor_small}
use Rattle.numbers.proofs.Machine.{Mirror, arg, asked, bounded, kept, shr_by}
use Rattle.arctangent.proofs.turning.I64Coordinate.floored.Goals as goal

pub returns : goal.returns
returns c =
    let z : Mirror = arg c.ranges.self c.requires.0 in
    let small = floor_small z.number (2 ^ c.args.k) in
    let floor : Mirror = kept (bounded (shr_by z (2 ^ c.args.k)) (le_trans small z.bound)) tt in
    (floor.same, (asked floor tt, subst⁻¹ (λ (v : ℤ). nat_abs v ≤ nat_abs z.number) floor.same small))
