-- `overlap::overlap::millionths` meets its contract.
use mathlib.Core.Path.{◌∙◌, ap}
use Prim.Native.Nat.{◌/◌, min}
use lib.IntN.{nat_abs, pos, ℤ}
use Rattle.std.specs.Int.{int_max}
use Rattle.numbers.proofs.Machine.{any, passed}
use Rattle.overlap.specs.Overlap.{whole}
use Rattle.overlap.proofs.OverlapLaws.{clamped}
use Rattle.overlap.proofs.overlap.millionths.Goals as goal

pub returns : goal.returns
returns c =
    c.min.ensures
    ∙ ap (λ (z : ℤ). min (nat_abs z / 1000) whole) (passed c.max.type_inv (c.max.ensures.value ∙ ap (λ (z : ℤ). int_max z (pos 0)) (any c.ranges.part).same))
    ∙ clamped c.args.part
