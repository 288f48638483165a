-- `arctangent::turning::I64Coordinate::plus_times` meets its contract.
use Rattle.numbers.proofs.Machine.{Mirror, ◌⊕◌, ◌⊗◌, arg, asked, bounded, kept}
use Rattle.arctangent.proofs.turning.I64Coordinate.plus_times.Goals as goal

pub returns : goal.returns
returns c =
    let sum : Mirror = kept (arg c.ranges.self c.requires.0 ⊕ kept (arg c.ranges.c c.requires.2 ⊗ arg c.ranges.other c.requires.1) tt) tt in
    (sum.same, asked (bounded sum c.requires.3) tt)
