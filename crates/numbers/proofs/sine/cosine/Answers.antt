-- `numbers::sine::cosine` meets its contract.
use mathlib.Core.Path.{◌∙◌, ap, sym}
use Prim.Native.Nat.{◌%◌, ◌+◌, ℕ}
use native.Mathlib.Omega.{arith}
use Rattle.number_rules.specs.Angle.{full_turn, quarter_turn}
use Rattle.number_rules.specs.Sine.{sine_at}
use Rattle.numbers.proofs.Machine.{passed}
use Rattle.number_rules.proofs.SineLaws.{cosine_is}
use Rattle.numbers.proofs.AngleLaws.{new_below, new_is}
use Rattle.numbers.proofs.sine.cosine.Goals as goal

pub quarter_on-requires : goal.quarter_on-requires
quarter_on-requires c = new_below c.ranges.x c.new-a.ensures

pub sine_at-requires : goal.sine_at-requires
sine_at-requires c = omega (arith, c.quarter_on.ensures)

pub returns : goal.returns
returns c =
    passed c.sine_at.type_inv
    (c.sine_at.ensures
    ∙ ap sine_at (c.quarter_on.ensures ∙ ap (λ (a : ℕ). (a + quarter_turn) % full_turn) (new_is c.ranges.x c.new-a.ensures))
    ∙ sym (cosine_is c.args.x))
