-- `numbers::sine::sine_cosine` meets its contract.
use mathlib.Core.Path.{◌∙◌, ap, sym}
use Prim.Native.Nat.{◌%◌, ◌+◌, ℕ}
use native.Mathlib.Omega.{arith}
use Rattle.number_rules.specs.Angle.{full_turn, quarter_turn}
use Rattle.number_rules.specs.Sine.{sine, sine_at}
use Rattle.numbers.proofs.Machine.{passed}
use Rattle.number_rules.proofs.SineLaws.{cosine_is}
use Rattle.numbers.proofs.AngleLaws.{new_below, new_is}
use Rattle.numbers.proofs.sine.sine_cosine.Goals as goal

pub sine_at-sine-requires : goal.sine_at-sine-requires
sine_at-sine-requires c = new_below c.ranges.x c.new-a.ensures

pub quarter_on-requires : goal.quarter_on-requires
quarter_on-requires c = new_below c.ranges.x c.new-a.ensures

pub sine_at-cosine-requires : goal.sine_at-cosine-requires
sine_at-cosine-requires c = omega (arith, c.quarter_on.ensures)

pub returns : goal.returns
unfolding sine
returns c = (
  passed c.sine_at-sine.type_inv (c.sine_at-sine.ensures ∙ ap sine_at (new_is c.ranges.x c.new-a.ensures)),
  passed c.sine_at-cosine.type_inv
      (c.sine_at-cosine.ensures
      ∙ ap sine_at (c.quarter_on.ensures ∙ ap (λ (a : ℕ). (a + quarter_turn) % full_turn) (new_is c.ranges.x c.new-a.ensures))
      ∙ sym (cosine_is c.args.x)),
)
