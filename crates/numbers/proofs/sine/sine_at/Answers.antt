-- `numbers::sine::sine_at` meets its contract.
use mathlib.Core.Path.{◌∙◌, ◌≡◌, ap, subst⁻¹}
use Prim.Native.Nat.{◌≤◌, ℕ}
use Rattle.number_rules.specs.Angle.{quarter_turn}
use Rattle.number_rules.specs.Sine.{fold, negated_from_half, quarter_sine, sine_at}
use Rattle.numbers.proofs.Machine.{passed}
use Rattle.number_rules.proofs.SineLaws.{fold_most}
use Rattle.number_rules.proofs.SineSize.{quarter_sine_most}
use Rattle.numbers.proofs.sine.sine_at.Goals as goal
use Rattle.numbers.proofs.sine.sine_at.Goals.{After-folded, After-quarter_sine}

module _ (c : After-folded) where
  abbrev a : ℕ
  a = c.args.a

  folded_most : c.folded.result ≤ quarter_turn
  folded_most = subst⁻¹ (λ (n : ℕ). n ≤ quarter_turn) c.folded.ensures (fold_most a c.requires)

module _ (c : After-quarter_sine) where
  size_is : c.quarter_sine.result ≡ quarter_sine (fold (a c.before))
  size_is = c.quarter_sine.ensures ∙ ap quarter_sine c.folded.ensures

pub quarter_sine-requires : goal.quarter_sine-requires
quarter_sine-requires c = folded_most (goal.at.quarter_sine-requires c).After-folded

pub negated_from_half-requires : goal.negated_from_half-requires
negated_from_half-requires c =
    subst⁻¹ (λ (n : ℕ). n ≤ 1_000_000_001) c.quarter_sine.ensures (quarter_sine_most c.folded.result (folded_most (goal.at.negated_from_half-requires c).After-folded))

pub returns : goal.returns
unfolding sine_at
returns c =
    passed c.negated_from_half.type_inv
    (c.negated_from_half.ensures ∙ ap (negated_from_half (a (goal.at.returns c).After-folded)) (size_is (goal.at.returns c).After-quarter_sine))
