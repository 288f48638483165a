-- `sum_terms::terms::weighted` meets its contract.
use mathlib.Core.List.{[], ◌∷◌}
use mathlib.Core.Path.{◌∙◌, ap, sym}
use lib.IntN.{◌*ℤ◌, ℤ}
use Rattle.arithmetic.proofs.Integers.{solveℤ}
use Rattle.arithmetic.proofs.Solver.{◌:*◌, k0, x0}
use Rattle.number_rules.specs.Sine.{cosine, sine}
use Rattle.numbers.proofs.Machine.{Mirror, ◌⊗◌, any, arg, fits, gave, is_zero, kept}
use Rattle.number_rules.proofs.SineSize.{cosine_most, sine_most}
use Rattle.sum_terms.proofs.terms.weighted.Goals as goal
use Rattle.sum_terms.proofs.terms.weighted.Goals.{After-cosine, After-sine}

abbrev by_sine : After-sine → Mirror
by_sine c =
    arg c.ranges.first c.requires.0 ⊗ gave c.sine.type_inv (c.sine.ensures ∙ ap sine (any c.ranges.angle).same) (sine_most c.args.angle)

abbrev by_cosine : After-cosine → Mirror
by_cosine c =
    arg c.ranges.second c.requires.1 ⊗ gave c.cosine.type_inv (c.cosine.ensures ∙ ap cosine (any c.ranges.angle).same) (cosine_most c.args.angle)

pub returns-then-second-eq0 : goal.returns-then-second-eq0
returns-then-second-eq0 c = (
  (kept (by_sine (goal.at.returns-then-second-eq0 c).After-sine) tt).same,
  sym (ap (λ (w : ℤ). w *ℤ cosine c.args.angle) (is_zero c.ranges.second c.if-second-eq0.true) ∙ solveℤ (k0 :* x0) k0 (cosine c.args.angle ∷ []) tt),
)

pub returns-else-second-eq0 : goal.returns-else-second-eq0
returns-else-second-eq0 c = ((kept (by_sine (goal.at.returns-else-second-eq0 c).After-sine) tt).same, (kept (by_cosine (goal.at.returns-else-second-eq0 c).After-cosine) tt).same)

pub overflow_mul-sine : goal.overflow_mul-sine
overflow_mul-sine c = fits (by_sine (goal.at.overflow_mul-sine c).After-sine) tt

pub overflow_mul-cosine : goal.overflow_mul-cosine
overflow_mul-cosine c = fits (by_cosine (goal.at.overflow_mul-cosine c).After-cosine) tt
