-- `sun_sums::sun::sun` meets its contract.
use mathlib.Core.Path.{◌∙◌, ◌≡◌, ap, subst}
use lib.IntN.{ℤ}
use Rattle.numbers.proofs.Machine.{any}
use Rattle.sum_rules.specs.Accuracy.{SunNear}
use Rattle.sum_rules.specs.Instant.{powers}
use Rattle.sum_rules.specs.Sun.{B, L, R}
use Rattle.sum_rules.specs.declared.instant.Powers.{Powers}
use Rattle.sum_terms.proofs.InstantLaws.{reached}
use Rattle.sun_sums.proofs.sun.sun.Goals as goal
use Rattle.sun_sums.proofs.sun.sun.Goals.{After-powers_at}

is_powers : (c : After-powers_at) → c.powers_at.result ≡ powers c.args.n
is_powers c = c.powers_at.ensures ∙ ap powers (any c.ranges.n).same

pub sun_at-requires : goal.sun_at-requires
sun_at-requires c = reached (is_powers (goal.at.sun_at-requires c).After-powers_at) c.requires

pub returns : goal.returns
returns c =
    subst (λ (n : ℤ). (c.sun_at.result.longitude ≡ L n) × ((c.sun_at.result.latitude ≡ B n) × ((c.sun_at.result.radius ≡ R n) × SunNear n)))
    (ap (λ (t : Powers). t.n) (is_powers (goal.at.returns c).After-powers_at)) c.sun_at.ensures
