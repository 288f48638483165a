-- `moon_sums::moon::moon` meets its contract.
use mathlib.Core.Path.{◌∙◌, ◌≡◌, ap, subst}
use lib.IntN.{ℤ}
use Rattle.numbers.proofs.Machine.{any}
use Rattle.sum_rules.specs.Accuracy.{MoonNear}
use Rattle.sum_rules.specs.Instant.{powers}
use Rattle.sum_rules.specs.Moon.{latitude, longitude, metres}
use Rattle.sum_rules.specs.declared.instant.Powers.{Powers}
use Rattle.sum_terms.proofs.InstantLaws.{reached}
use Rattle.moon_sums.proofs.moon.moon.Goals as goal
use Rattle.moon_sums.proofs.moon.moon.Goals.{After-powers_at}

is_powers : (c : After-powers_at) → c.powers_at.result ≡ powers c.args.n
is_powers c = c.powers_at.ensures ∙ ap powers (any c.ranges.n).same

pub moon_at-requires : goal.moon_at-requires
moon_at-requires c = reached (is_powers (goal.at.moon_at-requires c).After-powers_at) c.requires

pub returns : goal.returns
returns c =
    subst (λ (n : ℤ). (c.moon_at.result.longitude ≡ longitude n) × ((c.moon_at.result.latitude ≡ latitude n) × ((c.moon_at.result.metres ≡ metres n) × MoonNear n)))
    (ap (λ (t : Powers). t.n) (is_powers (goal.at.returns c).After-powers_at)) c.moon_at.ensures
