-- `cases::steps::moment_of` meets its contract: an accepted start is within reach.
use mathlib.Core.Path.{◌∙◌, ap, subst⁻¹}
use Rattle.numbers.proofs.Machine.{Mirror, asked, field}
use Rattle.request.proofs.RequestLaws.{start_reachable}
use Rattle.sky_vectors.specs.SkyRange.{Reachable}
use Rattle.sum_terms.proofs.InstantLaws.{reached}
use Rattle.sum_rules.specs.Instant.{powers}
use Rattle.cases.proofs.steps.moment_of.Goals as goal
use Rattle.cases.proofs.steps.moment_of.Goals.{After-instant_of-instant}

module _ (c : After-instant_of-instant) where
  reachable : Reachable c.instant_of-instant.result
  reachable = subst⁻¹ Reachable c.instant_of-instant.ensures (start_reachable c.args.start c.requires)

  abbrev ut : Mirror
  ut = field c.instant_of-instant.result.ut reachable.ut_near tt

  abbrev tt₀ : Mirror
  tt₀ = field c.instant_of-instant.result.tt reachable.tt_near tt

pub powers_at-ut-requires : goal.powers_at-ut-requires
powers_at-ut-requires c = asked (ut (goal.at.powers_at-ut-requires c).After-instant_of-instant) tt

pub powers_at-tt-requires : goal.powers_at-tt-requires
powers_at-tt-requires c = asked (tt₀ (goal.at.powers_at-tt-requires c).After-instant_of-instant) tt

pub returns : goal.returns
returns c =
    let i = (goal.at.returns c).After-instant_of-instant in
    let ut_is = c.powers_at-ut.ensures ∙ ap powers (ut i).same in
    let tt_is = c.powers_at-tt.ensures ∙ ap powers (tt₀ i).same in (
      (reached ut_is (reachable i).ut_near, reached tt_is (reachable i).tt_near),
      (λ j. ((ut_is ∙ (λ k. powers (i.instant_of-instant.ensures k).ut)) j).n, λ j. ((tt_is ∙ (λ k. powers (i.instant_of-instant.ensures k).tt)) j).n),
    )
