-- `sky_vectors::orientation::moment_at` meets its contract: the powers are those of the instant, so the nutation and the orientation are those of the rule.
use mathlib.Core.Path.{◌∙◌, ◌≡◌, ap}
use Rattle.numbers.proofs.Machine.{Mirror, arg, asked, field, told}
use Rattle.earth.proofs.NutationLaws.{Δψ_most}
use Rattle.sky_vectors.specs.Orientation.{orientation}
use Rattle.sky_vectors.specs.SkyRange.{Reachable}
use Rattle.sum_terms.proofs.InstantLaws.{reached}
use Rattle.sum_rules.specs.Instant.{Reached, powers}
use Rattle.sum_rules.specs.Nutation.{Δψ}
use Rattle.sum_rules.specs.declared.instant.Instant.{Instant}
use Rattle.sum_rules.specs.declared.instant.Powers.{Powers}
use Rattle.sky_vectors.proofs.orientation.moment_at.Goals as goal
use Rattle.sky_vectors.proofs.orientation.moment_at.Goals.{After-powers_at-tt, After-powers_at-ut, Start}

module _ (s : Start) where
  abbrev instant : Instant
  instant = s.args.instant

  abbrev near : Reachable instant
  near = s.requires.1

  abbrev longitude : Mirror
  longitude = arg s.ranges.longitude s.requires.0

  abbrev universal : Mirror
  universal = field instant.ut near.ut_near tt

  abbrev terrestrial : Mirror
  terrestrial = field instant.tt near.tt_near tt

-- the powers of both scales
module _ (c : After-powers_at-tt) where
  abbrev by_ut : After-powers_at-ut
  by_ut = (goal.at.After-powers_at-tt c).After-powers_at-ut

  abbrev begun : Start
  begun = (goal.at.After-powers_at-ut by_ut).Start

  ut_is : by_ut.powers_at-ut.result ≡ powers (instant begun).ut
  ut_is = by_ut.powers_at-ut.ensures ∙ ap powers (universal begun).same

  tt_is : c.powers_at-tt.result ≡ powers (instant begun).tt
  tt_is = c.powers_at-tt.ensures ∙ ap powers (terrestrial begun).same

  ut_reached : Reached by_ut.powers_at-ut.result
  ut_reached = reached ut_is (near begun).ut_near

  tt_reached : Reached c.powers_at-tt.result
  tt_reached = reached tt_is (near begun).tt_near

pub powers_at-ut-requires : goal.powers_at-ut-requires
powers_at-ut-requires c = asked (universal (goal.at.powers_at-ut-requires c).Start) tt

pub powers_at-tt-requires : goal.powers_at-tt-requires
powers_at-tt-requires c = asked (terrestrial (goal.at.powers_at-tt-requires c).Start) tt

pub nutation_at-nutation-requires : goal.nutation_at-nutation-requires
nutation_at-nutation-requires c = tt_reached (goal.at.nutation_at-nutation-requires c).After-powers_at-tt

pub orientation_at-orientation-requires : goal.orientation_at-orientation-requires
orientation_at-orientation-requires c =
    let k = (goal.at.orientation_at-orientation-requires c).After-powers_at-tt in record {
      within = asked (longitude (begun k)) tt;
      reached = ((ut_reached k, tt_reached k), c.nutation_at-nutation.ensures);
    }

pub returns : goal.returns
returns c =
    let k = (goal.at.returns c).After-powers_at-tt in
    let n = (instant (begun k)).tt in
    λ i. record {
      tt = tt_is k i;
      nutation = (told {r = c.nutation_at-nutation.result.longitude} (c.nutation_at-nutation.ensures.0 ∙ ap (λ (t : Powers). Δψ t.n) (tt_is k)) (Δψ_most n (near (begun k)).tt_near) tt).same i;
      orientation = (c.orientation_at-orientation.ensures ∙ (λ j. orientation ((longitude (begun k)).same j) (ut_is k j).n (tt_is k j).n)) i;
    }
