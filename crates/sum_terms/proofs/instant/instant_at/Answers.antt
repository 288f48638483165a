-- `sum_terms::instant::instant_at` meets its contract.
use mathlib.Core.Path.{◌∙◌}
use Rattle.numbers.proofs.Machine.{Mirror, arg, asked, gave, passed}
use Rattle.sum_rules.specs.Instant.{terrestrial_time, universal_time}
use Rattle.sum_rules.proofs.AcceptedInstants.{days_small, elapsed_small, universal_near, ut1_most}
use Rattle.sum_terms.proofs.instant.instant_at.Goals as goal
use Rattle.sum_terms.proofs.instant.instant_at.Goals.{After-universal_time-ut, Start}

module _ (s : Start) where
  abbrev days_mirror : Mirror
  days_mirror = arg s.ranges.days (days_small s.requires)

  abbrev elapsed_mirror : Mirror
  elapsed_mirror = arg s.ranges.elapsed (elapsed_small s.requires)

  abbrev ut1_mirror : Mirror
  ut1_mirror = arg s.ranges.ut1 (ut1_most s.requires)

  abbrev delta_mirror : Mirror
  delta_mirror = arg s.ranges.delta s.requires.delta_small

abbrev ut_mirror : After-universal_time-ut → Mirror
ut_mirror c =
    let s = c.before in
    gave c.universal_time-ut.type_inv (c.universal_time-ut.ensures ∙ (λ i. universal_time ((days_mirror s).same i) ((elapsed_mirror s).same i) ((ut1_mirror s).same i)))
    (universal_near s.requires)

pub universal_time-ut-requires : goal.universal_time-ut-requires
universal_time-ut-requires c = (asked (days_mirror (goal.at.universal_time-ut-requires c).Start) tt, (asked (elapsed_mirror (goal.at.universal_time-ut-requires c).Start) tt, asked (ut1_mirror (goal.at.universal_time-ut-requires c).Start) tt))

pub terrestrial_time-tt-requires : goal.terrestrial_time-tt-requires
terrestrial_time-tt-requires c = (asked (ut_mirror (goal.at.terrestrial_time-tt-requires c).After-universal_time-ut) tt, asked (delta_mirror (goal.at.terrestrial_time-tt-requires c).Start) tt)

pub returns : goal.returns
returns c = (
  (ut_mirror (goal.at.returns c).After-universal_time-ut).same,
  passed c.terrestrial_time-tt.type_inv (c.terrestrial_time-tt.ensures ∙ (λ i. terrestrial_time ((ut_mirror (goal.at.returns c).After-universal_time-ut).same i) ((delta_mirror (goal.at.returns c).Start).same i))),
)
