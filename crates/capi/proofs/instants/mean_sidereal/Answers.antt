-- `capi::instants::mean_sidereal` meets its contract.
use mathlib.Core.Path.{◌∙◌, ap}
use lib.IntN.{pos}
use mir.Syntax.{w64}
use mir.ValLaws.{to_z_pos}
use Rattle.number_rules.specs.Angle.{full_turn}
use Rattle.numbers.proofs.Machine.{any, nat_fits}
use Rattle.sum_rules.specs.Sidereal.{mean}
use Rattle.sum_rules.specs.declared.instant.Powers.{Powers}
use Rattle.sum_terms.proofs.InstantLaws.{mean_most}
use Rattle.boundary.specs.Codes.{reach_refusal}
use Rattle.capi.proofs.instants.mean_sidereal.Goals as goal

pub overflow_cast-result : goal.overflow_cast-result
overflow_cast-result c = nat_fits {n = c.mean_at.result} {m = full_turn} (rw c.mean_at.ensures (mean_most _)) tt

pub returns : goal.returns
returns c =
    let same = (any c.ranges.ut).same in
    let instant = ap (λ (t : Powers). t.n) c.powers_at.ensures ∙ same in (
      c.in_ok-reach_verdict.ensures ∙ ap reach_refusal same,
      to_z_pos w64 c.mean_at.result (nat_fits {n = c.mean_at.result} {m = full_turn} (rw c.mean_at.ensures (mean_most _)) tt).sfits
          ∙ ap pos (c.mean_at.ensures ∙ ap mean instant),
    )
