-- `capi::instants::nutation_values` meets its contract.
use mathlib.Core.Path.{◌∙◌, ap}
use mir.Syntax.{w64}
use mir.Val.{of_z, to_z}
use Rattle.numbers.proofs.Machine.{Mirror, asked, told}
use Rattle.sum_rules.specs.Nutation.{Δε}
use Rattle.sum_rules.specs.declared.instant.Powers.{Powers}
use Rattle.sum_terms.proofs.InstantLaws.{reached}
use Rattle.earth.proofs.NutationLaws.{Δε_most}
use Rattle.capi.proofs.InstantLaws.{near}
use Rattle.capi.proofs.instants.nutation_values.Goals as goal

pub obliquity_at-obliquity-requires : goal.obliquity_at-obliquity-requires
obliquity_at-obliquity-requires c =
    let at = to_z w64 (of_z w64 c.args.tt) in
    let within = near at c.in_ok-reach_verdict.ensures in
    let instant = ap (λ (t : Powers). t.n) c.powers_at-powers.ensures in
    let slant : Mirror = told (c.nutation_at-found.ensures.1 ∙ ap Δε instant) (Δε_most at within) tt in
    (reached c.powers_at-powers.ensures within, asked slant tt)
