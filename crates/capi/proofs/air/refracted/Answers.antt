-- `capi::air::refracted` meets its contract: an elevation that is not refused is one that the formula takes.
use mathlib.Core.Path.{sym}
use native.Mathlib.Nat.{le_refl}
use lib.IntN.{pos}
use mir.Syntax.{w64}
use mir.Val.{of_z, to_z}
use Rattle.number_rules.specs.Angle.{quarter_turn}
use Rattle.numbers.specs.Whole.{between}
use Rattle.calendar.proofs.RefusalLaws.{none, passes}
use Rattle.sum_rules.specs.Instant.{minus}
use Rattle.refraction.specs.Air.{air_refusals}
use Rattle.request.proofs.RequestLaws.{between_size}
use Rattle.boundary.specs.Codes.{air_of, elevation_refusal, kind_refusal}
use Rattle.capi.proofs.air.refracted.Goals as goal

pub refraction-requires : goal.refraction-requires
refraction-requires c =
    let a = c.args in
    let e = to_z w64 (of_z w64 a.elevation) in
    between_size quarter_turn quarter_turn e (le_refl quarter_turn)
    (passes 102 (between (minus quarter_turn) e (pos quarter_turn))
    (none (elevation_refusal e) (air_refusals (air_of a.air a.pressure a.temperature)) (none (kind_refusal a.air) _ (sym c.in_ok-air.ensures.0)).1).0)
