-- `capi::instants::moon_values` meets its contract.
use mathlib.Core.List.{[], ◌∷◌}
use mathlib.Core.Path.{◌∙◌, ap}
use lib.IntN.{pos}
use mir.Syntax.{w64}
use mir.ValLaws.{to_z_pos}
use borrow.Author.Rules.{rules}
use Rattle.number_rules.specs.Angle.{full_turn}
use Rattle.numbers.proofs.Machine.{any, nat_fits, passed}
use Rattle.sum_rules.specs.Moon.{latitude, longitude, metres}
use Rattle.moon_sums.proofs.MoonSizes.{moon_longitude_most}
use Rattle.boundary.specs.Codes.{reach_refusal}
use Rattle.capi.proofs.instants.moon_values.Goals as goal

pub overflow_cast-result : goal.overflow_cast-result
overflow_cast-result c =
    let m = c.moon-place in
    nat_fits {n = m.result.longitude} {m = full_turn} (rw m.ensures.0 (moon_longitude_most _)) tt

pub returns : goal.returns
returns c =
    let same = (any c.ranges.tt).same in
    let place = c.moon-place.ensures in
    let eastward = to_z_pos w64 c.moon-place.result.longitude (nat_fits {n = c.moon-place.result.longitude} {m = full_turn} (rw place.0 (moon_longitude_most _)) tt).sfits ∙ ap pos (place.0 ∙ ap longitude same) in
    let northward = passed {r = c.moon-place.result.latitude} (search rules) (place.1.0 ∙ ap latitude same) in
    let outward = passed {r = c.moon-place.result.metres} (search rules) (place.1.1.0 ∙ ap metres same) in
    (c.in_ok-reach_verdict.ensures ∙ ap reach_refusal same, λ i. eastward i ∷ northward i ∷ outward i ∷ [])
