-- `sky::shown::shown_at` meets its contract.
use mathlib.Core.Bool.{true}
use mathlib.Core.Path.{◌∙◌, ◌≡◌, ap, refl}
use native.Mathlib.Nat.{le_of_lt}
use lib.Ieee as Ieee
use lib.Ieee.{Float}
use lib.IntN.{pos}
use borrow.Author.Rules.{rules}
use mir.Syntax.{w64}
use mir.Val.{of_z, to_z}
use Rattle.std.specs.Prelude.{IsSomeAnd, MatchOption, None, Option, Some}
use Rattle.arctangent.specs.Direction.{Reduced, azimuth_numbers}
use Rattle.numbers.proofs.Machine.{Mirror, field, from_nat, kept}
use Rattle.numbers.specs.declared.angle.Angle.{Angle}
use Rattle.refraction.specs.Double.{◌+d◌, zero_degrees}
use Rattle.refraction.specs.Refraction.{refraction}
use Rattle.sky.specs.Shown.{degrees, shown, shown_in}
use Rattle.sky.proofs.AnswerLaws.{one_numbers}
use Rattle.sky.proofs.shown.shown_at.Goals as goal
use Rattle.sky.proofs.shown.shown_at.Goals.{Start}

-- what the closure gave, of an angle as the machine holds it
abbrev Told : Option Angle → Option Float → Type 0
Told azimuth found = MatchOption azimuth (found ≡ None) (λ angle. IsSomeAnd found (λ x. x ≡ degrees (to_z w64 (of_z w64 (to_z w64 angle.units)))))

none_shown : degrees (pos 0) ≡ zero_degrees
unfolding degrees Ieee.of_int Ieee.div
none_shown = refl

azimuth_is : (azimuth : Option Angle) (found : Option Float) (e r : Float) → Reduced azimuth → Told azimuth found
    → shown_in found e r
    ≡ record { has_azimuth = (azimuth_numbers azimuth).has; azimuth = degrees (azimuth_numbers azimuth).single; elevation = e; refraction = r }
azimuth_is (Some angle) (Some x) e r below told =
    λ i. record { has_azimuth = true; azimuth = (told ∙ ap degrees (kept (from_nat (le_of_lt below) tt) tt).same) i; elevation = e; refraction = r }
azimuth_is (Some angle) None e r below told = absurd told
azimuth_is None found e r below told = rw (told, none_shown) refl

abbrev elevation : Start → Mirror
elevation s = field s.args.place.elevation s.requires.elevation_size tt

pub returns : goal.returns
unfolding shown
returns c =
    let e = elevation (goal.at.returns c).Start in
    let told : Told c.args.place.azimuth c.map.result = search rules in
    let refracted = c.refraction-refraction.ensures ∙ ap (refraction c.args.air) e.same in
    let raised : ◌≡◌ {A = Float} _ _ = λ i. (c.degrees.ensures ∙ ap degrees e.same) i +d refracted i in
    one_numbers (azimuth_is c.args.place.azimuth c.map.result _ _ c.requires.azimuth_reduced told
    ∙ (λ i. record {
      has_azimuth = (azimuth_numbers c.args.place.azimuth).has;
      azimuth = degrees (azimuth_numbers c.args.place.azimuth).single;
      elevation = raised i;
      refraction = refracted i;
    }))
