-- `cases::steps::from_south_pole` meets its contract.
use mathlib.Core.Path.{◌∙◌, ap₂, subst⁻¹}
use Rattle.number_rules.specs.Angle.{quarter_turn}
use Rattle.sum_rules.specs.Instant.{minus}
use Rattle.sky_vectors.specs.Place.{place_towards}
use Rattle.sky_vectors.specs.SkyRange.{SmallVector}
use Rattle.numbers.proofs.SineCosineLaws.{gave_one_angle, gave_sine_cosine}
use Rattle.sky_vectors.proofs.SkySizes.{centre_small, widen}
use Rattle.cases.proofs.steps.from_south_pole.Goals as goal

pub place_towards-requires : goal.place_towards-requires
place_towards-requires c = (
  gave_one_angle (minus quarter_turn) c.sine_cosine-pole.ensures,
  widen tt (subst⁻¹ (SmallVector _) c.from_centre-direction.ensures (centre_small c.args.centre c.args.orientation)),
)

pub returns : goal.returns
returns c =
    c.place_towards.ensures ∙ ap₂ place_towards (gave_sine_cosine (minus quarter_turn) c.sine_cosine-pole.ensures) c.from_centre-direction.ensures
