-- Every case by hand and every whole value holds, in one statement over the list.
use mathlib.Core.Path.{refl}
use Rattle.arithmetic.specs.Each.{more, none}
use Rattle.arithmetic.specs.Floor.{⌊◌÷◌⌋, ◌modulo◌}
use Rattle.number_rules.specs.Angle.{reduced}
use Rattle.number_rules.specs.Sine.{cosine, fold, half_fold, negated_from_half, quarter_sine, sine, sine_at}
use Rattle.number_rules.specs.SineTable.{sines}
use Rattle.sum_rules.specs.Cases.{CasesHold}
use Rattle.sum_rules.specs.Instant.{p2, p3, p4, u, value}
use Rattle.sum_rules.specs.Moon.{E, E2, latitude, longitude, metres, weight}
use Rattle.sum_rules.specs.MoonTerms.{latitude_terms, longitude_distance_terms}
use Rattle.sum_rules.specs.Nutation.{mean_obliquity, Δε, Δψ}
use Rattle.sum_rules.specs.NutationTerms.{nutation_terms}
use Rattle.sum_rules.specs.Sidereal.{mean}
use Rattle.sum_rules.specs.Sun.{down, row_angle, row_value, series}
use Rattle.sum_rules.specs.SunTerms.{B0, B1, L0, L1, L2, L3, L4, L5, R0, R1, R2, R3, R4}
use Rattle.sum_rules.specs.Table.{total}

pub cases_hold : CasesHold
unfolding ⌊◌÷◌⌋ ◌modulo◌ reduced sine cosine sine_at negated_from_half fold half_fold quarter_sine sines u p2 p3 p4 value total
    E E2 weight longitude latitude metres longitude_distance_terms latitude_terms Δψ Δε mean_obliquity nutation_terms mean
    row_angle row_value down series L0 L1 L2 L3 L4 L5 B0 B1 R0 R1 R2 R3 R4
cases_hold =
    more refl (more refl (more refl (more refl (
    more refl (more refl (more refl (
    more refl (more refl (more refl (more refl (
    more refl (more refl (more refl (more refl (
    more refl (more refl (more refl (more refl (
    more refl (more refl (more refl (more refl (
    more refl (more refl (more refl (more refl none))))))))))))))))))))))))))
