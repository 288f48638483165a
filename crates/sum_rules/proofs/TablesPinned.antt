-- Every table has the digest worked from its csv file, by computation.
use mathlib.Core.List.{flatten}
use mathlib.Core.Path.{refl}
use Rattle.arithmetic.specs.Floor.{◌modulo◌}
use Rattle.sum_rules.specs.Digest.{Pinned, mixed}
use Rattle.sum_rules.specs.MoonTerms.{longitude_distance_terms, latitude_terms}
use Rattle.sum_rules.specs.NutationTerms.{nutation_terms}
use Rattle.sum_rules.specs.SunTerms.{L0, L1, L2, L3, L4, L5, B0, B1, R0, R1, R2, R3, R4}

pub tables_pinned : Pinned
unfolding mixed ◌modulo◌ longitude_distance_terms latitude_terms nutation_terms L0 L1 L2 L3 L4 L5 B0 B1 R0 R1 R2 R3 R4 flatten
tables_pinned = refl
