-- Every table as printed, by computation.
use mathlib.Core.Path.{refl}
use Rattle.sum_rules.specs.MoonTerms.{longitude_distance_terms, latitude_terms}
use Rattle.sum_rules.specs.NutationTerms.{nutation_terms}
use Rattle.sum_rules.specs.SunTerms.{L0, L1, L2, L3, L4, L5, B0, B1, R0, R1, R2, R3, R4}
use Rattle.sum_tables.specs.AsPrinted.{AsPrinted}

pub as_printed : AsPrinted
unfolding longitude_distance_terms latitude_terms nutation_terms L0 L1 L2 L3 L4 L5 B0 B1 R0 R1 R2 R3 R4
as_printed = record {
  moon_longitude_distance = refl;
  moon_latitude = refl;
  nutation = refl;
  sun_L0 = refl;
  sun_L1 = refl;
  sun_L2 = refl;
  sun_L3 = refl;
  sun_L4 = refl;
  sun_L5 = refl;
  sun_B0 = refl;
  sun_B1 = refl;
  sun_R0 = refl;
  sun_R1 = refl;
  sun_R2 = refl;
  sun_R3 = refl;
  sun_R4 = refl;
}
