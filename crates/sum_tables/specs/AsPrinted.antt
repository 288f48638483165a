-- Each table that the code lends is the one of the reports, entry by entry.
use Rattle.std.specs.Prelude.{◌≡◌}
use Rattle.sum_rules.specs.MoonTerms as Moon
use Rattle.sum_rules.specs.NutationTerms as Nutation
use Rattle.sum_rules.specs.SunTerms as Sun
use Rattle.sum_tables.specs.declared.moon_terms.TheConstants as MoonCode
use Rattle.sum_tables.specs.declared.nutation_terms.TheConstants as NutationCode
use Rattle.sum_tables.specs.declared.sun_terms.TheConstants as SunCode

-- what is lent, and what is printed
pub record AsPrinted : Type 0 where
  pub moon_longitude_distance : MoonCode.LONGITUDE_DISTANCE ≡ Moon.longitude_distance_terms
  pub moon_latitude : MoonCode.LATITUDE ≡ Moon.latitude_terms
  pub nutation : NutationCode.NUTATION ≡ Nutation.nutation_terms
  pub sun_L0 : SunCode.L0 ≡ Sun.L0
  pub sun_L1 : SunCode.L1 ≡ Sun.L1
  pub sun_L2 : SunCode.L2 ≡ Sun.L2
  pub sun_L3 : SunCode.L3 ≡ Sun.L3
  pub sun_L4 : SunCode.L4 ≡ Sun.L4
  pub sun_L5 : SunCode.L5 ≡ Sun.L5
  pub sun_B0 : SunCode.B0 ≡ Sun.B0
  pub sun_B1 : SunCode.B1 ≡ Sun.B1
  pub sun_R0 : SunCode.R0 ≡ Sun.R0
  pub sun_R1 : SunCode.R1 ≡ Sun.R1
  pub sun_R2 : SunCode.R2 ≡ Sun.R2
  pub sun_R3 : SunCode.R3 ≡ Sun.R3
  pub sun_R4 : SunCode.R4 ≡ Sun.R4
