-- Answers as C is handed them.
use Rattle.std.specs.Prelude.{Bool, cond, List, [], ◌∷◌, ℕ, Float, pos, ℤ}
use Rattle.rise_set.specs.Answer.{RiseSetNumbers}
use Rattle.sky.specs.Answer.{PlaceNumbers}
use Rattle.sky.specs.Shown.{ShownNumbers}
use Rattle.refraction.specs.Double.{double}
use Rattle.strip.specs.declared.air.StripAir.{StripAir}
use Rattle.strip.specs.declared.air.StripAir.TheVariants.{CarriedOver, Measured, None}
use Rattle.strip.specs.declared.header.Header.{Header}
use Rattle.boundary.specs.Codes.{code_of, strip_kind_of}

-- 1 where there is something, and 0 where there is none
abbrev pub flag : Bool → ℕ
flag there = cond there 1 0

-- of a place: whether there is an azimuth, and beside it azimuth and elevation
abbrev pub place_flag : PlaceNumbers → ℕ
place_flag p = flag p.has_azimuth

abbrev pub place_values : PlaceNumbers → List ℤ
place_values p = p.azimuth ∷ p.elevation ∷ []

abbrev pub place_parts : PlaceNumbers → ℕ × List ℤ
place_parts p = (place_flag p, place_values p)

-- of a shown place likewise: azimuth, elevation and refraction
abbrev pub shown_flag : ShownNumbers → ℕ
shown_flag p = flag p.has_azimuth

abbrev pub shown_values : ShownNumbers → List Float
shown_values p = p.azimuth ∷ p.elevation ∷ p.refraction ∷ []

abbrev pub shown_parts : ShownNumbers → ℕ × List Float
shown_parts p = (shown_flag p, shown_values p)

-- a flag and a minute for the rise, then for the set
abbrev pub rise_set_values : RiseSetNumbers → List ℕ
rise_set_values seen = seen.rise.has ∷ seen.rise.minute ∷ seen.set.has ∷ seen.set.minute ∷ []

-- air and body by their codes, year, month, day, longitude, latitude and step
abbrev pub header_values : Header → List ℤ
header_values h =
    pos (strip_kind_of h.air) ∷ pos (code_of h.body) ∷ h.year ∷ h.month ∷ h.day ∷ h.longitude ∷ h.latitude ∷ h.step ∷ []

-- the pressure and the temperature that a strip's air was measured at; zeros where there is none
abbrev pub measured_values : StripAir → List Float
measured_values None = double (pos 0) ∷ double (pos 0) ∷ []
measured_values (Measured air) = air.pressure ∷ air.temperature ∷ []
measured_values (CarriedOver air) = air.pressure ∷ air.temperature ∷ []

abbrev pub header_parts : Header → List ℤ × List Float
header_parts h = (header_values h, measured_values h.air)
