-- The air of a request (01, "A request and its numbered refusals", as 02's Item 9 mends it): none, or measured with a pressure and a temperature.
use Rattle.std.specs.Prelude.{Option, None, Some, Bool, ◌&&◌, List, [], ◌∷◌, ℕ, negsuc, pos, Float}
use Rattle.std.specs.Float.Ieee as Ieee
use Rattle.refraction.specs.Double.{double}
use Rattle.calendar.specs.Refusal.{◌unless◌}
use Rattle.refraction.specs.declared.air.Air.{Air}

-- lo to hi, both included; a float that is not a number is between nothing
abbrev pub between_doubles : Float → Float → Float → Bool
between_doubles lo x hi = Ieee.le lo x && Ieee.le x hi

-- measured pressure 0 to 1200 mbar
abbrev pub pressure_passes : Float → Bool
pressure_passes P = between_doubles (double (pos 0)) P (double (pos 1200))

-- measured temperature -80 to 80 °C
abbrev pub temperature_passes : Float → Bool
temperature_passes T = between_doubles (double (negsuc 79)) T (double (pos 80))

-- checks 10 and 11; no air passes both
unfoldable pub air_refusals : Option Air → List ℕ
air_refusals None = []
air_refusals (Some air) = 10 unless pressure_passes air.pressure ∷ 11 unless temperature_passes air.temperature ∷ []
