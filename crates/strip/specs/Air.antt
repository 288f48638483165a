-- The air of a strip (02, Item 6, as Item 9 mends it).
use Rattle.std.specs.Prelude.{Bool, None, Option, Some, cond, false, true, ℕ, eqb, pos, ℤ}
use Rattle.refraction.specs.Double.{double}
use Rattle.refraction.specs.declared.air.Air.{Air}
use Rattle.strip.specs.declared.air.StripAir.{StripAir}
use Rattle.strip.specs.declared.air.StripAir.TheVariants as Airs

-- air that was measured at so many mbar and so many °C
abbrev pub measured_at : ℤ → ℤ → Air
measured_at pressure temperature = record { pressure = double pressure; temperature = double temperature }

-- measured air at 1010 mbar and 10 °C with a mark that it was carried over
abbrev pub carried_over : StripAir
carried_over = Airs.CarriedOver (measured_at (pos 1010) (pos 10))

-- the reader's: air byte 0 none; strips that hold air byte 1 are still read (others are refused by 22)
abbrev pub air_in : ℕ → StripAir
air_in byte = cond (eqb byte 0) Airs.None carried_over

-- the writer's: it never writes 1
abbrev pub written_air : ℕ
written_air = 0

-- 32: carried-over or any measured air
abbrev pub is_none : StripAir → Bool
is_none Airs.None = true
is_none (Airs.Measured air) = false
is_none (Airs.CarriedOver air) = false

-- the air of a request for the same place, which knows no mark
abbrev pub request_air : StripAir → Option Air
request_air Airs.None = None
request_air (Airs.Measured air) = Some air
request_air (Airs.CarriedOver air) = Some air
