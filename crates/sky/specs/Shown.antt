-- The shown place (01, "Refraction").
use Rattle.std.specs.Prelude.{Bool, false, true, None, Option, Some, pos, ℤ, Float}
use Rattle.arctangent.specs.Direction.{azimuth_numbers}
use Rattle.refraction.specs.Double.{◌+d◌, ◌/d◌, double, zero_degrees}
use Rattle.refraction.specs.Refraction.{refraction}
use Rattle.refraction.specs.declared.air.Air.{Air}
use Rattle.sky_vectors.specs.declared.place.Place.{Place}
use Rattle.sky.specs.declared.shown.Shown.{Shown}

-- whole units become degrees by one division by 10⁸
unfoldable pub degrees : ℤ → Float
degrees x = double x /d double (pos 100_000_000)

-- a shown place in 01's numbers: whether it has an azimuth, the azimuth, the elevation, and the refraction
pub record ShownNumbers : Type 0 where
  pub has_azimuth : Bool
  pub azimuth : Float
  pub elevation : Float
  pub refraction : Float

-- beside an absent azimuth stands 0
abbrev pub shown_in : Option Float → Float → Float → ShownNumbers
shown_in (Some azimuth) elevation refraction = record { has_azimuth = true; azimuth = azimuth; elevation = elevation; refraction = refraction }
shown_in None elevation refraction = record { has_azimuth = false; azimuth = zero_degrees; elevation = elevation; refraction = refraction }

abbrev pub shown_numbers : Shown → ShownNumbers
shown_numbers place = shown_in place.azimuth place.elevation place.refraction

-- azimuth, elevation plus refraction, refraction; an absent azimuth is said, and is 0 (02, Item 5)
unfoldable pub shown : Option Air → Place → ShownNumbers
shown air place =
    let azimuth = azimuth_numbers place.azimuth in
    let refraction = refraction air place.elevation in
    record { has_azimuth = azimuth.has; azimuth = degrees azimuth.single; elevation = degrees place.elevation +d refraction; refraction = refraction }

-- a refused answer carries zeros
abbrev pub nothing_shown : ShownNumbers
nothing_shown = record { has_azimuth = false; azimuth = zero_degrees; elevation = zero_degrees; refraction = zero_degrees }
