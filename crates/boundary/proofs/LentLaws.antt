-- A shown place as it is handed to C, by whether it has an azimuth.
use mathlib.Core.Path.{◌≡◌, refl}
use mathlib.Core.List.{[], ◌∷◌}
use lib.Ieee.{Float, binary64, of_bits, of_int}
use mir.Val.{bool_byte}
use Rattle.std.specs.Prelude.{None, Option, Some}
use Rattle.std.specs.Option.{is_some, unwrap_or}
use Rattle.sky.specs.Shown.{shown_in}
use Rattle.boundary.specs.Lent.{shown_parts}

pub shown_is : (azimuth : Option Float) (elevation refraction : Float) →
    (bool_byte (is_some azimuth), unwrap_or azimuth (of_bits binary64 0) ∷ elevation ∷ refraction ∷ []) ≡ shown_parts (shown_in azimuth elevation refraction)
unfolding of_bits of_int
shown_is (Some azimuth) elevation refraction = refl
shown_is None elevation refraction = refl
