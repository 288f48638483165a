-- A worked example: the octets of a header, with two azimuths behind it.
use Rattle.std.specs.Prelude.{List, [], ◌∷◌, ◌≡◌, ℕ, negsuc, pos}
use Rattle.sky_vectors.specs.declared.geocentric.Body.TheVariants.{Moon}
use Rattle.strip.specs.Air.{carried_over}
use Rattle.strip.specs.Checks.{absent}
use Rattle.strip.specs.Format.{Strip, encode, strip_in}
use Rattle.strip.specs.declared.air.StripAir.{StripAir}
use Rattle.strip.specs.declared.air.StripAir.TheVariants.{None}

-- the Moon on 2026-06-21 at 7.768 degrees east and 51.5 south, every 10 minutes
abbrev pub example : StripAir → Strip
example air =
    record {
      header =
          record {
            air = air;
            body = Moon;
            year = pos 2026;
            month = pos 6;
            day = pos 21;
            longitude = pos 77_680_000;
            latitude = negsuc 514_999_999;
            step = pos 10;
          };
      azimuths = 0 ∷ absent ∷ [];
    }

abbrev pub example_octets : ℕ → List ℕ
example_octets air =
    0 ∷ 24 ∷ 1 ∷ air ∷ 1 ∷ 7 ∷ 234 ∷ 6 ∷ 21 ∷ 4 ∷ 161 ∷ 77 ∷ 128 ∷ 225 ∷ 77 ∷ 185 ∷ 64 ∷ 10 ∷ 0 ∷ 0 ∷ 0 ∷ 0 ∷ 255 ∷ 255 ∷ 255 ∷ 255 ∷ []

abbrev pub EncodedCase : Type 0
EncodedCase = encode (example None) ≡ example_octets 0

abbrev pub DecodedCase : Type 0
DecodedCase = strip_in (example_octets 0) ≡ example None

-- the same with air byte 1
abbrev pub OldDecodedCase : Type 0
OldDecodedCase = strip_in (example_octets 1) ≡ example carried_over
