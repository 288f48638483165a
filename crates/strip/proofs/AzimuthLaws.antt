-- The azimuths of a strip: where each stands in its octets, and how all are judged.
use mathlib.Core.Bool.{Bool, ◌&&◌}
use mathlib.Core.List.{List, [], ◌∷◌}
use mathlib.Core.Path.{◌∙◌, ◌≡◌, ap, refl, sym}
use Rattle.std.specs.List.{list_all}
use Prim.Native.Nat.{◌*◌, ◌/◌, ◌<◌, ℕ}
use lib.ListN.{drop, get_or, length, length-replicate, take}
use Rattle.octets.proofs.FieldLaws.{parted_alike, parted_length}
use Rattle.octets.specs.Octets.{alike, number}
use Rattle.text.specs.Line.{all}
use Rattle.strip.specs.Checks.{are_azimuths, is_azimuth}
use Rattle.strip.specs.Format.{azimuth_size, azimuths_in}

-- ---- in the octets of a strip
module _ (part : List ℕ) where
  pub count_in : length (azimuths_in part) ≡ length part / azimuth_size
  unfolding azimuths_in
  count_in = parted_length (alike (length part / azimuth_size) azimuth_size) part ∙ length-replicate {A = ℕ} (length part / azimuth_size) azimuth_size

  pub entry_in : (step : ℕ) → step < length part / azimuth_size → number (take azimuth_size (drop (azimuth_size * step) part)) ≡ get_or (azimuths_in part) step 0
  unfolding azimuths_in
  entry_in step h = sym (parted_alike (length part / azimuth_size) azimuth_size step part h)

-- ---- std's test of a whole list is the same
all_same : (list : List ℕ) → list_all is_azimuth list ≡ all is_azimuth list
unfolding all
all_same [] = refl
all_same (n ∷ rest) = ap (λ (p : Bool). is_azimuth n && p) (all_same rest)

pub judged : (list : List ℕ) → list_all is_azimuth list ≡ are_azimuths list
unfolding are_azimuths
judged list = all_same list
