-- Two disks that pass the checks: no number is below zero, and the radii are those that a share takes.
use mathlib.Core.Bool.{Bool}
use mathlib.Core.List.{[], ◌∷◌}
use mathlib.Core.Path.{◌∙◌, ◌≡◌, refl, sym}
use Prim.Native.Nat.{ℕ}
use lib.IntN.{nat_abs, pos, ℤ}
use lib.Signed.{◌≤ℤ◌}
use mir.Syntax.{w64}
use mir.Val.{SFits, of_z, to_z}
use Rattle.arithmetic.proofs.Sizes.{at_least, at_most}
use Rattle.calendar.specs.Refusal.{◌unless◌, first}
use Rattle.calendar.proofs.RefusalLaws.{none, passes}
use Rattle.overlap.specs.DiskRange.{Radii, radius_most, sun_radius_least}
use Rattle.numbers.specs.Whole.{between}
use Rattle.numbers.proofs.Machine.{any}
use Rattle.request.proofs.RequestLaws.{between_le}
use Rattle.number_rules.specs.Angle.{half_turn}
use Rattle.boundary.specs.Codes.{disks_refusal, no_disks}

-- a number that passed its check lies between the check's ends
pub within : {lo x hi : ℤ} {b : Bool} → 0 ≡ no_disks unless b → b ≡ between lo x hi → (lo ≤ℤ x) × (x ≤ℤ hi)
within {lo} {x} {hi} {b} e f = between_le lo x hi (sym f ∙ passes 104 b (sym e))

-- what a check told, at the number that was given
pub checked : {n : ℕ} (lo hi : ℤ) {z : ℤ} {b : Bool} → SFits w64 z → n ≡ no_disks unless b → b ≡ between lo (to_z w64 (of_z w64 z)) hi → n ≡ no_disks unless between lo z hi
checked lo hi f e tested = e ∙ (λ i. no_disks unless tested i) ∙ (λ i. no_disks unless between lo ((any f).same i) hi)

pub radii : {rs rm : ℤ} → (pos sun_radius_least ≤ℤ rs) × (rs ≤ℤ pos radius_most) → (pos 0 ≤ℤ rm) × (rm ≤ℤ pos radius_most) → Radii (nat_abs rs) (nat_abs rm)
radii sun moon = record { sun_least = at_least sun.0; sun_most = at_most sun.0 sun.1; moon_most = at_most moon.0 moon.1 }

-- ---- numbers that are not refused
module _ (apart rs rm : ℤ) (accepted : disks_refusal apart rs rm ≡ 0) where
  abbrev by_apart : ℕ
  by_apart = no_disks unless between (pos 0) apart (pos half_turn)

  abbrev by_sun : ℕ
  by_sun = no_disks unless between (pos sun_radius_least) rs (pos radius_most)

  abbrev by_moon : ℕ
  by_moon = no_disks unless between (pos 0) rm (pos radius_most)

  after_apart : (by_apart ≡ 0) × (first (by_sun ∷ by_moon ∷ []) ≡ 0)
  after_apart = none by_apart (by_sun ∷ by_moon ∷ []) accepted

  after_sun : (by_sun ≡ 0) × (first (by_moon ∷ []) ≡ 0)
  after_sun = none by_sun (by_moon ∷ []) after_apart.1

  sun_within : (pos sun_radius_least ≤ℤ rs) × (rs ≤ℤ pos radius_most)
  sun_within = within (sym after_sun.0) refl

  moon_within : (pos 0 ≤ℤ rm) × (rm ≤ℤ pos radius_most)
  moon_within = within (sym (none by_moon [] after_sun.1).0) refl

  pub apart_above : pos 0 ≤ℤ apart
  apart_above = (within (sym after_apart.0) refl).0

  pub sun_above : pos sun_radius_least ≤ℤ rs
  sun_above = sun_within.0

  pub moon_above : pos 0 ≤ℤ rm
  moon_above = moon_within.0

  pub accepted_radii : Radii (nat_abs rs) (nat_abs rm)
  accepted_radii = radii sun_within moon_within
