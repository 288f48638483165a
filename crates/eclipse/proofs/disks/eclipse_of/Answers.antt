-- `eclipse::disks::eclipse_of` meets its contract: each call's equation, put into the next; no number is near 2⁶³.
use mathlib.Core.Path.{◌∙◌, ◌≡◌, ap, subst⁻¹}
use Prim.Native.Nat.{◌≤◌, ℕ}
use lib.IntN.{pos, ℤ}
use Rattle.number_rules.specs.Angle.{half_turn}
use Rattle.numbers.proofs.Machine.{from_nat, nat_fits, told}
use Rattle.overlap.proofs.ShareHolds.{every_share_holds}
use Rattle.overlap.specs.Overlap.{share, whole}
use Rattle.overlap.specs.DiskRange.{Radii}
use Rattle.sky_vectors.specs.Place.{place_towards}
use Rattle.sky_vectors.specs.declared.place.Place.{Place}
use Rattle.sky_vectors.proofs.PlaceLaws.{place_towards_in_turns}
use Rattle.eclipse.specs.Eclipse.{eclipse_of}
use Rattle.eclipse.specs.Radius.{moon_radius, sun_radius}
use Rattle.eclipse.specs.Separation.{separation}
use Rattle.eclipse.proofs.CrossLaws.{separation_most}
use Rattle.eclipse.proofs.RadiusLaws.{radii}
use Rattle.eclipse.proofs.disks.eclipse_of.Goals as goal
use Rattle.eclipse.proofs.disks.eclipse_of.Goals.{After-moon_radius-rm, After-place_towards-elevation, After-separation-apart, After-share-covered, After-sun_radius-rs, Start}

-- the separation, the two radii, and what they are within
module _ (c : After-moon_radius-rm) where
  abbrev placed : After-place_towards-elevation
  placed = (goal.at.After-moon_radius-rm c).After-place_towards-elevation

  abbrev sized : After-sun_radius-rs
  sized = (goal.at.After-place_towards-elevation placed).After-sun_radius-rs

  abbrev parted : After-separation-apart
  parted = (goal.at.After-sun_radius-rs sized).After-separation-apart

  abbrev start : Start
  start = (goal.at.After-separation-apart parted).Start

  abbrev e : ℤ
  e = (place_towards start.args.latitude start.args.to_moon.vector).elevation

  rm_is : c.moon_radius-rm.result ≡ moon_radius start.args.moon e
  rm_is =
      c.moon_radius-rm.ensures
      ∙ ap (moon_radius start.args.moon)
      (told {r = placed.place_towards-elevation.result.elevation} (ap (λ (p : Place). p.elevation) placed.place_towards-elevation.ensures) (place_towards_in_turns start.args.latitude start.args.to_moon.vector).elevation_size tt).same

  sizes : Radii sized.sun_radius-rs.result c.moon_radius-rm.result
  sizes =
      subst⁻¹ (λ (n : ℕ). Radii n c.moon_radius-rm.result) sized.sun_radius-rs.ensures
      (subst⁻¹ (λ (n : ℕ). Radii (sun_radius start.args.sun) n) rm_is (radii e start.requires.far.0 start.requires.far.1))

  apart_most : parted.separation-apart.result ≤ half_turn
  apart_most = subst⁻¹ (λ (n : ℕ). n ≤ half_turn) parted.separation-apart.ensures (separation_most _ _)

-- the share
module _ (c : After-share-covered) where
  abbrev before : After-moon_radius-rm
  before = (goal.at.After-share-covered c).After-moon_radius-rm

  share_is : c.share-covered.result ≡ share (separation (start before).args.to_sun.vector (start before).args.to_moon.vector) (sun_radius (start before).args.sun) (moon_radius (start before).args.moon (e before))
  share_is = c.share-covered.ensures.value ∙ (λ i. share ((parted before).separation-apart.ensures i) ((sized before).sun_radius-rs.ensures i) (rm_is before i))

  share_most : c.share-covered.result ≤ whole
  share_most =
      subst⁻¹ (λ (n : ℕ). n ≤ whole) c.share-covered.ensures.value
      (every_share_holds (parted before).separation-apart.result (sized before).sun_radius-rs.result before.moon_radius-rm.result).at_most_whole

pub invariant_of-disks : goal.invariant_of-disks
invariant_of-disks c = record { radii = sizes (goal.at.invariant_of-disks c).After-moon_radius-rm }

pub overflow_cast-result : goal.overflow_cast-result
overflow_cast-result c = nat_fits (apart_most (before (goal.at.overflow_cast-result c).After-share-covered)) tt

pub overflow_cast-result-2 : goal.overflow_cast-result-2
overflow_cast-result-2 c = nat_fits (sizes (before (goal.at.overflow_cast-result-2 c).After-share-covered)).sun_most tt

pub overflow_cast-result-3 : goal.overflow_cast-result-3
overflow_cast-result-3 c = nat_fits (sizes (before (goal.at.overflow_cast-result-3 c).After-share-covered)).moon_most tt

pub overflow_cast-result-4 : goal.overflow_cast-result-4
overflow_cast-result-4 c = nat_fits (share_most (goal.at.overflow_cast-result-4 c).After-share-covered) tt

pub returns : goal.returns
unfolding eclipse_of
returns c =
    let k = before (goal.at.returns c).After-share-covered in
    λ i. record {
      separation = ((from_nat (apart_most k) tt).same ∙ ap pos (parted k).separation-apart.ensures) i;
      sun_radius = ((from_nat (sizes k).sun_most tt).same ∙ ap pos (sized k).sun_radius-rs.ensures) i;
      moon_radius = ((from_nat (sizes k).moon_most tt).same ∙ ap pos (rm_is k)) i;
      share = ((from_nat (share_most (goal.at.returns c).After-share-covered) tt).same ∙ ap pos (share_is (goal.at.returns c).After-share-covered)) i;
    }
