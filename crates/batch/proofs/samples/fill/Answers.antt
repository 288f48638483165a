-- `batch::samples::fill` meets its contract: both buffers are filled for the first i offsets.
use mathlib.Core.Path.{◌∙◌, ◌≡◌, ap, subst⁻¹}
use Prim.Native.Nat.{◌<◌, ℕ}
use native.Mathlib.Omega.{arith}
use lib.ListN.{get_or, length}
use borrow.Author.Rules.{rules}
use mir.Syntax.{w64}
use mir.Val.{SFits}
use Rattle.arctangent.specs.Direction.{Reduced, angle_or, mark}
use Rattle.sky_vectors.proofs.PlaceLaws.{place_from_in_turns}
use Rattle.sky_vectors.specs.Place.{place_from}
use Rattle.sky_vectors.specs.declared.place.Place.{Place}
use Rattle.batch.proofs.BatchLaws.{filled_none, stored}
use Rattle.batch.specs.Batch.{azimuth_from, elevation_from, later}
use Rattle.batch.proofs.samples.fill.Goals as goal
use Rattle.batch.proofs.samples.fill.Goals.{After-place_from-place}

-- the place at i
module _ (c : After-place_from-place) where
  abbrev offset : ℕ
  offset = get_or c.args.offsets.now c.loop-i.i 0

  place_is : c.place_from-place.result ≡ place_from c.args.body c.args.runner (later c.args.start offset)
  place_is = c.place_from-place.ensures ∙ ap (place_from c.args.body c.args.runner) c.later.ensures

  azimuth_reduced : Reduced c.place_from-place.result.azimuth
  azimuth_reduced =
      subst⁻¹ (λ (p : Place). Reduced p.azimuth) place_is (place_from_in_turns c.args.body c.args.runner (later c.args.start offset)).azimuth_reduced

  elevation_fits : SFits w64 c.place_from-place.result.elevation
  elevation_fits = search rules

pub loop-i-init : goal.loop-i-init
loop-i-init c =
    let a = c.args in record {
      azimuths_so_far = filled_none (azimuth_from a.body a.runner a.start) a.offsets.now a.azimuths.now;
      elevations_so_far = filled_none (elevation_from a.body a.runner a.start) a.offsets.now a.elevations.now;
    }

pub angle_or-requires : goal.angle_or-requires
angle_or-requires c = azimuth_reduced (goal.at.angle_or-requires c).After-place_from-place

pub loop-i-preserved : goal.loop-i-preserved
loop-i-preserved c =
    let k = (goal.at.loop-i-preserved c).After-place_from-place in
    let a = c.args in
    let i = c.loop-i.i in
    let here : i < length a.offsets.now = omega arith in record {
      azimuths_so_far =
          stored (azimuth_from a.body a.runner a.start) a.offsets.now a.azimuths.now i here c.requires.offsets_in_bounds.0 c.loop-i.invariant.azimuths_so_far
          c.angle_or.type_inv (c.angle_or.ensures ∙ ap (λ (p : Place). angle_or mark p.azimuth) (place_is k));
      elevations_so_far =
          stored (elevation_from a.body a.runner a.start) a.offsets.now a.elevations.now i here c.requires.offsets_in_bounds.1 c.loop-i.invariant.elevations_so_far
          (elevation_fits k).sfits (ap (λ (p : Place). p.elevation) (place_is k));
    }
