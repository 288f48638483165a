-- `steps::fill_all` meets its contract. The invariant: the entries so far are the azimuths at the steps so far.
use mathlib.Core.Path.{◌∙◌, ap, refl, subst⁻¹}
use Prim.Native.Nat.{◌*◌, ◌<◌}
use lib.ListN.{length, length-set}
use native.Mathlib.Omega.{arith}
use Rattle.arctangent.specs.Direction.{Reduced}
use Rattle.day.proofs.CurveLaws.{filled_next, filled_none}
use Rattle.day.specs.Curve.{minute_of}
use Rattle.sky_vectors.proofs.PlaceLaws.{place_from_in_turns}
use Rattle.day_azimuths.specs.Azimuths.{strip_azimuth, strip_azimuth_from}
use Rattle.day_azimuths.proofs.steps.fill_all.Goals as goal

pub loop-index-init : goal.loop-index-init
loop-index-init c =
    let a = c.args in
    (refl, filled_none (strip_azimuth_from a.course.body a.course.runner a.course.date a.course.days a.step) a.azimuths.now)

pub strip_azimuth-requires : goal.strip_azimuth-requires
strip_azimuth-requires c =
    let course = c.args.course in
    let instant = minute_of course.date course.days (c.loop-index.index * c.args.step) in
    subst⁻¹ Reduced c.azimuth.ensures (place_from_in_turns course.body course.runner instant).azimuth_reduced

pub loop-index-preserved : goal.loop-index-preserved
loop-index-preserved c =
    let a = c.args in
    let so_far = c.loop-index.invariant in
    let here : c.loop-index.index < length c.loop-index.azimuths = omega arith in (
      length-set c.loop-index.azimuths c.loop-index.index c.strip_azimuth.result ∙ so_far.0,
      filled_next (strip_azimuth_from a.course.body a.course.runner a.course.date a.course.days a.step) c.loop-index.azimuths c.loop-index.index here so_far.1
          (c.strip_azimuth.ensures ∙ ap strip_azimuth c.azimuth.ensures),
    )
