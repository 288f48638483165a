-- `course::Course::marked_azimuth` meets its contract.
use mathlib.Core.Path.{subst⁻¹}
use Rattle.arctangent.specs.Direction.{Reduced}
use Rattle.sky_vectors.proofs.PlaceLaws.{place_from_in_turns}
use Rattle.day.specs.Curve.{minute_of}
use Rattle.day.proofs.course.Course.marked_azimuth.Goals as goal

pub angle_or-requires : goal.angle_or-requires
angle_or-requires c =
    let course = c.args.self in
    subst⁻¹ Reduced c.azimuth.ensures (place_from_in_turns course.body course.runner (minute_of course.date course.days c.args.minute)).azimuth_reduced
