-- `course::Course::elevation` meets its contract.
use mathlib.Core.Path.{subst⁻¹}
use Rattle.sky_vectors.specs.SkyRange.{Reachable}
use Rattle.day.proofs.DateLaws.{minute_reachable}
use Rattle.day.proofs.course.Course.elevation.Goals as goal

pub elevation_from-requires : goal.elevation_from-requires
elevation_from-requires c =
    let course = c.args.self in
    (course.stands, subst⁻¹ Reachable c.instant.ensures (minute_reachable course.accepted c.args.minute c.requires))
