-- The mark stands in an entry exactly where the place has no azimuth: an azimuth is below a full turn.
use mathlib.Core.Path.{ap}
use Rattle.arctangent.proofs.ArctangentLaws.{mark_tells}
use Rattle.arctangent.specs.Direction.{angle_or, mark}
use Rattle.sky_vectors.proofs.PlaceLaws.{place_at_in_turns}
use Rattle.sky_vectors.specs.Place.{place_at}
use Rattle.batch.specs.Batch.{EveryMarkTells, later}

pub every_mark_tells : EveryMarkTells
every_mark_tells body point start offset =
    let at = later start offset in
    (mark_tells (place_at body point at).azimuth (place_at_in_turns body point at).azimuth_reduced, ap (angle_or mark))
