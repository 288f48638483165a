-- Where a runner stands (01, "From the centre to the runner").
use Rattle.std.specs.Prelude.{◌*ℤ◌, List, pos, ℤ}
use Rattle.sky_vectors.specs.Observer.{observer}
use Rattle.numbers.specs.SineCosine.{sine_cosine}
use Rattle.sum_rules.specs.Table.{column}
use Rattle.sky_vectors.specs.declared.station.Point.{Point}
use Rattle.sky_vectors.specs.declared.station.Runner.{Runner}

-- a point from its three numbers: longitude, latitude, height
abbrev pub point_from : List ℤ → Point
point_from numbers = record { longitude = column numbers 0; latitude = column numbers 1; height = column numbers 2 }

-- the point's longitude and latitude φ are ten times the given numbers; the observer is at φ and the height
unfoldable pub runner : Point → Runner
runner point =
    let φ = sine_cosine (pos 10 *ℤ point.latitude) in
    record { longitude = pos 10 *ℤ point.longitude; latitude = φ; observer = observer φ point.height }
