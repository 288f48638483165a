-- The exports over two disks: 02's answers, as C is handed them.
use Rattle.std.specs.Prelude.{List, [], ◌∷◌, nat_abs, pos, ℤ}
use Rattle.sky_vectors.specs.Station.{point_from}
use Rattle.eclipse.specs.Answer.{solar_eclipse}
use Rattle.eclipse.specs.declared.disks.Eclipse.{Eclipse}
use Rattle.overlap.specs.Overlap.{share}
use Rattle.request.specs.Request.{start_from}
use Rattle.sky.specs.Answer.{Answer}

abbrev pub given_eclipse : List ℤ → List ℤ → Answer Eclipse
given_eclipse start point = solar_eclipse (start_from start) (point_from point)

abbrev pub eclipse_values : Eclipse → List ℤ
eclipse_values e = e.separation ∷ e.sun_radius ∷ e.moon_radius ∷ e.share ∷ []

-- the share, where no number is below zero
abbrev pub covered_share : ℤ → ℤ → ℤ → ℤ
covered_share separation sun_radius moon_radius = pos (share (nat_abs separation) (nat_abs sun_radius) (nat_abs moon_radius))
