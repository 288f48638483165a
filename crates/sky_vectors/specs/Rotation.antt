-- A pair of numbers turned by one angle: what 01's three rotations have in common.
use Rattle.std.specs.Prelude.{◌+ℤ◌, ◌-ℤ◌, ℤ}
use Rattle.numbers.specs.declared.sine.SineCosine.{SineCosine}
use Rattle.sky_vectors.specs.Product.{◌·◌}
use Rattle.sky_vectors.specs.declared.rotation.Pair.{Pair}

-- along = x cos + y sin, across = y cos - x sin
unfoldable pub rotated : SineCosine → ℤ → ℤ → Pair
rotated angle x y = record { along = x · angle.cosine +ℤ y · angle.sine; across = y · angle.cosine -ℤ x · angle.sine }
