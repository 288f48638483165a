-- Up, north and east, and their angles (01, "From the centre to the runner").
use Rattle.std.specs.Prelude.{cond, ◌*ℤ◌, ◌+ℤ◌, ◌-ℤ◌, nat_abs, pos, ℤ}
use Rattle.std.specs.Int.Signed.{le_z, lt_z}
use Rattle.number_rules.specs.Angle.{full_turn, half_turn, quarter_turn}
use Rattle.arctangent.specs.Arctangent.{arctangent}
use Rattle.arctangent.specs.Direction.{Direction, angle_or}
use Rattle.numbers.specs.Root.{root}
use Rattle.numbers.specs.declared.sine.SineCosine.{SineCosine}
use Rattle.sum_rules.specs.Instant.{minus}
use Rattle.sky_vectors.specs.Product.{◌·◌}
use Rattle.sky_vectors.specs.declared.horizon.Horizon.{Horizon}
use Rattle.sky_vectors.specs.declared.vector.Vector.{Vector}

-- up = a cosφ + z sinφ; north = z cosφ - a sinφ; east = b
unfoldable pub horizon : SineCosine → Vector → Horizon
horizon φ vector =
    record {
      up = vector.x · φ.cosine +ℤ vector.z · φ.sine;
      north = vector.z · φ.cosine -ℤ vector.x · φ.sine;
      east = vector.y;
    }

-- azimuth = arctangent(east, north): absent where both are zero (02, Item 5)
unfoldable pub azimuth : Horizon → Direction
azimuth seen = arctangent seen.east seen.north

-- root(north² + east²), these squares unfloored
unfoldable pub level : Horizon → ℤ
level seen = pos (root (nat_abs (seen.north *ℤ seen.north +ℤ seen.east *ℤ seen.east)))

-- both zero: the elevation's own rule
abbrev pub elevation_of_zeros : ℤ
elevation_of_zeros = pos 0

-- the angle of up over level: arctangent(up, level)
unfoldable pub slope : ℤ → ℤ → ℤ
slope up level = angle_or elevation_of_zeros (arctangent up level)

-- less a whole turn from 180 degrees up
unfoldable pub lowered : ℤ → ℤ
lowered angle = cond (le_z (pos half_turn) angle) (angle -ℤ pos full_turn) angle

-- kept within ±90 degrees
unfoldable pub clamped : ℤ → ℤ
clamped angle =
    cond (lt_z (pos quarter_turn) angle) (pos quarter_turn) (cond (lt_z angle (minus quarter_turn)) (minus quarter_turn) angle)

-- elevation = arctangent(up, root(north² + east²)), lowered and clamped
unfoldable pub elevation : Horizon → ℤ
elevation seen = clamped (lowered (slope seen.up (level seen)))
