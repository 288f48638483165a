-- The body's vector and its rotations (01, "From the centre to the runner").
use Rattle.std.specs.Prelude.{◌+ℤ◌, ◌-ℤ◌}
use Rattle.numbers.specs.declared.sine.SineCosine.{SineCosine}
use Rattle.sky_vectors.specs.Product.{◌·◌}
use Rattle.sky_vectors.specs.declared.vector.Vector.{Vector}

-- unit vector, body's longitude l, latitude t: X = cos t cos l, Y = cos t sin l, Z = sin t
unfoldable pub unit_vector : SineCosine → SineCosine → Vector
unit_vector l t = record { x = t.cosine · l.cosine; y = t.cosine · l.sine; z = t.sine }

-- x = X, y = Y cosε - Z sinε, z = Y sinε + Z cosε
unfoldable pub equatorial : SineCosine → Vector → Vector
equatorial ε vector =
    record {
      x = vector.x;
      y = vector.y · ε.cosine -ℤ vector.z · ε.sine;
      z = vector.y · ε.sine +ℤ vector.z · ε.cosine;
    }

-- a = x cosθ + y sinθ, b = y cosθ - x sinθ
unfoldable pub meridian : SineCosine → Vector → Vector
meridian θ vector =
    record {
      x = vector.x · θ.cosine +ℤ vector.y · θ.sine;
      y = vector.y · θ.cosine -ℤ vector.x · θ.sine;
      z = vector.z;
    }
