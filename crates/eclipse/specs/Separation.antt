-- The separation of two directions (02, Item 4): the arctangent of the length of their cross product and their dot product. How long a direction is does not
-- matter, since that is a factor of both.
use Rattle.std.specs.Prelude.{ℕ, ◌*ℤ◌, ◌+ℤ◌, ◌-ℤ◌, nat_abs, pos, ℤ}
use Rattle.numbers.specs.Root.{root}
use Rattle.overlap.specs.ShortArctangent.{short_arctangent}
use Rattle.sky_vectors.specs.Product.{◌·◌}
use Rattle.sky_vectors.specs.declared.vector.Vector.{Vector}

-- s₁ m₂ - s₂ m₁, each product floored by 10⁹
unfoldable pub minor : ℤ → ℤ → ℤ → ℤ → ℤ
minor s₁ s₂ m₁ m₂ = s₁ · m₂ -ℤ s₂ · m₁

unfoldable pub cross : Vector → Vector → Vector
cross s m =
    record { x = minor s.y s.z m.y m.z; y = minor s.z s.x m.z m.x; z = minor s.x s.y m.x m.y }

-- each product floored by 10⁹
unfoldable pub dot : Vector → Vector → ℤ
dot s m = s.x · m.x +ℤ s.y · m.y +ℤ s.z · m.z

-- root(x² + y² + z²), these squares unfloored
unfoldable pub length : Vector → ℕ
length vector = root (nat_abs (vector.x *ℤ vector.x +ℤ vector.y *ℤ vector.y +ℤ vector.z *ℤ vector.z))

-- or a whole turn less it where that is smaller
unfoldable pub separation : Vector → Vector → ℕ
separation s m = short_arctangent (pos (length (cross s m))) (dot s m)
