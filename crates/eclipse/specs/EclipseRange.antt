-- What keeps the numbers of an eclipse within 64 bits.
use Rattle.std.specs.Prelude.{◌+◌, ◌≤◌, ℕ, nat_abs, pos, ℤ, ◌≤ℤ◌}
use Rattle.numbers.specs.Root.{square}
use Rattle.sky_vectors.specs.SkyRange.{parallax_limit}
use Rattle.sky_vectors.specs.declared.geocentric.Geocentric.{Geocentric}
use Rattle.sky_vectors.specs.declared.vector.Vector.{Vector}

-- ---- directions

abbrev pub square_of : ℤ → ℕ
square_of z = square (nat_abs z)

-- x² + y² + z²
abbrev pub squared_length : Vector → ℕ
squared_length vector = square_of vector.x + square_of vector.y + square_of vector.z

-- no direction is longer than 1.55·10⁹, so that the squares of a cross product fit
abbrev pub squared_limit : ℕ
squared_limit = 2_400_000_000_000_000_000

pub record ShortVector (vector : Vector) : Type 0 where
  pub size : squared_length vector ≤ squared_limit

-- the coordinates of such a direction, and those of a cross product of two
abbrev pub coordinate_limit : ℕ
coordinate_limit = 1_550_000_000

abbrev pub cross_limit : ℕ
cross_limit = 2_400_000_002

-- ---- distances

pub record Distant (lo hi : ℕ) (body : Geocentric) : Type 0 where
  pub least : pos lo ≤ℤ body.distance
  pub most : nat_abs body.distance ≤ hi

-- the Sun, in 10⁻¹⁰ AU
abbrev pub SunFar : Geocentric → Type 0
SunFar sun = Distant 9_800_000_000 13_000_000_000 sun

-- the Moon, in metres
abbrev pub MoonDistant : Geocentric → Type 0
MoonDistant moon = Distant 350_000_000 1_000_000_000 moon

-- and with its parallax
pub record MoonFar (moon : Geocentric) : Type 0 where
  pub distant : MoonDistant moon
  pub parallax_size : nat_abs moon.parallax ≤ parallax_limit
