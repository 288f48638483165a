-- What keeps the sky's numbers within 64 bits: a parallax of at most 2·10⁷, heights within 9,000 metres of the sea.
use Rattle.std.specs.Prelude.{◌≤◌, ℕ, nat_abs, ℤ}
use Rattle.number_rules.specs.Angle.{half_turn}
use Rattle.numbers.specs.SineCosine.{OneAngle}
use Rattle.sky_vectors.specs.declared.horizon.Horizon.{Horizon}
use Rattle.sum_rules.specs.Instant.{furthest, minus}
use Rattle.sum_rules.specs.declared.instant.Instant.{Instant}
use Rattle.sky_vectors.specs.declared.observer.Observer.{Observer}
use Rattle.sky_vectors.specs.declared.station.Point.{Point}
use Rattle.sky_vectors.specs.declared.station.Runner.{Runner}
use Rattle.sky_vectors.specs.declared.vector.Vector.{Vector}

-- ---- what 7 to 9 let pass

-- longitude within ±1,800,000,000 (10⁻⁷ degree)
abbrev pub longitude_limit : ℕ
longitude_limit = 1_800_000_000

-- latitude within ±900,000,000
abbrev pub latitude_limit : ℕ
latitude_limit = 900_000_000

-- height -500 to 9,000 m
abbrev pub lowest_height : ℤ
lowest_height = minus 500

abbrev pub highest_height : ℕ
highest_height = 9_000

-- a point that 7 to 9 let pass; of a depth no more is needed than of a height
pub record OnEarth (point : Point) : Type 0 where
  pub longitude_size : nat_abs point.longitude ≤ longitude_limit
  pub latitude_size : nat_abs point.latitude ≤ latitude_limit
  pub height_size : nat_abs point.height ≤ highest_height

-- an instant within reach in both scales
pub record Reachable (instant : Instant) : Type 0 where
  pub ut_near : nat_abs instant.ut ≤ furthest
  pub tt_near : nat_abs instant.tt ≤ furthest

-- ---- sizes on the way

-- no body that we see is nearer
abbrev pub parallax_limit : ℕ
parallax_limit = 20_000_000

-- the coordinates that a rotation takes
abbrev pub vector_limit : ℕ
vector_limit = 2_900_000_000

-- the coordinates of a direction after parallax
abbrev pub direction_limit : ℕ
direction_limit = 2_049_000_000

pub record SmallVector (limit : ℕ) (vector : Vector) : Type 0 where
  pub x_size : nat_abs vector.x ≤ limit
  pub y_size : nat_abs vector.y ≤ limit
  pub z_size : nat_abs vector.z ≤ limit

pub record SmallObserver (observer : Observer) : Type 0 where
  pub f_size : nat_abs observer.f ≤ 1_002_000_000
  pub g_size : nat_abs observer.g ≤ 1_002_000_000

pub record SmallHorizon (seen : Horizon) : Type 0 where
  pub up_size : nat_abs seen.up ≤ 3_000_000_000
  pub north_size : nat_abs seen.north ≤ 3_000_000_000
  pub east_size : nat_abs seen.east ≤ 3_000_000_000

-- a runner on Earth
pub record Standing (runner : Runner) : Type 0 where
  pub longitude_size : nat_abs runner.longitude ≤ half_turn
  pub latitude_angle : OneAngle runner.latitude
  pub observer_size : SmallObserver runner.observer
