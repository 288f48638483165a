-- Disks whose numbers keep within 64 bits.
use Rattle.std.specs.Prelude.{◌+◌, ◌<◌, ◌≤◌, ℕ}

-- a radius of either disk is at most 0.3 degree, and the Sun's at least 0.2
abbrev pub radius_most : ℕ
radius_most = 30_000_000

abbrev pub sun_radius_least : ℕ
sun_radius_least = 20_000_000

pub record Radii (rs rm : ℕ) : Type 0 where
  pub sun_least : sun_radius_least ≤ rs
  pub sun_most : rs ≤ radius_most
  pub moon_most : rm ≤ radius_most

-- two circles that cross
pub record Crossing (apart rs rm : ℕ) : Type 0 where
  pub radii : Radii rs rm
  pub near : apart < rs + rm
  pub sun_out : rs < apart + rm
  pub moon_out : rm < apart + rs
