-- What 02, Item 4 asks to be proved of the share, of any separation and any radii whatever.
use Rattle.std.specs.Prelude.{◌≡◌, ◌*◌, ◌+◌, ◌-◌, ◌/◌, ◌<◌, ◌≤◌, ℕ}
use Rattle.overlap.specs.Overlap.{share}

pub record ShareHolds (apart rs rm : ℕ) : Type 0 where
  -- the share lies between 0 and 1,000,000
  pub at_most_whole : share apart rs rm ≤ 1_000_000
  -- it is 0 when the separation is at or above the sum of the radii
  pub none_apart : rs + rm ≤ apart → share apart rs rm ≡ 0
  -- it is 1,000,000 when the Moon's radius is at least the Sun's and the separation is at most their difference (of a Sun of radius 0 at the Moon's rim both sentences would speak)
  pub whole_inside : 0 < rs → rs ≤ rm → apart ≤ rm - rs → share apart rs rm ≡ 1_000_000
  -- the ring (the Moon's radius below the Sun's, the separation at most their difference) has the floor of 10⁶ times the Moon's squared radius over the Sun's
  pub ring_floor : rm < rs → apart ≤ rs - rm → share apart rs rm ≡ 1_000_000 * (rm * rm) / (rs * rs)

-- THE CLAIM, for any three numbers
abbrev pub EveryShareHolds : Type 0
EveryShareHolds = (apart rs rm : ℕ) → ShareHolds apart rs rm
