-- The mark of an absent azimuth (02, Item 5) is no azimuth: the middle of two azimuths refuses it.
use Rattle.std.specs.Prelude.{◌≡◌, ℤ}
use Rattle.arctangent.specs.Direction.{mark}
use Rattle.heading.specs.Heading.{middle}

-- by 15, whatever the other is
abbrev pub MarkHasNoMiddle : Type 0
MarkHasNoMiddle = (a : ℤ) → ((middle mark a).refusal ≡ 15) × ((middle a mark).refusal ≡ 15)
