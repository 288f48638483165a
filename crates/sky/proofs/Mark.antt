-- The mark has no middle with any azimuth: it is not reduced.
use mathlib.Core.Bool.{Bool, ◌&&◌, cond, false, true}
use mathlib.Core.Path.{◌≡◌, refl}
use lib.IntN.{nat_abs}
use Rattle.arctangent.specs.Direction.{mark}
use Rattle.heading.specs.Heading.{MiddleAnswer, is_reduced, middle, middle_of}
use Rattle.sky.specs.Mark.{MarkHasNoMiddle}

pub mark_has_no_middle : MarkHasNoMiddle
unfolding middle is_reduced
mark_has_no_middle a = (refl, go (is_reduced a))
  where
    go : (b : Bool) → (cond {A = MiddleAnswer} (b && false) (middle_of (nat_abs a) (nat_abs mark)) (record { refusal = 15; azimuth = 0 })).refusal ≡ 15
    go true = refl
    go false = refl
