-- A middle of two azimuths is reduced, so that it fits a signed number too.
use mathlib.Core.Bool.{Bool, ◌&&◌, cond, false, true}
use Prim.Native.Nat.{◌+◌, ◌-◌, ◌/◌, ◌<◌, ℕ}
use native.Mathlib.Nat.{mod-lt, zero-lt-suc}
use lib.Dec.{eqb, ltb}
use lib.IntN.{nat_abs, ℤ}
use Rattle.number_rules.specs.Angle.{full_turn, half_turn}
use Rattle.heading.specs.Heading.{MiddleAnswer, clockwise, half_way, is_reduced, middle, middle_of}

abbrev refused : ℕ → MiddleAnswer
refused n = record { refusal = n; azimuth = 0 }

zero_below : 0 < full_turn
zero_below = zero-lt-suc 35_999_999_999

half_way_below : (from arc : ℕ) → half_way from arc < full_turn
half_way_below from arc = mod-lt (from + arc / 2) zero_below

middle_of_below : (a b : ℕ) → (middle_of a b).azimuth < full_turn
unfolding middle_of
middle_of_below a b = go (eqb (clockwise a b) half_turn) (ltb (clockwise a b) half_turn)
  where
    go : (p q : Bool) → (cond p (refused 14) (record { refusal = 0; azimuth = cond q (half_way a (clockwise a b)) (half_way b (full_turn - clockwise a b)) })).azimuth < full_turn
    go true q = zero_below
    go false true = half_way_below a (clockwise a b)
    go false false = half_way_below b (full_turn - clockwise a b)

pub middle_below : (a b : ℤ) → (middle a b).azimuth < full_turn
unfolding middle
middle_below a b = go (is_reduced a && is_reduced b)
  where
    go : (p : Bool) → (cond p (middle_of (nat_abs a) (nat_abs b)) (refused 15)).azimuth < full_turn
    go true = middle_of_below (nat_abs a) (nat_abs b)
    go false = zero_below
