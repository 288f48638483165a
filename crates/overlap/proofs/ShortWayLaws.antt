-- The short way round is at most half a turn.
use mathlib.Core.Bool.{Bool, cond, false, true}
use mathlib.Core.Path.{◌≡◌, refl}
use Prim.Native.Nat.{◌-◌, ◌≤◌, min, ℕ}
use native.Mathlib.Omega.{arith}
use lib.Dec.{ltb}
use lib.IntN.{nat_abs, ℤ}
use borrow.Author.Tests.{ltb-false, ltb-true}
use Rattle.std.proofs.lemmas.Bool.Decides.{nat_tests}
use Rattle.number_rules.specs.Angle.{full_turn, half_turn}
use Rattle.sky_vectors.specs.Horizon.{slope}
use Rattle.overlap.specs.ShortArctangent.{short_arctangent, short_way}

pub shorter : (angle : ℕ) → min angle (full_turn - angle) ≡ short_way angle
unfolding short_way
shorter angle = grind (arith, nat_tests)

short_way_most : (angle : ℕ) → short_way angle ≤ half_turn
unfolding short_way
short_way_most angle = go (ltb (full_turn - angle) angle) refl
  where
    go : (b : Bool) → ltb (full_turn - angle) angle ≡ b → cond b (full_turn - angle) angle ≤ half_turn
    go true e = omega (arith, ltb-true (full_turn - angle) angle e)
    go false e = omega (arith, ltb-false (full_turn - angle) angle e)

pub short_most : (y x : ℤ) → short_arctangent y x ≤ half_turn
unfolding short_arctangent
short_most y x = short_way_most (nat_abs (slope y x))
