-- DEMAND 3 (01): at every n that is no further than 1.011 centuries away, the sums lie within the bounds of the exact ones.
use Prim.Native.Nat.{◌-◌, ◌≤◌}
use lib.IntN.{nat_abs, ℤ}
use Rattle.exact.specs.Fraction.{Within, ◌*q◌, ◌+q◌, ◌over◌, ◌≤q◌, inv, nat, negq, nn, whole}
use Rattle.exact.proofs.Floors.{nat_le}
use Rattle.exact.proofs.Order.{nn_inv, within_le, within_mul, within_self}
use Rattle.sum_rules.specs.Accuracy.{MoonNear, SumsNear, SunNear}
use Rattle.sum_rules.specs.ExactSums.{centuries}
use Rattle.sum_rules.specs.Instant.{century, furthest}
use Rattle.sum_rules.proofs.FloorsNear.{size_within}
use Rattle.sum_rules.proofs.MoonNear.{moon_within}
use Rattle.sum_rules.proofs.PowersNear.{reach}
use Rattle.sum_rules.proofs.SunNear.{sun_within}

reach_ok : nat furthest over century ≤q reach
unfolding nn whole inv ◌+q◌ ◌*q◌ negq
reach_ok = record { diff = record { is = tt } }

in_reach : (n : ℤ) → nat_abs n ≤ furthest → Within (centuries n) reach
in_reach n h = within_le (within_mul (within_le (size_within n) (record { diff = nat_le h })) (within_self (nn_inv (century - 1)))) reach_ok

pub moon_near : (n : ℤ) → nat_abs n ≤ furthest → MoonNear n
moon_near n h = moon_within n (in_reach n h)

pub sun_near : (n : ℤ) → nat_abs n ≤ furthest → SunNear n
sun_near n h = sun_within n (in_reach n h)

pub sums_near : (n : ℤ) → nat_abs n ≤ furthest → SumsNear n
sums_near n h = record { moon = moon_near n h; sun = sun_near n h }
