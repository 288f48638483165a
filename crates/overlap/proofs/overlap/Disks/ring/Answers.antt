-- `overlap::overlap::Disks::ring` meets its contract.
use mathlib.Core.Path.{sym}
use Prim.Native.Nat.{◌%◌, ◌*◌, ◌/◌, ◌<◌, ◌≤◌, ℕ}
use native.Mathlib.Nat.{div-le_of_le-mul, div-le_self, mod-lt, mul-le-mul}
use native.Mathlib.Omega.{arith}
use Rattle.overlap.specs.Overlap.{ring}
use Rattle.overlap.proofs.OverlapLaws.{ring_digits}
use Rattle.overlap.proofs.overlap.Disks.ring.Goals as goal
use Rattle.overlap.proofs.overlap.Disks.ring.Goals.{Start}

module _ (c : Start) where
  abbrev rs : ℕ
  rs = c.args.self.sun

  abbrev rm : ℕ
  rm = c.args.self.moon

  sun_small : rs * rs ≤ 900_000_000_000_000
  sun_small = mul-le-mul c.args.self.radii.sun_most c.args.self.radii.sun_most

  moon_less : rm * rm ≤ rs * rs
  moon_less = mul-le-mul c.requires c.requires

  sun_above : 0 < rs * rs
  sun_above = let l : 1 ≤ rs = omega (arith, c.args.self.radii.sun_least) in omega (arith, mul-le-mul l l)

  first_small : 1000 * (rm * rm) / (rs * rs) ≤ 1000
  first_small = div-le_of_le-mul (rs * rs) (omega (arith, moon_less))

pub overflow_mul-sun : goal.overflow_mul-sun
overflow_mul-sun c = omega (arith, sun_small (goal.at.overflow_mul-sun c).Start)

pub overflow_mul-moon : goal.overflow_mul-moon
overflow_mul-moon c = omega (arith, sun_small (goal.at.overflow_mul-moon c).Start, moon_less (goal.at.overflow_mul-moon c).Start)

pub overflow_mul-moon-2 : goal.overflow_mul-moon-2
overflow_mul-moon-2 c = omega (arith, sun_small (goal.at.overflow_mul-moon-2 c).Start, moon_less (goal.at.overflow_mul-moon-2 c).Start)

pub nonzero_div-result : goal.nonzero_div-result
nonzero_div-result c = omega (arith, sun_above (goal.at.nonzero_div-result c).Start)

pub overflow_mul-result : goal.overflow_mul-result
overflow_mul-result c = omega (arith, first_small (goal.at.overflow_mul-result c).Start)

pub nonzero_rem-result : goal.nonzero_rem-result
nonzero_rem-result c = omega (arith, sun_above (goal.at.nonzero_rem-result c).Start)

pub overflow_mul-result-2 : goal.overflow_mul-result-2
overflow_mul-result-2 c = omega (arith, sun_small (goal.at.overflow_mul-result-2 c).Start, mod-lt (1000 * (rm (goal.at.overflow_mul-result-2 c).Start * rm (goal.at.overflow_mul-result-2 c).Start)) (sun_above (goal.at.overflow_mul-result-2 c).Start))

pub nonzero_div-result-2 : goal.nonzero_div-result-2
nonzero_div-result-2 c = omega (arith, sun_above (goal.at.nonzero_div-result-2 c).Start)

pub overflow_add-result : goal.overflow_add-result
overflow_add-result c =
    omega (arith, first_small (goal.at.overflow_add-result c).Start, sun_small (goal.at.overflow_add-result c).Start, mod-lt (1000 * (rm (goal.at.overflow_add-result c).Start * rm (goal.at.overflow_add-result c).Start)) (sun_above (goal.at.overflow_add-result c).Start), div-le_self (1000 * (rm (goal.at.overflow_add-result c).Start * rm (goal.at.overflow_add-result c).Start) % (rs (goal.at.overflow_add-result c).Start * rs (goal.at.overflow_add-result c).Start) * 1000) (rs (goal.at.overflow_add-result c).Start * rs (goal.at.overflow_add-result c).Start))

pub returns : goal.returns
unfolding ring
returns c = sym (ring_digits (rs (goal.at.returns c).Start * rs (goal.at.returns c).Start) (rm (goal.at.returns c).Start * rm (goal.at.returns c).Start) (sun_above (goal.at.returns c).Start))
