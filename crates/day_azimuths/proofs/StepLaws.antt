-- The steps of a day: each lies in it.
use Prim.Native.Nat.{◌*◌, ◌<◌, ◌≤◌, suc, zero, ℕ}
use native.Mathlib.Nat.{div-mul-le_self, mul-le-mul_right, suc-mul}
use native.Mathlib.Omega.{arith}
use lib.IntN.{nat_abs, ℤ}
use Rattle.day.specs.Curve.{minutes}
use Rattle.strip.specs.Checks.{steps}

pub all_in_day : (step : ℤ) → steps step * nat_abs step ≤ minutes
all_in_day step = div-mul-le_self minutes (nat_abs step)

pub in_day : (index count step : ℕ) → index < count → count * step ≤ minutes → index * step < minutes
in_day index count zero h most = omega arith
in_day index count (suc step) h most =
    let next : suc index * suc step ≤ count * suc step = mul-le-mul_right (suc step) h in
    omega (arith, suc-mul index (suc step))
