-- What the cast of a `Mirror` to a double asks.
use mathlib.Core.Path.{subst⁻¹}
use Prim.Native.Nat.{◌^◌, ◌<◌}
use native.Mathlib.Nat.{le_of_lt}
use native.Mathlib.Omega.{arith}
use lib.Dec.{T, le→leb, ltb, ltb→lt, lt→ltb}
use lib.IntN.{nat_abs, negsuc, pos, ℤ}
use lib.Ieee as Ieee
use lib.Ieee.{binary64}
use Rattle.numbers.proofs.Machine.{Mirror, le_lt}

exact : (z : ℤ) → nat_abs z < 2 ^ 53 → T (Ieee.in_float binary64 z)
unfolding Ieee.in_float
exact (pos n) h = le→leb n (2 ^ 53) (le_of_lt h)
exact (negsuc n) h = lt→ltb n (2 ^ 53) (omega arith)

pub is_double : (x : Mirror) → T (ltb x.most (2 ^ 53)) → T (Ieee.in_float binary64 x.machine)
is_double x t = subst⁻¹ (λ (z : ℤ). T (Ieee.in_float binary64 z)) x.same (exact x.number (le_lt x.bound (ltb→lt x.most (2 ^ 53) t)))
