-- A code that is given in 64 bits is read as the rule has it; and standard air's is none.
use mathlib.Core.Bool.{Bool, cond, false, true}
use mathlib.Core.Path.{◌≡◌, refl}
use Prim.Native.Nat.{◌<◌, ◌^◌, ℕ}
use native.Mathlib.Omega.{arith}
use lib.Dec.{leb}
use lib.IntN.{nat_abs, negsuc, pos, ℤ}
use borrow.Author.Tests.{le-leb, lt-leb}
use Rattle.std.specs.Prelude.{Err, Ok, Result}
use Rattle.std.specs.Int.{FitsUnsignedBits}
use Rattle.std.specs.Result.{OkIff, result_unwrap_or}
use Rattle.numbers.specs.Whole.{between}
use Rattle.boundary.specs.Codes.{StandardUnnamed, body_refusal, code_in, largest, moon, unknown_body}

pub read_code : {E : Type 0} (number : ℤ) (r : Result ℕ E) → OkIff r (FitsUnsignedBits 32 number) (nat_abs number) → result_unwrap_or r largest ≡ code_in number
unfolding between
read_code (pos n) (Ok x) h = let l : n < 2 ^ 32 = h.0 in rw (le-leb 0 n (omega arith), le-leb n largest (omega arith)) h.1
read_code (negsuc n) (Ok x) h = absurd h.0
read_code (pos n) (Err x) h = rw (le-leb 0 n (omega arith), lt-leb n largest (omega arith)) refl
read_code (negsuc n) (Err x) h = refl

pub standard_unnamed : StandardUnnamed
standard_unnamed = (refl, refl, refl)

-- the code of a body is refused by its own number, and by no other
pub body_unlike : {n : ℕ} (code : ℕ) → (0 ≡ n → ⊥) → (unknown_body ≡ n → ⊥) → body_refusal code ≡ n → ⊥
body_unlike {n} code none_is unknown_is = go (leb code moon)
  where
    go : (b : Bool) → cond {A = ℕ} b 0 unknown_body ≡ n → ⊥
    go true e = none_is e
    go false e = unknown_is e

-- not by that of a late offset, nor by that of a minute out of tolerance
pub body_not_late : (code : ℕ) → body_refusal code ≡ 13 → ⊥
body_not_late code = body_unlike code (λ e. omega (arith, e)) (λ e. omega (arith, e))

pub body_not_out : (code : ℕ) → body_refusal code ≡ 31 → ⊥
body_not_out code = body_unlike code (λ e. omega (arith, e)) (λ e. omega (arith, e))
