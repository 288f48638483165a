-- Numbers of 32 bits read from a table's row and widened to 64: what the machine computes of them, as a `Mirror`.
use mathlib.Core.List.{List}
use mathlib.Core.Path.{◌∙◌, ◌≡◌, subst⁻¹}
use Prim.Native.Nat.{◌^◌, ◌≤◌, ℕ}
use native.Mathlib.Omega.{arith}
use lib.Dec.{T, ltb, ltb→lt, lt→ltb}
use lib.IntN.{nat_abs, ℤ}
use lib.ListN.{get_or, length}
use mir.Syntax.{w32, w64}
use mir.Val.{SFits, of_z, to_z}
use mir.ValLaws.{to_z-of_z}
use Rattle.numbers.proofs.Machine.{Mirror, abs_fits, mag_le}
use Rattle.sum_rules.specs.Table.{Bounded, column}

module _ (x : ℤ) {m : ℕ} (h : nat_abs x ≤ m) (t : T (ltb m (2 ^ 31))) where
  narrow_fits : SFits w32 x
  narrow_fits = record { sfits = omega (arith, mag_le x, h, ltb→lt m (2 ^ 31) t) }

  pub narrow_same : to_z w32 (of_z w32 x) ≡ x
  narrow_same = to_z-of_z w32 x narrow_fits

  -- what the widening asks
  pub widened : SFits w64 (to_z w32 (of_z w32 x))
  widened = subst⁻¹ (SFits w64) narrow_same (abs_fits x h (lt→ltb m (2 ^ 63) (omega (arith, ltb→lt m (2 ^ 31) t))))

  abbrev pub narrow : Mirror
  narrow = record {
    machine = to_z w64 (of_z w64 (to_z w32 (of_z w32 x)));
    number = x;
    most = m;
    same = to_z-of_z w64 (to_z w32 (of_z w32 x)) widened ∙ narrow_same;
    bound = h;
  }

-- a column of a row, as it is handed on
module _ {bounds : List ℕ} {row : List ℤ} (small : Bounded bounds row) (i : ℕ) (inside : T (ltb i (length bounds))) (t : T (ltb (get_or bounds i 0) (2 ^ 31))) where
  pub column_most : nat_abs (column row i) ≤ get_or bounds i 0
  column_most = small.each i (ltb→lt i (length bounds) inside)

  pub column_same : to_z w32 (of_z w32 (column row i)) ≡ column row i
  column_same = narrow_same (column row i) column_most t

  pub column_handed : nat_abs (to_z w32 (of_z w32 (column row i))) ≤ get_or bounds i 0
  column_handed = rw column_same column_most
