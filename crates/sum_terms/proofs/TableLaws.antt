-- Sums over tables: what one row adds, and how large they get.
use mathlib.Core.Bool.{Bool}
use mathlib.Core.List.{List, [], ◌∷◌}
use mathlib.Core.Path.{◌∙◌, ◌≡◌, ap, refl, subst}
use Prim.Native.Nat.{◌<◌, ◌≤◌, suc, zero, zero-le, ℕ}
use native.Mathlib.Nat.{le-add_left, le-add_right, le_of_suc-le-suc, le_refl, le_trans, not-suc-le-zero}
use lib.Dec.{T, leb, leb→le}
use lib.IntN.{◌+ℤ◌, nat_abs, ℤ}
use lib.ListN.{get_or, length, take}
use Rattle.arithmetic.proofs.Integers.{solveℤ}
use Rattle.arithmetic.proofs.Sizes.{add_bound}
use Rattle.arithmetic.proofs.Solver.{◌:+◌, k0, x0, x1, x2}
use Rattle.arithmetic.proofs.Table.{at, every}
use Rattle.sum_rules.specs.Table.{Bounded, column, count, total}

module _ {A : Type 0} where
  pub total_next : (f : A → ℤ) (rows : List A) (i : ℕ) (d : A) → i < length rows → total f (take (suc i) rows) ≡ total f (take i rows) +ℤ f (get_or rows i d)
  unfolding total
  total_next f [] i d h = absurd (not-suc-le-zero h)
  total_next f (row ∷ rows) zero d h = solveℤ (x0 :+ k0) (k0 :+ x0) (f row ∷ []) tt
  total_next f (row ∷ rows) (suc i) d h =
      ap (λ (z : ℤ). f row +ℤ z) (total_next f rows i d (le_of_suc-le-suc h))
      ∙ solveℤ (x0 :+ (x1 :+ x2)) ((x0 :+ x1) :+ x2) (f row ∷ total f (take i rows) ∷ f (get_or rows i d) ∷ []) tt

  pub take_all : (rows : List A) (i : ℕ) → length rows ≤ i → take i rows ≡ rows
  take_all [] zero h = refl
  take_all [] (suc i) h = refl
  take_all (row ∷ rows) zero h = absurd (not-suc-le-zero h)
  take_all (row ∷ rows) (suc i) h = ap {B = List A} (λ r. row ∷ r) (take_all rows i (le_of_suc-le-suc h))

  -- a sum of the first rows is no larger than all their sizes together
  pub total_most : (f : A → ℤ) (g : A → ℕ) → ((row : A) → nat_abs (f row) ≤ g row) → (rows : List A) (i : ℕ) → nat_abs (total f (take i rows)) ≤ count g rows
  unfolding total count
  total_most f g h rows zero = zero-le
  total_most f g h [] (suc i) = zero-le
  total_most f g h (row ∷ rows) (suc i) = add_bound (f row) (total f (take i rows)) (h row) (total_most f g h rows i)

  pub count_row : (g : A → ℕ) (rows : List A) (i : ℕ) (d : A) → i < length rows → g (get_or rows i d) ≤ count g rows
  unfolding count
  count_row g [] i d h = absurd (not-suc-le-zero h)
  count_row g (row ∷ rows) zero d h = le-add_right (g row) (count g rows)
  count_row g (row ∷ rows) (suc i) d h = le_trans (count_row g rows i d (le_of_suc-le-suc h)) (le-add_left (count g rows) (g row))

  pub total_size : (f : A → ℤ) (g : A → ℕ) → ((row : A) → nat_abs (f row) ≤ g row) → (rows : List A) → nat_abs (total f rows) ≤ count g rows
  total_size f g h rows =
      subst (λ (r : List A). nat_abs (total f r) ≤ count g rows) (take_all rows (length rows) (le_refl (length rows)))
      (total_most f g h rows (length rows))

-- a row that keeps to its bounds, by a test of the columns 0, 1, ..
abbrev pub column_test : List ℤ → ℕ → ℕ → Bool
column_test row i bound = leb (nat_abs (column row i)) bound

unfoldable pub bounded_test : List ℕ → ℕ → List ℤ → Bool
bounded_test bounds k row = every (column_test row) 0 0 bounds

pub bounded_row : (bounds : List ℕ) (k : ℕ) (row : List ℤ) → T (bounded_test bounds k row) → Bounded bounds row
unfolding bounded_test
bounded_row bounds k row t = record { each = λ i h. leb→le (nat_abs (column row i)) (get_or bounds i 0) (at (column_test row) 0 bounds t i h) }

-- and so for each row of a table
pub bounded_rows : (bounds : List ℕ) (rows : List (List ℤ)) → T (every (bounded_test bounds) [] 0 rows) → (i : ℕ) → i < length rows → Bounded bounds (get_or rows i [])
bounded_rows bounds rows t i h = bounded_row bounds i (get_or rows i []) (at (bounded_test bounds) [] rows t i h)
