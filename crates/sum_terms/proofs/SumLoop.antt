-- A loop that adds a row of a table at each turn: what it keeps holds the rows before i, and never passes 2⁶².
-- `next` is a turn of it: from what is kept and what the row gave, that their sum fits and is what is kept after the turn.
use mathlib.Core.List.{List}
use mathlib.Core.Path.{◌∙◌, ◌≡◌, ap, sym}
use Prim.Native.Nat.{◌+◌, ◌<◌, ◌^◌, ◌≤◌, suc, ℕ}
use native.Mathlib.Nat.{le_trans}
use native.Mathlib.Numerals.{add-one}
use lib.Dec.{T, leb, leb→le}
use lib.IntN.{◌+ℤ◌, nat_abs, ℤ}
use lib.ListN.{get_or, length, take}
use mir.Syntax.{w64}
use mir.Val.{SFits, of_z, to_z}
use Rattle.numbers.proofs.Machine.{Mirror, ◌⊕◌, bounded, fits, kept, of_bits, told}
use Rattle.sum_rules.specs.Table.{count, total}
use Rattle.sum_terms.specs.TermRange.{Summing}
use Rattle.sum_terms.proofs.TableLaws.{count_row, take_all, total_most, total_next, total_size}

pub all_small : {A : Type 0} {f : List A → ℤ} {rows : List (List A)} {m : ℕ} → Summing f rows m → nat_abs (total f rows) ≤ m
all_small {f} {rows} s = le_trans (total_size f s.size s.sized rows) s.fit

-- and so at most more
pub no_more : {A : Type 0} {f : List A → ℤ} {rows : List (List A)} {m k : ℕ} → Summing f rows m → T (leb m k) → Summing f rows k
no_more {m} {k} s t = record { size = s.size; sized = s.sized; fit = le_trans s.fit (leb→le m k t) }

-- a sum that holds the rows before i
abbrev pub Summed : {A : Type 0} → (List A → ℤ) → List (List A) → ℕ → ℤ → Type 0
Summed f rows i sum = sum ≡ total f (take i rows)

pub record Next {A : Type 0} (f : List A → ℤ) (rows : List (List A)) (i bits : ℕ) (r : ℤ) : Type 0 where
  pub fit : SFits w64 (to_z w64 bits +ℤ to_z w64 (of_z w64 r))
  pub is : Summed f rows (i + 1) (to_z w64 (of_z w64 (to_z w64 bits +ℤ to_z w64 (of_z w64 r))))

module _
    {A : Type 0} {f : List A → ℤ} {rows : List (List A)} {m : ℕ} (s : Summing f rows m) (t : T (leb m (2 ^ 62)))
    (i bits : ℕ) {r : ℤ} (d : List A) (inside : i < length rows) (e : Summed f rows i (to_z w64 bits)) (h : r ≡ f (get_or rows i d))
  where
    fit_all : count s.size rows ≤ 2 ^ 62
    fit_all = le_trans s.fit (leb→le m (2 ^ 62) t)

    added_is : total f (take i rows) +ℤ f (get_or rows i d) ≡ total f (take (suc i) rows)
    added_is = sym (total_next f rows i d inside)

    added_most : nat_abs (total f (take i rows) +ℤ f (get_or rows i d)) ≤ 2 ^ 62
    added_most = rw added_is (le_trans (total_most f s.size s.sized rows (suc i)) fit_all)

    abbrev so_far : Mirror
    so_far = of_bits bits e (le_trans (total_most f s.size s.sized rows i) fit_all)

    abbrev row_gave : Mirror
    row_gave = told {r = r} h (le_trans (s.sized (get_or rows i d)) (le_trans (count_row s.size rows i d inside) fit_all)) tt

    pub next : Next f rows i bits r
    next =
        let sum = bounded (so_far ⊕ row_gave) added_most in record {
          fit = fits sum tt;
          is = (kept sum tt).same ∙ added_is ∙ ap (λ (k : ℕ). total f (take k rows)) (sym (add-one i));
        }

-- where the loop ends, i is the number of rows
pub all_added : {A : Type 0} (f : List A → ℤ) (rows : List (List A)) (i : ℕ) (sum : ℤ) → length rows ≤ i → Summed f rows i sum → sum ≡ total f rows
all_added f rows i sum h e = e ∙ ap (total f) (take_all rows i h)
