-- A rule of a table, proved at all of its entries by tests that antt computes, one entry after the other. The table is a list of any type,
-- and the test may go over a part of it, where the whole would pass antt's limit of steps.
use mathlib.Core.Bool.{Bool, ◌&&◌, true}
use mathlib.Core.List.{List, [], ◌∷◌}
use mathlib.Core.Path.{◌∙◌, ◌≡◌, subst, sym}
use Prim.Native.Nat.{◌+◌, ◌-◌, ◌<◌, ◌≤◌, min, suc, zero, ℕ}
use native.Mathlib.Nat.{add-suc, add-zero, le_of_suc-le-suc, not-suc-le-zero, suc-add, zero-add}
use native.Mathlib.Omega.{arith}
use lib.Dec.{T}
use lib.ListN.{drop, get_or, length, length-drop, length-take, take}
use lib.Seq.{get_or-drop, get_or-take}
use mir.Facts.{and_yes}

module _ {A : Type 0} (f : ℕ → A → Bool) (d : A) where
  -- the test f passes at each entry of the list and its place, counted from i
  abbrev pub every : ℕ → List A → Bool
  every i [] = true
  every i (x ∷ xs) = f i x && every (suc i) xs

  from : (xs : List A) (i : ℕ) → T (every i xs) → (k : ℕ) → k < length xs → T (f (i + k) (get_or xs k d))
  from [] i t k h = absurd (not-suc-le-zero h)
  from (x ∷ xs) i t zero h = subst (λ (m : ℕ). T (f m x)) (sym (add-zero i)) (and_yes (f i x) (every (suc i) xs) t).0
  from (x ∷ xs) i t (suc k) h =
      subst (λ (m : ℕ). T (f m (get_or xs k d))) (suc-add i k ∙ sym (add-suc i k))
      (from xs (suc i) (and_yes (f i x) (every (suc i) xs) t).1 k (le_of_suc-le-suc h))

  pub at : (xs : List A) → T (every 0 xs) → (k : ℕ) → k < length xs → T (f k (get_or xs k d))
  at xs t k h = subst (λ (m : ℕ). T (f m (get_or xs k d))) (zero-add k) (from xs 0 t k h)

  -- the same where the test is of the n entries from place i on
  pub at_part : (xs : List A) (i n : ℕ) → T (every i (take n (drop i xs))) → (k : ℕ) → i ≤ k → k < i + n → k < length xs → T (f k (get_or xs k d))
  at_part xs i n t k lo hi h =
      subst (λ (m : ℕ). T (f m (get_or xs m d))) (there i k lo)
      (subst (λ (a : A). T (f (i + (k - i)) a)) (get_or-take n (drop i xs) (k - i) d (left i n k lo hi) ∙ get_or-drop i xs (k - i) d)
      (from (take n (drop i xs)) i t (k - i) within))
    where
      there : (i k : ℕ) → i ≤ k → i + (k - i) ≡ k
      there i k lo = omega arith

      left : (i n k : ℕ) → i ≤ k → k < i + n → k - i < n
      left i n k lo hi = omega arith

      shorter : (i n k m : ℕ) → i ≤ k → k < i + n → k < m → k - i < min n (m - i)
      shorter i n k m lo hi h = omega arith

      within : k - i < length (take n (drop i xs))
      within = simp (length-take, length-drop) (shorter i n k (length xs) lo hi h)
