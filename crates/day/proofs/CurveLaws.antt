-- A list of what a function gives for each number below n: its length, its entries, which list it is, and how an array is filled with it from the front.
use mathlib.Core.List.{List, [], ◌++◌, ◌∷◌}
use mathlib.Core.Path.{◌∙◌, ◌≡◌, ap, ap₂, refl, sym}
use Prim.Native.Nat.{◌+◌, ◌<◌, suc, zero, ℕ}
use native.Mathlib.Decide.{dec_lt}
use native.Mathlib.Numerals.{add-one}
use native.Mathlib.Omega.{arith}
use lib.IntN.{pos, ℤ}
use lib.ListN.{get_or-append, drop, get_or, length, length-append, set, take, take-append-drop}
use lib.Seq.{drop-drop, drop-set-lt, get_or_at, take-suc-set}
use Rattle.std.proofs.lemmas.List.{get_or_default, same_lists}
use Rattle.day.specs.Curve.{EachMinute, each_below, minutes}

module _ {A : Type 0} (f : ℕ → A) where
  pub below_length : (n : ℕ) → length (each_below f n) ≡ n
  unfolding each_below
  below_length zero = refl
  below_length (suc n) = simp length-append (omega (arith, below_length n))

  pub below_entry : (none : A) (n m : ℕ) → m < n → get_or (each_below f n) m none ≡ f m
  unfolding each_below
  below_entry none zero m h = absurd (omega arith)
  below_entry none (suc n) m h = go (dec_lt m n) (below_entry none n m)
    where
      go : Dec (m < n) → (m < n → get_or (each_below f n) m none ≡ f m) → get_or (each_below f n ++ (f n ∷ [])) m none ≡ f m
      go (yes l) earlier = get_or-append (each_below f n) (f n ∷ []) none m (rw (below_length n) l) ∙ earlier l
      go (no l) earlier = let same : m ≡ n = omega arith in rw same (get_or_at (each_below f n) (f n) [] none n (below_length n))

  -- nothing is filled yet
  pub filled_none : (now : List A) → take 0 now ≡ each_below f 0
  unfolding each_below
  filled_none now = refl

  -- one entry more
  pub filled_next : (now : List A) {v : A} (m : ℕ) → m < length now → take m now ≡ each_below f m → v ≡ f m → take (m + 1) (set now m v) ≡ each_below f (m + 1)
  unfolding each_below
  filled_next now {v} m h so_far is = rw (add-one, take-suc-set now m v h, so_far, is)

-- an entry for each minute, of which P leaves one number
pub curve_is : {P : ℕ → ℤ → Type 0} (f : ℕ → ℤ) → ((m : ℕ) (z : ℤ) → m < minutes → P m z → z ≡ f m) → {curve : List ℤ} → EachMinute P curve → curve ≡ each_below f minutes
curve_is f one {curve} e =
    same_lists curve (each_below f minutes) (e.whole ∙ sym (below_length f minutes))
    (λ k d h. let within : k < minutes = omega (arith, h, e.whole) in
    get_or_default curve k d (pos 0) h ∙ one k (get_or curve k (pos 0)) within (e.entry k within) ∙ sym (below_entry f d minutes k within))

-- ---- a buffer that is filled from the front, with its rest as it was
module _ {A : Type 0} (before now : List A) (index : ℕ) (rest : drop index now ≡ drop index before) where
  pub rest_next : (v : A) → drop (index + 1) (set now index v) ≡ drop (index + 1) before
  rest_next v = drop-set-lt (index + 1) now index v (omega arith) ∙ sym (drop-drop 1 index now) ∙ ap (drop 1) rest ∙ drop-drop 1 index before

  pub front_and_rest : {front : List A} → take index now ≡ front → now ≡ front ++ drop index before
  front_and_rest is = sym (take-append-drop index now) ∙ ap₂ ◌++◌ is rest
