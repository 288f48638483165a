-- Constant rows of the Sun's tables, and sizes of its rows and groups.
use mathlib.Core.Bool.{Bool, ◌&&◌, true}
use mathlib.Core.List.{List, [], ◌++◌, ◌∷◌, map}
use mathlib.Core.Path.{◌∙◌, ◌≡◌, ap, ap₂, refl, subst, subst⁻¹, sym}
use Prim.Native.Nat.{◌*◌, ◌+◌, ◌/◌, ◌<◌, ◌^◌, ◌≤◌, suc, zero, zero-le, ℕ}
use native.Mathlib.Nat.{le_refl, le_trans, not-suc-le-zero, zero-lt-suc}
use native.Mathlib.Numerals.{add-one}
use native.Mathlib.Omega.{arith}
use lib.Dec.{T, leb, leb→le}
use lib.IntN.{◌*ℤ◌, ◌+ℤ◌, nat_abs, pos, ℤ}
use lib.ListN.{drop, get_or, length}
use mir.Facts.{and_yes}
use Rattle.std.specs.List.{push}
use Rattle.std.proofs.Math.Seq.{drop-append_seam, get_or-append_seam}
use Rattle.std.proofs.lemmas.List.{append-nil, append_assoc, length-append, length-map, map-append, nil_from_length}
use Rattle.arithmetic.specs.Floor.{◌modulo◌, ⌊◌÷◌⌋}
use Rattle.arithmetic.proofs.FloorLaws.{floor_most, modulo_below}
use Rattle.arithmetic.proofs.Sizes.{add_bound, mul_bound}
use Rattle.arithmetic.proofs.Table.{at, every}
use Rattle.number_rules.specs.Angle.{full_turn}
use Rattle.number_rules.specs.Sine.{cosine}
use Rattle.number_rules.proofs.SineSize.{cosine_most}
use Rattle.sum_rules.specs.Instant.{furthest, millennium, u}
use Rattle.sum_rules.specs.Sun.{down, group, phase, row_A, row_B, row_C, row_angle, row_value, series}
use Rattle.sun_sums.specs.SunRange.{SmallRay, Sound, Summable, spread, top}
use Rattle.sum_rules.specs.SunTerms.{B_groups, B0, B1, L_groups, L0, L1, L2, L3, L4, L5, R_groups, R0, R1, R2, R3, R4}
use Rattle.sum_rules.specs.Table.{count}
use Rattle.sum_rules.proofs.ConstantRows.{angle_zero, cosine_zero}
use Rattle.sum_terms.proofs.InstantLaws.{floor_size, u_most}
use Rattle.sum_terms.proofs.TableLaws.{total_size}
use Rattle.sum_terms.specs.TermRange.{Summing}

-- a row (A, 0, 0) is 100 A
hundred : (a : ℕ) → ⌊ pos a *ℤ pos 1_000_000_000 ÷ 10_000_000 ⌋ ≡ pos (100 * a)
unfolding ⌊◌÷◌⌋
hundred a = ap pos (part a)
  where
    part : (a : ℕ) → a * 1_000_000_000 / 10_000_000 ≡ 100 * a
    part a = omega arith

pub constant_value : (n : ℤ) (row : List ℕ) → row_B row + row_C row ≡ 0 → row_value n row ≡ pos (100 * row_A row)
unfolding row_value
constant_value n row h =
    ap₂ (λ (b c : ℕ). ⌊ pos (row_A row) *ℤ cosine (pos (row_angle n b c)) ÷ 10_000_000 ⌋) (first (row_B row) (row_C row) h) (second (row_B row) (row_C row) h)
    ∙ ap (λ (a : ℕ). ⌊ pos (row_A row) *ℤ cosine (pos a) ÷ 10_000_000 ⌋) (angle_zero n)
    ∙ ap (λ (z : ℤ). ⌊ pos (row_A row) *ℤ z ÷ 10_000_000 ⌋) cosine_zero
    ∙ hundred (row_A row)
  where
    first : (b c : ℕ) → b + c ≡ 0 → b ≡ 0
    first b c h = omega arith

    second : (b c : ℕ) → b + c ≡ 0 → c ≡ 0
    second b c h = omega arith

-- the remainder of a turn, in units, is no more than a turn
pub row_angle_small : (n : ℤ) (b c : ℕ) → row_angle n b c ≤ full_turn
unfolding row_angle
row_angle_small n b c = go ((pos b +ℤ phase n c) modulo 628_318_531) (modulo_below (pos b +ℤ phase n c) (zero-lt-suc 628_318_530))
  where
    go : (r : ℕ) → r < 628_318_531 → r * 5_729_577_951 / 100_000_000 ≤ full_turn
    go r h = omega arith

pub row_value_most : (n : ℤ) (row : List ℕ) → nat_abs (row_value n row) ≤ spread row
unfolding row_value
row_value_most n row =
    le_trans
    (floor_most (pos (row_A row) *ℤ cosine (pos (row_angle n (row_B row) (row_C row)))) 10_000_000 (row_A row * 1_000_000_001)
    (mul_bound (pos (row_A row)) (cosine (pos (row_angle n (row_B row) (row_C row)))) (le_refl (row_A row)) (cosine_most (pos (row_angle n (row_B row) (row_C row))))))
    (below (row_A row))
  where
    below : (a : ℕ) → a * 1_000_000_001 / 10_000_000 + 1 ≤ 101 * a + 1
    below a = omega arith

pub group_summing : (n : ℤ) (rows : List (List ℕ)) → Summable rows → Summing (row_value n) rows (2 ^ 46)
group_summing n rows fit = record { size = spread; sized = row_value_most n; fit = fit.all }

pub group_most : (n : ℤ) (rows : List (List ℕ)) → nat_abs (group n rows) ≤ count spread rows
group_most n rows = total_size (row_value n) spread (row_value_most n) rows

pub phase_small : (n : ℤ) (c : ℕ) → nat_abs n ≤ furthest → c ≤ 2 ^ 44 → nat_abs (phase n c) ≤ 2 ^ 41
phase_small n c h l = floor_size (pos c *ℤ n) millennium (mul_bound (pos c) n l h) tt

-- b and c that are not both zero
pub above : (b c : ℕ) → (b + c ≡ 0 → ⊥) → 0 < b + c
above b c h = omega arith

-- ---- groups

-- how large v gets, from the highest group down
unfoldable pub level : List (List (List ℕ)) → ℕ
level [] = 0
level (rows ∷ above) = count spread rows + (level above * 1_011_001 / 10_000_000 + 1)

pub down_most : (n : ℤ) → nat_abs n ≤ furthest → (groups : List (List (List ℕ))) → nat_abs (down n groups) ≤ level groups
unfolding down level
down_most n h [] = zero-le
down_most n h (rows ∷ above) =
    add_bound (group n rows) ⌊ down n above *ℤ u n ÷ 10_000_000 ⌋ (group_most n rows)
    (floor_most (down n above *ℤ u n) 10_000_000 (level above * 1_011_001) (mul_bound (down n above) (u n) (down_most n h above) (u_most n h)))

abbrev unless_zero : ℕ → Bool → Bool
unless_zero zero b = true
unless_zero (suc k) b = b

-- a row is small by one test, and so is a group
unfoldable pub small_test : ℕ → List ℕ → Bool
small_test i row =
    leb (row_A row) (2 ^ 40) && (unless_zero (row_B row + row_C row) (leb (row_A row) (2 ^ 32)) && (leb (row_B row) (2 ^ 30) && leb (row_C row) (2 ^ 44)))

small_ray : (i : ℕ) (row : List ℕ) → T (small_test i row) → SmallRay row
unfolding small_test
small_ray i row t =
    let t₁ = and_yes (leb (row_A row) (2 ^ 40)) _ t in
    let t₂ = and_yes (unless_zero (row_B row + row_C row) (leb (row_A row) (2 ^ 32))) _ t₁.1 in
    let t₃ = and_yes (leb (row_B row) (2 ^ 30)) _ t₂.1 in
    record {
      constant = leb→le (row_A row) (2 ^ 40) t₁.0;
      moving = λ h. leb→le (row_A row) (2 ^ 32) (other (row_B row + row_C row) (leb (row_A row) (2 ^ 32)) h t₂.0);
      phase_B = leb→le (row_B row) (2 ^ 30) t₃.0;
      phase_C = leb→le (row_C row) (2 ^ 44) t₃.1;
    }
  where
    other : (k : ℕ) (b : Bool) → 0 < k → T (unless_zero k b) → T b
    other zero b h t = absurd (not-suc-le-zero h)
    other (suc k) b h t = t

unfoldable pub fits_test : List (List ℕ) → Bool
fits_test rows = every small_test [] 0 rows && leb (count spread rows) (2 ^ 46)

pub fits_group : (rows : List (List ℕ)) → T (fits_test rows) → Summable rows
unfolding fits_test
fits_group rows t =
    let t₁ = and_yes (every small_test [] 0 rows) _ t in
    record {
      each = λ i h. small_ray i (get_or rows i []) (at small_test [] rows t₁.0 i h);
      all = leb→le (count spread rows) (2 ^ 46) t₁.1;
    }

unfoldable pub steady : (ℕ → ℕ) → List (List (List ℕ)) → Bool
steady most [] = true
steady most (rows ∷ others) = leb (level (rows ∷ others)) (most 0) && steady (λ k. most (suc k)) others

unfoldable pub series_test : List (List (List ℕ)) → Bool
series_test groups = every (λ _. fits_test) [] 0 groups && steady top (drop 1 groups)

module _ (n : ℤ) (h : nat_abs n ≤ furthest) where
  steady_most : (most : ℕ → ℕ) (groups : List (List (List ℕ))) → T (steady most groups) → (k : ℕ) → nat_abs (down n (drop k groups)) ≤ most k
  unfolding steady down
  steady_most most [] t zero = zero-le
  steady_most most [] t (suc k) = zero-le
  steady_most most (rows ∷ others) t zero =
      le_trans (down_most n h (rows ∷ others)) (leb→le (level (rows ∷ others)) (most 0) (and_yes (leb (level (rows ∷ others)) (most 0)) _ t).0)
  steady_most most (rows ∷ others) t (suc k) =
      steady_most (λ k. most (suc k)) others (and_yes (leb (level (rows ∷ others)) (most 0)) _ t).1 k

sound : (groups : List (List (List ℕ))) → T (series_test groups) → Sound groups
unfolding series_test
sound groups t =
    let t₁ = and_yes (every (λ _. fits_test) [] 0 groups) _ t in
    record {
      each = λ k h. fits_group (get_or groups k []) (at (λ _. fits_test) [] groups t₁.0 k h);
      above = λ n h k. steady_most n h top (drop 1 groups) t₁.1 k;
    }

pub L_sound : Sound L_groups
unfolding series_test fits_test small_test steady level count L0 L1 L2 L3 L4 L5
L_sound = sound L_groups tt

pub B_sound : Sound B_groups
unfolding series_test fits_test small_test steady level count B0 B1
B_sound = sound B_groups tt

pub R_sound : Sound R_groups
unfolding series_test fits_test small_test steady level count R0 R1 R2 R3 R4
R_sound = sound R_groups tt

-- the groups that are lent, told from their lists alone
pub sound_of : {groups lent : List (List (List ℕ))} → Sound groups → lent ≡ groups → Sound lent
sound_of s e = subst⁻¹ Sound e s

pub series_of : (n : ℤ) {r : ℤ} {groups lent : List (List (List ℕ))} → r ≡ series n lent → lent ≡ groups → r ≡ series n groups
series_of n is e = is ∙ ap (series n) e

-- ---- a series, from the highest group down: v is of the groups that are done, and the others are left
pub record Upto {A : Type 0} (rows : A → List (List ℕ)) (n : ℤ) (above left : List A) (v : ℤ) : Type 0 where
  pub done : List A
  pub all : left ++ done ≡ above
  pub is : v ≡ down n (map rows done)

module _ {A : Type 0} {rows : A → List (List ℕ)} {n : ℤ} {above left : List A} where
  pub upto_begun : left ≡ above → Upto rows n above left (pos 0)
  unfolding down
  upto_begun e = record { done = []; all = append-nil left ∙ e; is = refl }

  -- a group, taken from the end of those that are left
  pub upto_next : {v r : ℤ} (next : List A) (x : A) → Upto rows n above left v → left ≡ push next x → r ≡ group n (rows x) +ℤ ⌊ v *ℤ u n ÷ 10_000_000 ⌋ → Upto rows n above next r
  unfolding down
  upto_next next x so e is = record {
    done = x ∷ so.done;
    all = sym (append_assoc next (x ∷ []) so.done) ∙ ap (λ (l : List A). l ++ so.done) (sym e) ∙ so.all;
    is = is ∙ ap (λ (z : ℤ). group n (rows x) +ℤ ⌊ z *ℤ u n ÷ 10_000_000 ⌋) so.is;
  }

  -- and all of them
  pub upto_all : {v : ℤ} → Upto rows n above left v → length left ≡ 0 → v ≡ down n (map rows above)
  upto_all so e = so.is ∙ ap (λ (l : List A). down n (map rows l)) (ap (λ (l : List A). l ++ so.done) (sym (nil_from_length left e)) ∙ so.all)

  module _ {first : List (List ℕ)} (sound : Sound (first ∷ map rows above)) (h : nat_abs n ≤ furthest) {v : ℤ} (so : Upto rows n above left v) where
    split : map rows above ≡ map rows left ++ map rows so.done
    split = ap (map rows) (sym so.all) ∙ map-append rows left so.done

    pub upto_most : nat_abs v ≤ top (length left)
    upto_most =
        let e = ap (drop (length left)) split ∙ ap (λ (k : ℕ). drop k (map rows left ++ map rows so.done)) (sym (length-map left rows)) ∙ drop-append_seam (map rows left) (map rows so.done) in
        subst⁻¹ (λ (z : ℤ). nat_abs z ≤ top (length left)) so.is (subst (λ (l : List (List (List ℕ))). nat_abs (down n l) ≤ top (length left)) e (sound.above n h (length left)))

    -- the group to be taken
    module _ (next : List A) (x : A) (e : left ≡ push next x) where
      left_count : length left ≡ suc (length next)
      left_count = ap length e ∙ length-append next (x ∷ []) ∙ add-one (length next)

      whole : map rows above ≡ map rows next ++ rows x ∷ map rows so.done
      whole = ap (map rows) (sym so.all ∙ ap (λ (l : List A). l ++ so.done) e ∙ append_assoc next (x ∷ []) so.done) ∙ map-append rows next (x ∷ so.done)

      inside : suc (length next) < length (first ∷ map rows above)
      inside = omega (arith, ap length whole, length-append (map rows next) (rows x ∷ map rows so.done), length-map next rows)

      taken : get_or (map rows above) (length next) [] ≡ rows x
      taken =
          ap (λ (l : List (List (List ℕ))). get_or l (length next) []) whole
          ∙ ap (λ (k : ℕ). get_or (map rows next ++ rows x ∷ map rows so.done) k []) (sym (length-map next rows))
          ∙ get_or-append_seam (map rows next) (rows x) (map rows so.done) []

      pub upto_fits : Summable (rows x)
      upto_fits = subst Summable taken (sound.each (suc (length next)) inside)

      pub upto_small : nat_abs v ≤ 2 ^ 42
      upto_small = subst (λ (k : ℕ). nat_abs v ≤ top k) left_count upto_most
