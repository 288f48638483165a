-- The cases of the sine's fold, and reducing a quarter turn on.
use mathlib.Core.List.{[], ◌∷◌}
use mathlib.Core.Path.{◌∙◌, ◌≡◌, ap, refl}
use Prim.Native.Nat.{◌%◌, ◌+◌, ◌-◌, ◌<◌, ◌≤◌, ℕ}
use native.Mathlib.Decide.{dec_lt}
use native.Mathlib.Nat.{mod-eq_of_lt}
use native.Mathlib.Omega.{arith}
use lib.Dec.{lit<}
use lib.IntN.{◌*ℤ◌, ◌+ℤ◌, neg_ℤ, pos, ℤ}
use borrow.Author.Tests.{le-leb, le-ltb, lt-leb, lt-ltb}
use Rattle.arithmetic.specs.Floor.{◌modulo◌, ⌊◌÷◌⌋}
use Rattle.arithmetic.proofs.FloorLaws.{modulo_below, shift_modulo, split}
use Rattle.arithmetic.proofs.Integers.{linℤ}
use Rattle.arithmetic.proofs.Solver.{◌:*◌, ◌:+◌, k1, x0, x1, x2, x3, x4}
use Rattle.number_rules.specs.Angle.{full_turn, half_turn, quarter_turn, reduced}
use Rattle.number_rules.specs.Sine.{cosine, fold, half_fold, negated_from_half, sine, sine_at}

pub half_low : {a : ℕ} → a ≤ quarter_turn → half_fold a ≡ a
unfolding half_fold
half_low {a} h = rw (le-ltb quarter_turn a h) refl

pub half_high : {a : ℕ} → quarter_turn < a → half_fold a ≡ half_turn - a
unfolding half_fold
half_high {a} h = rw (lt-ltb quarter_turn a h) refl

pub half_fold_most : (a : ℕ) → a ≤ half_turn → half_fold a ≤ quarter_turn
half_fold_most a h = go (dec_lt quarter_turn a)
  where
    go : Dec (quarter_turn < a) → half_fold a ≤ quarter_turn
    go (yes l) = rw (half_high l) (omega arith)
    go (no l) = rw (half_low {a = a} (omega arith)) (omega arith)

pub fold_low : {a : ℕ} → a < half_turn → fold a ≡ half_fold a
unfolding fold
fold_low {a} h = rw (lt-leb half_turn a h) refl

pub fold_high : {a : ℕ} → half_turn ≤ a → fold a ≡ half_fold (a - half_turn)
unfolding fold
fold_high {a} h = rw (le-leb half_turn a h) refl

pub fold_most : (a : ℕ) → a < full_turn → fold a ≤ quarter_turn
fold_most a h = go (dec_lt a half_turn)
  where
    go : Dec (a < half_turn) → fold a ≤ quarter_turn
    go (yes l) = rw (fold_low l) (half_fold_most a (omega arith))
    go (no l) = rw (fold_high {a = a} (omega arith)) (half_fold_most (a - half_turn) (omega arith))

pub sign_low : {a : ℕ} (s : ℕ) → a < half_turn → negated_from_half a s ≡ pos s
unfolding negated_from_half
sign_low {a} s h = rw (lt-leb half_turn a h) refl

pub sign_high : {a : ℕ} (s : ℕ) → half_turn ≤ a → negated_from_half a s ≡ neg_ℤ (pos s)
unfolding negated_from_half
sign_high {a} s h = rw (le-leb half_turn a h) refl

-- ---- reducing
pub reduced_below : (x : ℤ) → reduced x < full_turn
unfolding reduced
reduced_below x = modulo_below x (lit< tt)

-- a multiple of a whole turn goes
pub reduced_turns : (x k : ℤ) → reduced (x +ℤ pos full_turn *ℤ k) ≡ reduced x
unfolding reduced
reduced_turns x k = shift_modulo x k (lit< tt)

pub reduced_same : (a : ℕ) → a < full_turn → reduced (pos a) ≡ a
unfolding reduced ◌modulo◌
reduced_same a h = mod-eq_of_lt h

-- a number less its whole turns, and then any number on
pub reduced_add : (x : ℤ) (k : ℕ) → reduced (x +ℤ pos k) ≡ (reduced x + k) % full_turn
unfolding reduced
reduced_add x k =
    ap (λ (z : ℤ). z modulo full_turn)
    (linℤ (x0 :+ x1) (x2 :+ x1 :+ x3 :* x4) k1 x0 (x3 :* x4 :+ x2) (x ∷ pos k ∷ pos (x modulo full_turn) ∷ pos full_turn ∷ ⌊ x ÷ full_turn ⌋ ∷ []) tt (split x (lit< tt)))
    ∙ shift_modulo (pos (x modulo full_turn + k)) ⌊ x ÷ full_turn ⌋ (lit< tt)
    ∙ natural (x modulo full_turn + k)
  where
    natural : (n : ℕ) → pos n modulo full_turn ≡ n % full_turn
    natural n = unfold ◌modulo◌ in refl

-- the cosine of a reduced angle
pub cosine_is : (x : ℤ) → cosine x ≡ sine_at ((reduced x + quarter_turn) % full_turn)
unfolding cosine sine
cosine_is x = ap sine_at (reduced_add x quarter_turn)
