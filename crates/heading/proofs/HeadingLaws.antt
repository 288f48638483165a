-- The middle of two azimuths by its cases.
use mathlib.Core.Bool.{Bool, ◌&&◌, cond, false, true}
use mathlib.Core.Path.{◌∙◌, ◌≡◌, ap, ap₂, refl, subst, sym}
use Prim.Native.Nat.{◌+◌, ◌-◌, ◌<◌, ℕ}
use native.Mathlib.Nat.{mod-lt, zero-lt-suc}
use native.Mathlib.Omega.{arith}
use lib.Dec.{T, ltb→lt}
use lib.IntN.{nat_abs, negsuc, pos, ℤ}
use lib.Signed.{le_z, lt_z}
use mir.Facts.{and_yes}
use borrow.Author.Tests.{eq-eqb, le-leb, le-ltb, lt-ltb, ne_eqb}
use Rattle.number_rules.specs.Angle.{full_turn, half_turn}
use Rattle.calendar.specs.Refusal.{OneAnswer}
use Rattle.calendar.proofs.RefusalLaws.{one_answer, result_tells}
use Rattle.heading.specs.Heading.{MiddleAnswer, clockwise, half_way, is_reduced, middle, middle_answer, middle_of}
use Rattle.calendar.specs.declared.refusal.Refusal.{Refusal}
use Rattle.std.specs.Prelude.{Result}

-- what a test of `is_reduced` tells
pub no_test : {r : Bool} {z x : ℤ} → r ≡ is_reduced z → z ≡ x → r ≡ false → is_reduced x ≡ false
no_test e same h = sym (e ∙ ap is_reduced same) ∙ h

pub yes_test : {r : Bool} {z x : ℤ} → r ≡ is_reduced z → z ≡ x → r ≡ true → is_reduced x ≡ true
yes_test e same h = sym (e ∙ ap is_reduced same) ∙ h

pub natural : (x : ℤ) → is_reduced x ≡ true → x ≡ pos (nat_abs x)
unfolding is_reduced
natural (pos n) h = refl
natural (negsuc n) h = absurd (subst T (sym h) tt)

pub below_turn : (x : ℤ) → is_reduced x ≡ true → nat_abs x < full_turn
unfolding is_reduced
below_turn (pos n) h = ltb→lt n full_turn (and_yes (le_z (pos 0) (pos n)) (lt_z (pos n) (pos full_turn)) (subst T (sym h) tt)).1
below_turn (negsuc n) h = absurd (subst T (sym h) tt)

abbrev refused : ℕ → MiddleAnswer
refused n = record { refusal = n; azimuth = 0 }

pub first_refused : (a b : ℤ) → is_reduced a ≡ false → middle a b ≡ refused 15
unfolding middle
first_refused a b h = ap (λ (p : Bool). cond (p && is_reduced b) (middle_of (nat_abs a) (nat_abs b)) (refused 15)) h

pub second_refused : (a b : ℤ) → is_reduced a ≡ true → is_reduced b ≡ false → middle a b ≡ refused 15
unfolding middle
second_refused a b h k = ap₂ (λ (p q : Bool). cond (p && q) (middle_of (nat_abs a) (nat_abs b)) (refused 15)) h k

pub reduced_is : {z : ℤ} {n : ℕ} → z ≡ pos n → n < full_turn → is_reduced z ≡ true
unfolding is_reduced
reduced_is {z} {n} e h = rw e (simp (le-leb 0 n (omega arith), lt-ltb n full_turn h))

pub middle_reduced : (a b : ℤ) → is_reduced a ≡ true → is_reduced b ≡ true → middle a b ≡ middle_of (nat_abs a) (nat_abs b)
unfolding middle
middle_reduced a b h k = ap₂ (λ (p q : Bool). cond (p && q) (middle_of (nat_abs a) (nat_abs b)) (refused 15)) h k

-- the middle of two angles whose numbers were read
pub both_reduced : (a b : ℤ) {x y : ℕ} → a ≡ pos x → x < full_turn → b ≡ pos y → y < full_turn → middle a b ≡ middle_of x y
unfolding middle
both_reduced a b e h f k = simp (reduced_is e h, reduced_is f k) (ap₂ (λ (z w : ℤ). middle_of (nat_abs z) (nat_abs w)) e f)

module _ (a b : ℕ) where
  pub opposite : clockwise a b ≡ half_turn → middle_of a b ≡ refused 14
  unfolding middle_of
  opposite h = simp (eq-eqb (clockwise a b) half_turn h)

  pub ahead : clockwise a b < half_turn → middle_of a b ≡ record { refusal = 0; azimuth = half_way a (clockwise a b) }
  unfolding middle_of
  ahead h = simp (ne_eqb (clockwise a b) half_turn (λ e. omega arith), lt-ltb (clockwise a b) half_turn h)

  pub behind : half_turn < clockwise a b → middle_of a b ≡ record { refusal = 0; azimuth = half_way b (full_turn - clockwise a b) }
  unfolding middle_of
  behind h = simp (ne_eqb (clockwise a b) half_turn (λ e. omega arith), le-ltb (clockwise a b) half_turn (omega arith))

  pub clockwise_below : clockwise a b < full_turn
  unfolding clockwise
  clockwise_below = mod-lt (b + full_turn - a) (zero-lt-suc 35_999_999_999)

-- ---- a middle is told from any other by its numbers
middle_tells : (x y : Result ℕ Refusal) → middle_answer x ≡ middle_answer y → x ≡ y
middle_tells = result_tells middle_answer (λ m. m.refusal) (λ x. refl) (λ x. refl) (λ x y same. ap (λ (m : MiddleAnswer). m.azimuth) same)

pub one_middle : {found : Result ℕ Refusal} {rule : MiddleAnswer} → middle_answer found ≡ rule → OneAnswer middle_answer rule found
one_middle = one_answer middle_tells
