-- A test that holds at no number below a limit, and tests that are joined.
use mathlib.Core.Bool.{Bool, ◌&&◌, false, true}
use mathlib.Core.Path.{◌≡◌, refl}
use Prim.Native.Nat.{◌<◌, ℕ}
use native.Mathlib.Omega.{arith}
use borrow.Author.Tests.{eq-eqb, eqb-true}
use Rattle.day.proofs.SearchLaws.{before, clash, is_first}
use Rattle.day.specs.Search.{first_where}
use Rattle.turning_points.specs.Points.{nowhere}

pub by_cases : {P : Type 0} (b : Bool) → (b ≡ true → P) → (b ≡ false → P) → P
by_cases true f g = f refl
by_cases false f g = g refl

pub and_both : (a b : Bool) → (a && b) ≡ true → (a ≡ true) × (b ≡ true)
and_both true b e = (refl, e)
and_both false b e = absurd (clash {b = false} e refl)

pub and_intro : {a b : Bool} → a ≡ true → b ≡ true → (a && b) ≡ true
and_intro {a} {b} e f = rw (e, f) refl

module _ (test : ℕ → Bool) where
  pub is_nowhere : (n : ℕ) → ((i : ℕ) → i < n → test i ≡ false) → nowhere test n ≡ true
  unfolding nowhere
  is_nowhere n f = eq-eqb (first_where test n) n (is_first test n n (omega arith) f (λ h. absurd (omega (arith, h))))

  pub at_none : (n : ℕ) → nowhere test n ≡ true → (i : ℕ) → i < n → test i ≡ false
  unfolding nowhere
  at_none n e i h = before test n i (omega (arith, eqb-true (first_where test n) n e))

  pub somewhere : (n i : ℕ) → i < n → test i ≡ true → nowhere test n ≡ false
  somewhere n i h t = by_cases (nowhere test n) (λ e. absurd (clash t (at_none n e i h))) (λ e. e)
