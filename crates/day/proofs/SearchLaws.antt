-- The laws of the first number that a test picks out: the test fails before it, holds there, and no other number is such.
use mathlib.Core.Bool.{Bool, cond, false, true}
use mathlib.Core.Path.{◌∙◌, ◌≡◌, ap, refl, sym}
use Prim.Native.Nat.{◌<◌, ◌≤◌, suc, zero, zero-le, ℕ}
use native.Mathlib.Decide.{dec_lt}
use native.Mathlib.Omega.{arith}
use lib.Dec.{ltb}
use borrow.Author.Tests.{le-ltb, lt-ltb}
use Rattle.day.specs.Search.{first_where}

-- what is true is not false
pub clash : {b : Bool} → b ≡ true → b ≡ false → ⊥
clash p q = let same : ◌≡◌ {A = ℕ} 0 1 = ap (λ (b : Bool). cond b 0 1) (sym p ∙ q) in omega arith

module _ (test : ℕ → Bool) where
  -- one number more
  abbrev step : ℕ → ℕ → Bool → ℕ
  step k n b = cond (ltb k n) k (cond b n (suc n))

  pub most : (n : ℕ) → first_where test n ≤ n
  unfolding first_where
  most zero = zero-le
  most (suc n) = go (first_where test n) (test n) (dec_lt (first_where test n) n) (most n)
    where
      go : (k : ℕ) (b : Bool) → Dec (k < n) → k ≤ n → step k n b ≤ suc n
      go k b (yes h) m = rw (lt-ltb k n h) (omega arith)
      go k true (no h) m = rw (le-ltb k n (omega arith)) (omega arith)
      go k false (no h) m = rw (le-ltb k n (omega arith)) (omega arith)

  pub before : (n i : ℕ) → i < first_where test n → test i ≡ false
  unfolding first_where
  before zero i h = absurd (omega arith)
  before (suc n) i h = go (before n i) (first_where test n) refl (test n) refl (dec_lt (first_where test n) n) h
    where
      last : (i < first_where test n → test i ≡ false) → n ≤ first_where test n → test n ≡ false → Dec (i < n) → i < suc n → test i ≡ false
      last earlier l t (yes m) h = earlier (omega arith)
      last earlier l t (no m) h = let same : i ≡ n = omega arith in rw same t

      go : (i < first_where test n → test i ≡ false) → (k : ℕ) → first_where test n ≡ k → (b : Bool) → test n ≡ b → Dec (k < n) → i < step k n b → test i ≡ false
      go earlier k e b t (yes l) h = earlier (omega (arith, e, rw (lt-ltb k n l) at h))
      go earlier k e true t (no l) h = earlier (omega (arith, e, most n, rw (le-ltb k n (omega arith)) at h))
      go earlier k e false t (no l) h = last earlier (omega (arith, e)) t (dec_lt i n) (rw (le-ltb k n (omega arith)) at h)

  pub there : (n : ℕ) → first_where test n < n → test (first_where test n) ≡ true
  unfolding first_where
  there zero h = absurd (omega arith)
  there (suc n) h = go (there n) (first_where test n) refl (test n) refl (dec_lt (first_where test n) n) h
    where
      go : (first_where test n < n → test (first_where test n) ≡ true) → (k : ℕ) → first_where test n ≡ k → (b : Bool) → test n ≡ b → Dec (k < n)
          → step k n b < suc n → test (step k n b) ≡ true
      go earlier k e b t (yes l) h = rw (lt-ltb k n l) (rw e at (earlier (omega (arith, e))))
      go earlier k e true t (no l) h = rw (le-ltb k n (omega arith)) t
      go earlier k e false t (no l) h = absurd (omega (arith, rw (le-ltb k n (omega arith)) at h))

  pub is_first : (n r : ℕ) → r ≤ n → ((i : ℕ) → i < r → test i ≡ false) → (r < n → test r ≡ true) → first_where test n ≡ r
  is_first n r l none here = go (dec_lt (first_where test n) r) (dec_lt r (first_where test n))
    where
      go : Dec (first_where test n < r) → Dec (r < first_where test n) → first_where test n ≡ r
      go (yes h) d = absurd (clash (there n (omega arith)) (none (first_where test n) h))
      go (no h) (yes k) = absurd (clash (here (omega (arith, most n))) (before n r k))
      go (no h) (no k) = omega arith

-- two tests that agree below n pick out the same number
pub same_first : (f g : ℕ → Bool) (n : ℕ) → ((m : ℕ) → m < n → f m ≡ g m) → first_where f n ≡ first_where g n
same_first f g n same =
    let r = first_where g n in
    is_first f n r (most g n) (λ i h. same i (omega (arith, most g n)) ∙ before g n i h) (λ h. same r h ∙ there g n h)
