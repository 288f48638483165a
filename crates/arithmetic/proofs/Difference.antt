-- Equations and orders of ℤ as equations and orders of ℕ, which `omega` proves.
-- `Is z p n` says that z is p − n, for two naturals. Each operation of ℤ has a rule that gives p and n of its result, so a proof
-- writes the expression once more with the rules, as  ⟨ x ⟩ ⊞ ⟨ y ⟩ ⊠ # 3,  and `omega` proves what is left, products multiplied out.
use mathlib.Core.Bool.{Bool, cond, false, not, true}
use mathlib.Core.Path.{◌≡◌, ap, subst}
use Prim.Native.Nat.{◌*◌, ◌+◌, ◌-◌, ◌<◌, ◌≤◌, suc, zero, ℕ}
use native.Mathlib.Omega.{arith}
use lib.Dec.{T, leb→le, le→leb, ltb, ltb→lt, lt→ltb, nltb→le}
use lib.IntN.{◌*ℤ◌, ◌+ℤ◌, ◌-ℤ◌, nat_abs, negsuc, neg_ℤ, pos, sub_ℕ, ℤ}
use lib.Signed.{◌<ℤ◌, ◌≤ℤ◌, le_z, lt_z}

-- z is p − n
pub data Is : ℤ → ℕ → ℕ → Type 0 where
  above : (k p n : ℕ) → p ≡ n + k → Is (pos k) p n
  below : (k p n : ℕ) → n ≡ p + suc k → Is (negsuc k) p n

-- the two parts of z, of which one is 0
abbrev pub up : ℤ → ℕ
up (pos k) = k
up (negsuc k) = 0

abbrev pub dn : ℤ → ℕ
dn (pos k) = 0
dn (negsuc k) = suc k

pub abs_parts : (z : ℤ) → nat_abs z ≡ up z + dn z
abs_parts (pos k) = omega arith
abs_parts (negsuc k) = omega arith

-- ---- the rules

-- an unknown
pub ⟨◌⟩ : (z : ℤ) → Is z (up z) (dn z)
⟨ pos k ⟩ = above k k 0 (omega arith)
⟨ negsuc k ⟩ = below k 0 (suc k) (omega arith)

-- a natural number
infix 90 #◌
pub #◌ : (k : ℕ) → Is (pos k) k 0
# k = above k k 0 (omega arith)

infix 80 ⊟◌
pub ⊟◌ : {a : ℤ} {p n : ℕ} → Is a p n → Is (neg_ℤ a) n p
⊟ (above zero p n h) = above zero n p (omega arith)
⊟ (above (suc k) p n h) = below k n p h
⊟ (below k p n h) = above (suc k) n p h

by_test : (b : Bool) (x y : ℤ) {p n : ℕ} → (T b → Is x p n) → (T (not b) → Is y p n) → Is (cond b x y) p n
by_test true x y f g = f tt
by_test false x y f g = g tt

-- a − b
pub is_sub : (a b p n : ℕ) → p + b ≡ n + a → Is (sub_ℕ a b) p n
is_sub a b p n e =
    by_test (ltb a b) (negsuc (b - suc a)) (pos (a - b))
    (λ t. let h : a < b = ltb→lt a b t in below (b - suc a) p n (omega arith))
    (λ t. let h : b ≤ a = nltb→le a b t in above (a - b) p n (omega arith))

infixl 60 ◌⊞◌ ◌⊟ℤ◌
pub ◌⊞◌ : {a b : ℤ} {p n q m : ℕ} → Is a p n → Is b q m → Is (a +ℤ b) (p + q) (n + m)
(above i p n h) ⊞ (above j q m k) = above (i + j) (p + q) (n + m) (omega arith)
(above i p n h) ⊞ (below j q m k) = is_sub i (suc j) (p + q) (n + m) (omega arith)
(below i p n h) ⊞ (above j q m k) = is_sub j (suc i) (p + q) (n + m) (omega arith)
(below i p n h) ⊞ (below j q m k) = below (suc (i + j)) (p + q) (n + m) (omega arith)

pub ◌⊟ℤ◌ : {a b : ℤ} {p n q m : ℕ} → Is a p n → Is b q m → Is (a -ℤ b) (p + m) (n + q)
h ⊟ℤ k = h ⊞ ⊟ k

mul_at : (i j n m p q : ℕ) → p ≡ n + i → q ≡ m + j → p * q + n * m ≡ (p * m + n * q) + i * j
mul_at i j n m p q h k = rw (h, k) (omega arith)

infixl 70 ◌⊠◌
pub ◌⊠◌ : {a b : ℤ} {p n q m : ℕ} → Is a p n → Is b q m → Is (a *ℤ b) (p * q + n * m) (p * m + n * q)
(above i p n h) ⊠ (above j q m k) = above (i * j) (p * q + n * m) (p * m + n * q) (mul_at i j n m p q h k)
(above i p n h) ⊠ (below j q m k) =
    ⊟ above (i * suc j) (p * m + n * q) (p * q + n * m) (omega (arith, mul_at i (suc j) n q p m h k))
(below i p n h) ⊠ (above j q m k) =
    ⊟ above (suc i * j) (p * m + n * q) (p * q + n * m) (omega (arith, mul_at (suc i) j p m n q h k))
(below i p n h) ⊠ (below j q m k) =
    above (suc i * suc j) (p * q + n * m) (p * m + n * q) (omega (arith, mul_at (suc i) (suc j) p q n m h k))

-- ---- what they are for

-- an equation of ℤ from one of ℕ
pub by_eq : {a b : ℤ} {p n q m : ℕ} → Is a p n → Is b q m → p + m ≡ q + n → a ≡ b
by_eq (above i p n h) (above j q m k) e = ap pos (omega arith)
by_eq (above i p n h) (below j q m k) e = absurd (omega arith)
by_eq (below i p n h) (above j q m k) e = absurd (omega arith)
by_eq (below i p n h) (below j q m k) e = ap negsuc (omega arith)

le_at : {a b : ℤ} {p n q m : ℕ} → Is a p n → Is b q m → p + m ≤ q + n → T (le_z a b)
le_at (above i p n h) (above j q m k) e = le→leb i j (omega arith)
le_at (above i p n h) (below j q m k) e = absurd (omega arith)
le_at (below i p n h) (above j q m k) e = tt
le_at (below i p n h) (below j q m k) e = le→leb j i (omega arith)

pub by_le : {a b : ℤ} {p n q m : ℕ} → Is a p n → Is b q m → p + m ≤ q + n → a ≤ℤ b
by_le h k e = record { le = le_at h k e }

lt_at : {a b : ℤ} {p n q m : ℕ} → Is a p n → Is b q m → p + m < q + n → T (lt_z a b)
lt_at (above i p n h) (above j q m k) e = lt→ltb i j (omega arith)
lt_at (above i p n h) (below j q m k) e = absurd (omega arith)
lt_at (below i p n h) (above j q m k) e = tt
lt_at (below i p n h) (below j q m k) e = lt→ltb j i (omega arith)

pub by_lt : {a b : ℤ} {p n q m : ℕ} → Is a p n → Is b q m → p + m < q + n → a <ℤ b
by_lt h k e = record { lt = lt_at h k e }

-- and back: a fact of ℤ as one of ℕ
at_same : {a : ℤ} {p n q m : ℕ} → Is a p n → Is a q m → p + m ≡ q + n
at_same (above i p n h) (above j q m k) = omega arith
at_same (below i p n h) (below j q m k) = omega arith

pub to_eq : {a b : ℤ} {p n q m : ℕ} → Is a p n → Is b q m → a ≡ b → p + m ≡ q + n
to_eq {p = p} {n = n} h k e = at_same (subst (λ (z : ℤ). Is z p n) e h) k

at_le : {a b : ℤ} {p n q m : ℕ} → Is a p n → Is b q m → T (le_z a b) → p + m ≤ q + n
at_le (above i p n h) (above j q m k) e = let x = leb→le i j e in omega arith
at_le (above i p n h) (below j q m k) e = absurd e
at_le (below i p n h) (above j q m k) e = omega arith
at_le (below i p n h) (below j q m k) e = let x = leb→le j i e in omega arith

pub to_le : {a b : ℤ} {p n q m : ℕ} → Is a p n → Is b q m → a ≤ℤ b → p + m ≤ q + n
to_le h k e = at_le h k e.le

at_lt : {a b : ℤ} {p n q m : ℕ} → Is a p n → Is b q m → T (lt_z a b) → p + m < q + n
at_lt (above i p n h) (above j q m k) e = let x = ltb→lt i j e in omega arith
at_lt (above i p n h) (below j q m k) e = absurd e
at_lt (below i p n h) (above j q m k) e = omega arith
at_lt (below i p n h) (below j q m k) e = let x = ltb→lt j i e in omega arith

pub to_lt : {a b : ℤ} {p n q m : ℕ} → Is a p n → Is b q m → a <ℤ b → p + m < q + n
to_lt h k e = at_lt h k e.lt

-- the parts of what a rule gives
pub at_parts : {z : ℤ} {p n : ℕ} → Is z p n → (up z + n ≡ p + dn z) × ((up z ≤ p) × (dn z ≤ n))
at_parts (above k p n h) = (omega arith, (omega arith, omega arith))
at_parts (below k p n h) = (omega arith, (omega arith, omega arith))
