-- The laws of a floor and of what it leaves.
use mathlib.Core.List.{[], ◌∷◌}
use mathlib.Core.Path.{◌∙◌, ◌≡◌, ap, refl, sym}
use Prim.Native.Nat.{◌%◌, ◌*◌, ◌+◌, ◌-◌, ◌/◌, ◌<◌, ◌≤◌, suc, zero, ℕ}
use native.Mathlib.Decide.{dec_lt}
use native.Mathlib.Nat.{div-add-mod, div-le_self, div-zero, mod-lt, mul-le-mul_left, zero-lt-suc}
use native.Mathlib.Omega.{arith}
use lib.Dec.{ltb→lt}
use lib.IntN.{+ℤ_comm, ◌*ℤ◌, ◌+ℤ◌, ◌-ℤ◌, nat_abs, negsuc, pos, ℤ}
use lib.Signed.{◌<ℤ◌, ◌≤ℤ◌, mag, shr_z}
use Rattle.arithmetic.specs.Floor.{◌modulo◌, ⌊◌÷◌⌋}
use Rattle.arithmetic.proofs.Difference.{#◌, ◌⊞◌, ◌⊟ℤ◌, ◌⊠◌, by_eq, by_le, by_lt, dn, to_eq, to_le, to_lt, up, ⟨◌⟩}
use Rattle.arithmetic.proofs.Integers.{linℤ}
use Rattle.arithmetic.proofs.Solver.{◌:*◌, ◌:+◌, x0, x1, x2, x3, x4, x5}

-- what is left is below the divisor
pub modulo_below : (z : ℤ) {d : ℕ} → 0 < d → z modulo d < d
unfolding ◌modulo◌
modulo_below (pos n) h = mod-lt n h
modulo_below (negsuc n) h = omega arith

neg_split : (n d : ℕ) → 0 < d → suc n + (d - suc (n % d)) ≡ d * suc (n / d)
neg_split n d h = omega (arith, div-add-mod n d, mod-lt n h)

-- z = d q + r
pub split : (z : ℤ) {d : ℕ} → 0 < d → z ≡ pos d *ℤ ⌊ z ÷ d ⌋ +ℤ pos (z modulo d)
unfolding ⌊◌÷◌⌋ ◌modulo◌
split (pos n) {d} h = ap pos (sym (div-add-mod n d))
split (negsuc n) {d} h =
    by_eq ⟨ negsuc n ⟩ (# d ⊠ ⟨ negsuc (n / d) ⟩ ⊞ # (d - suc (n % d))) (omega (arith, neg_split n d h))

-- the same as the numbers that `omega` reads, the parts of each
pub split_nat : (z : ℤ) {d : ℕ} → 0 < d → d * up ⌊ z ÷ d ⌋ + z modulo d + dn z ≡ up z + d * dn ⌊ z ÷ d ⌋
split_nat z {d} h = let e = to_eq ⟨ z ⟩ (# d ⊠ ⟨ ⌊ z ÷ d ⌋ ⟩ ⊞ # (z modulo d)) (split z h) in omega arith

-- d q ≤ z < d (q + 1)
pub floor_le : (z : ℤ) {d : ℕ} → 0 < d → (pos d *ℤ ⌊ z ÷ d ⌋) ≤ℤ z
floor_le z {d} h = by_le (# d ⊠ ⟨ ⌊ z ÷ d ⌋ ⟩) ⟨ z ⟩ (omega (arith, split_nat z h))

pub floor_lt : (z : ℤ) {d : ℕ} → 0 < d → z <ℤ (pos d *ℤ (⌊ z ÷ d ⌋ +ℤ pos 1))
floor_lt z {d} h = by_lt ⟨ z ⟩ (# d ⊠ (⟨ ⌊ z ÷ d ⌋ ⟩ ⊞ # 1)) (omega (arith, split_nat z h, modulo_below z h))

-- a d + r ≤ b d + s with s below d has a ≤ b
digit_le : (d a b r s : ℕ) → s < d → d * a + r ≤ d * b + s → a ≤ b
digit_le d a b r s h k = go (dec_lt b a)
  where
    go : Dec (b < a) → a ≤ b
    go (yes l) = absurd (omega (arith, mul-le-mul_left d l))
    go (no f) = omega arith

digit_eq : (d a b r s : ℕ) → r < d → s < d → d * a + r ≡ d * b + s → a ≡ b
digit_eq d a b r s h k e = omega (arith, digit_le d a b r s k (omega arith), digit_le d b a s r h (omega arith))

-- a quotient does not fall where its dividend does not
pub div_mono : (d : ℕ) {a b : ℕ} → a ≤ b → a / d ≤ b / d
div_mono zero {a} {b} h = omega (arith, div-zero a, div-zero b)
div_mono (suc d) {a} {b} h =
    digit_le (suc d) (a / suc d) (b / suc d) (a % suc d) (b % suc d) (mod-lt b (zero-lt-suc d))
    (omega (arith, div-add-mod a (suc d), div-add-mod b (suc d)))

-- what q and r are is told by z = d q + r and r < d
pub unique_floor : (z q : ℤ) {d : ℕ} (r : ℕ) → r < d → z ≡ pos d *ℤ q +ℤ pos r → ⌊ z ÷ d ⌋ ≡ q
unique_floor z q {d} r h e =
    let k : 0 < d = omega arith in
    let f = to_eq ⟨ z ⟩ (# d ⊠ ⟨ q ⟩ ⊞ # r) e in
    by_eq ⟨ ⌊ z ÷ d ⌋ ⟩ ⟨ q ⟩
    (digit_eq d (up ⌊ z ÷ d ⌋ + dn q) (up q + dn ⌊ z ÷ d ⌋) (z modulo d) r (modulo_below z k) h (omega (arith, split_nat z k)))

pub unique_modulo : (z q : ℤ) {d : ℕ} (r : ℕ) → r < d → z ≡ pos d *ℤ q +ℤ pos r → z modulo d ≡ r
unique_modulo z q {d} r h e =
    let k : 0 < d = omega arith in
    let g = to_eq ⟨ z ⟩ (# d ⊠ ⟨ ⌊ z ÷ d ⌋ ⟩ ⊞ # (z modulo d)) (split z k) in
    let f = to_eq ⟨ z ⟩ (# d ⊠ ⟨ ⌊ z ÷ d ⌋ ⟩ ⊞ # r) (rw (unique_floor z q r h e) e) in
    omega arith

-- and by the two bounds
pub between_floor : (z q : ℤ) {d : ℕ} → 0 < d → (pos d *ℤ q) ≤ℤ z → z <ℤ (pos d *ℤ (q +ℤ pos 1)) → ⌊ z ÷ d ⌋ ≡ q
between_floor z q {d} k l u =
    let f = to_le (# d ⊠ ⟨ q ⟩) ⟨ z ⟩ l in
    let g = to_lt ⟨ z ⟩ (# d ⊠ (⟨ q ⟩ ⊞ # 1)) u in
    by_eq ⟨ ⌊ z ÷ d ⌋ ⟩ ⟨ q ⟩
    (digit_eq d (up ⌊ z ÷ d ⌋ + dn q) (up q + dn ⌊ z ÷ d ⌋) (z modulo d)
    ((up z + d * dn q) - (d * up q + dn z)) (modulo_below z k) (omega arith) (omega (arith, split_nat z k)))

-- a multiple of the divisor goes through the floor, and leaves nothing
module _ (z k : ℤ) {d : ℕ} (h : 0 < d) where
  shifted : z +ℤ pos d *ℤ k ≡ pos d *ℤ (⌊ z ÷ d ⌋ +ℤ k) +ℤ pos (z modulo d)
  shifted =
      by_eq (⟨ z ⟩ ⊞ # d ⊠ ⟨ k ⟩) (# d ⊠ (⟨ ⌊ z ÷ d ⌋ ⟩ ⊞ ⟨ k ⟩) ⊞ # (z modulo d)) (omega (arith, split_nat z h))

  pub shift_floor : ⌊ z +ℤ pos d *ℤ k ÷ d ⌋ ≡ ⌊ z ÷ d ⌋ +ℤ k
  shift_floor = unique_floor (z +ℤ pos d *ℤ k) (⌊ z ÷ d ⌋ +ℤ k) (z modulo d) (modulo_below z h) shifted

  pub shift_modulo : (z +ℤ pos d *ℤ k) modulo d ≡ z modulo d
  shift_modulo = unique_modulo (z +ℤ pos d *ℤ k) (⌊ z ÷ d ⌋ +ℤ k) (z modulo d) (modulo_below z h) shifted

-- what is left, as a difference
pub left_over : (z : ℤ) {d : ℕ} → 0 < d → z -ℤ ⌊ z ÷ d ⌋ *ℤ pos d ≡ pos (z modulo d)
left_over z {d} h = by_eq (⟨ z ⟩ ⊟ℤ ⟨ ⌊ z ÷ d ⌋ ⟩ ⊠ # d) (# (z modulo d)) (omega (arith, split_nat z h))

-- one more digit, Horner's step: ⌊(a k + c) / d⌋ from ⌊a / d⌋ and what that leaves
digit_split : (a c : ℤ) (k : ℕ) {d : ℕ} → 0 < d → a *ℤ pos k +ℤ c ≡ pos (a modulo d) *ℤ pos k +ℤ c +ℤ pos d *ℤ (⌊ a ÷ d ⌋ *ℤ pos k)
digit_split a c k {d} p =
    linℤ (x0 :* x1 :+ x2) (x4 :* x1 :+ x2 :+ x3 :* (x5 :* x1)) x1 x0 (x3 :* x5 :+ x4)
    (a ∷ pos k ∷ c ∷ pos d ∷ pos (a modulo d) ∷ ⌊ a ÷ d ⌋ ∷ []) tt (split a p)

pub next_digit : (a c : ℤ) (k : ℕ) {d : ℕ} → 0 < d
    → ⌊ a *ℤ pos k +ℤ c ÷ d ⌋ ≡ ⌊ a ÷ d ⌋ *ℤ pos k +ℤ ⌊ pos (a modulo d) *ℤ pos k +ℤ c ÷ d ⌋
next_digit a c k {d} p =
    let x = pos (a modulo d) *ℤ pos k +ℤ c in
    ap (λ (z : ℤ). ⌊ z ÷ d ⌋) (digit_split a c k p)
    ∙ shift_floor x (⌊ a ÷ d ⌋ *ℤ pos k) p
    ∙ +ℤ_comm ⌊ x ÷ d ⌋ (⌊ a ÷ d ⌋ *ℤ pos k)

-- and what that leaves
pub next_modulo : (a c : ℤ) (k : ℕ) {d : ℕ} → 0 < d → (a *ℤ pos k +ℤ c) modulo d ≡ (pos (a modulo d) *ℤ pos k +ℤ c) modulo d
next_modulo a c k {d} p =
    ap (λ (z : ℤ). z modulo d) (digit_split a c k p) ∙ shift_modulo (pos (a modulo d) *ℤ pos k +ℤ c) (⌊ a ÷ d ⌋ *ℤ pos k) p

-- a shift to the right is a floor
pub shift_right : (z : ℤ) (m : ℕ) → shr_z z m ≡ ⌊ z ÷ m ⌋
unfolding ⌊◌÷◌⌋
shift_right (pos n) m = refl
shift_right (negsuc n) m = refl

-- ---- how large it is
pub left_small : (z : ℤ) {d : ℕ} → 0 < d → nat_abs (z -ℤ ⌊ z ÷ d ⌋ *ℤ pos d) ≤ d
left_small z {d} h = rw (left_over z h) (omega (arith, modulo_below z h))

pub floor_small : (z : ℤ) (d : ℕ) → nat_abs ⌊ z ÷ d ⌋ ≤ nat_abs z
unfolding ⌊◌÷◌⌋
floor_small (pos n) d = div-le_self n d
floor_small (negsuc n) d = omega (arith, div-le_self n d)

pub floor_most : (z : ℤ) (d m : ℕ) → nat_abs z ≤ m → nat_abs ⌊ z ÷ d ⌋ ≤ m / d + 1
unfolding ⌊◌÷◌⌋
floor_most (pos n) d m h = omega (arith, div_mono d h)
floor_most (negsuc n) d m h = let k : n ≤ m = omega arith in omega (arith, div_mono d k)

-- ---- the sides of zero
pub below_is : {a : ℤ} → a <ℤ pos 0 → a ≡ negsuc (mag a)
below_is {a = pos n} h = absurd (none n (ltb→lt n 0 h.lt))
  where
    none : (n : ℕ) → n < 0 → ⊥
    none n h = omega arith
below_is {a = negsuc n} h = refl

pub above_is : {a : ℤ} → pos 0 ≤ℤ a → a ≡ pos (mag a)
above_is {a = pos n} h = refl
above_is {a = negsuc n} h = absurd h.le

-- n and -1 - n have the same magnitude n, which is what is divided
module _ {a : ℤ} (d : ℕ) where
  pub floor_below : a <ℤ pos 0 → ⌊ a ÷ d ⌋ ≡ negsuc (mag a / d)
  unfolding ⌊◌÷◌⌋
  floor_below h = rw (below_is h) refl

  pub floor_above : pos 0 ≤ℤ a → ⌊ a ÷ d ⌋ ≡ pos (mag a / d)
  unfolding ⌊◌÷◌⌋
  floor_above h = rw (above_is h) refl

  pub modulo_of_below : a <ℤ pos 0 → a modulo d ≡ d - suc (mag a % d)
  unfolding ◌modulo◌
  modulo_of_below h = rw (below_is h) refl

  pub modulo_of_above : pos 0 ≤ℤ a → a modulo d ≡ mag a % d
  unfolding ◌modulo◌
  modulo_of_above h = rw (above_is h) refl
