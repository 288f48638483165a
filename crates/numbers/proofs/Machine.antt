-- What a signed computation at 64 bits gives, step by step. A signed local holds bits, so the machine computes with
-- to_z w64 (of_z w64 x)  where the source has x. A `Mirror` holds what the machine computes, the whole number that it is, and a numeral which that
-- number does not pass on either side of zero. A proof writes the code's expressions once more with these rules. From the mirror m of a
-- result, `fits m tt` answers the need that it fits, since the bound is a numeral, and `m.same` says what it is.
use mathlib.Core.Bool.{Bool, false, not, true}
use mathlib.Core.Path.{◌∙◌, ◌≡◌, ap, refl, subst, subst⁻¹, sym}
use Prim.Native.Nat.{◌*◌, ◌+◌, ◌/◌, ◌<◌, ◌^◌, ◌≤◌, suc, zero, ℕ}
use native.Mathlib.Nat.{le_refl, le_trans}
use native.Mathlib.Omega.{arith}
use lib.Dec.{T, leb, leb→le, ltb, ltb→lt, lt→ltb, nleb→lt}
use lib.IntN.{+ℤ_idl, ◌*ℤ◌, ◌+ℤ◌, ◌-ℤ◌, nat_abs, negsuc, neg_ℤ, pos, ℤ}
use lib.Signed.{◌<ℤ◌, ◌≤ℤ◌, clash_ℤ, le_z, le_z_yes, lt_z, lt_z_no, lt_z_yes, mag, nat_abs-le, non_neg, shr_z}
use mir.Facts.{Fits-nat_abs}
use mir.Syntax.{w64}
use mir.Val.{Fits, SFits, of_z, to_z}
use mir.ValLaws.{to_z-of_z, to_z_pos}
use Rattle.arithmetic.specs.Floor.{⌊◌÷◌⌋}
use Rattle.arithmetic.proofs.Difference.{#◌, ◌⊟ℤ◌, by_eq, ⟨◌⟩}
use Rattle.arithmetic.proofs.FloorLaws.{floor_most, floor_small, shift_right}
use Rattle.arithmetic.proofs.Sizes.{abs_neg, add_bound, mul_bound, sub_bound}

pub record Mirror : Type 0 where
  pub machine : ℤ
  pub number : ℤ
  pub most : ℕ
  pub same : machine ≡ number
  pub bound : nat_abs number ≤ most

pub mag_le : (z : ℤ) → mag z ≤ nat_abs z
mag_le (pos n) = le_refl n
mag_le (negsuc n) = omega arith

pub abs_fits : (v : ℤ) {m : ℕ} → nat_abs v ≤ m → T (ltb m (2 ^ 63)) → SFits w64 v
abs_fits v {m} h t = record { sfits = omega (arith, mag_le v, ltb→lt m (2 ^ 63) t) }

-- a parameter: `arg c.fits.x bound`
abbrev pub arg : {x : ℤ} {m : ℕ} → SFits w64 x → nat_abs x ≤ m → Mirror
arg {x} {m} f h = record { machine = to_z w64 (of_z w64 x); number = x; most = m; same = to_z-of_z w64 x f; bound = h }

-- one of which nothing is required
abbrev pub any : {x : ℤ} → SFits w64 x → Mirror
any {x} f = arg {x = x} {m = 9223372036854775808} f (nat_abs-le x f.sfits)

-- a literal
abbrev pub lit : ℤ → Mirror
lit z = record { machine = z; number = z; most = nat_abs z; same = refl; bound = le_refl (nat_abs z) }

infixl 60 ◌⊕◌ ◌⊖◌
infixl 70 ◌⊗◌
abbrev pub ◌⊕◌ : Mirror → Mirror → Mirror
x ⊕ y =
    record {
      machine = x.machine +ℤ y.machine;
      number = x.number +ℤ y.number;
      most = x.most + y.most;
      same = λ i. x.same i +ℤ y.same i;
      bound = add_bound x.number y.number x.bound y.bound;
    }

abbrev pub ◌⊖◌ : Mirror → Mirror → Mirror
x ⊖ y =
    record {
      machine = x.machine -ℤ y.machine;
      number = x.number -ℤ y.number;
      most = x.most + y.most;
      same = λ i. x.same i -ℤ y.same i;
      bound = sub_bound x.number y.number x.bound y.bound;
    }

abbrev pub ◌⊗◌ : Mirror → Mirror → Mirror
x ⊗ y =
    record {
      machine = x.machine *ℤ y.machine;
      number = x.number *ℤ y.number;
      most = x.most * y.most;
      same = λ i. x.same i *ℤ y.same i;
      bound = mul_bound x.number y.number x.bound y.bound;
    }

-- the negation of x, which the machine takes from zero
abbrev pub minus : Mirror → Mirror
minus x =
    record {
      machine = pos 0 -ℤ x.machine;
      number = neg_ℤ x.number;
      most = x.most;
      same = +ℤ_idl (neg_ℤ x.machine) ∙ (λ i. neg_ℤ (x.same i));
      bound = rw abs_neg x.bound;
    }

-- the result fits, where its bound is below 2⁶³, or for a reason of its own
pub fits_as : (x : Mirror) → SFits w64 x.number → SFits w64 x.machine
fits_as x f = subst (SFits w64) (sym x.same) f

pub fits : (x : Mirror) → T (ltb x.most (2 ^ 63)) → SFits w64 x.machine
fits x t = fits_as x (abs_fits x.number x.bound t)

-- a result that is stored in a local, or returned
abbrev pub kept_as : (x : Mirror) → SFits w64 x.number → Mirror
kept_as x f =
    record {
      machine = to_z w64 (of_z w64 x.machine);
      number = x.number;
      most = x.most;
      same = to_z-of_z w64 x.machine (fits_as x f) ∙ x.same;
      bound = x.bound;
    }

abbrev pub kept : (x : Mirror) → T (ltb x.most (2 ^ 63)) → Mirror
kept x t = kept_as x (abs_fits x.number x.bound t)

-- the same number, with a bound that is known otherwise
abbrev pub bounded : (x : Mirror) {m : ℕ} → nat_abs x.number ≤ m → Mirror
bounded x {m} b = record { machine = x.machine; number = x.number; most = m; same = x.same; bound = b }

-- a shift to the right by k places, with m = 2ᵏ
abbrev pub shr_by : Mirror → (m : ℕ) → Mirror
shr_by x m =
    record {
      machine = shr_z x.machine m;
      number = ⌊ x.number ÷ m ⌋;
      most = x.most / m + 1;
      same = shift_right x.machine m ∙ ap (λ (z : ℤ). ⌊ z ÷ m ⌋) x.same;
      bound = floor_most x.number m x.most x.bound;
    }

-- what a call gave: `gave c.f.ok (c.f.ensures ∙ ..) bound`
abbrev pub gave : {r v : ℤ} {m : ℕ} → mag r < 2 ^ 63 → r ≡ v → nat_abs v ≤ m → Mirror
gave {r} {v} {m} f e h =
    record { machine = to_z w64 (of_z w64 r); number = v; most = m; same = to_z-of_z w64 r (record { sfits = f }) ∙ e; bound = h }

-- what a call gave, returned as it is
pub passed : {r v : ℤ} → mag r < 2 ^ 63 → r ≡ v → to_z w64 (of_z w64 r) ≡ v
passed {r} f e = to_z-of_z w64 r (record { sfits = f }) ∙ e

-- the same from the equation alone, as of a field of a struct that a call gave: the bound says that it fits
abbrev pub told : {r v : ℤ} {m : ℕ} → r ≡ v → nat_abs v ≤ m → T (ltb m (2 ^ 63)) → Mirror
told {r} {v} {m} e h t = gave {r = r} {v = v} {m = m} (subst (SFits w64) (sym e) (abs_fits v h t)).sfits e h

-- a field of a struct
abbrev pub field : (x : ℤ) {m : ℕ} → nat_abs x ≤ m → T (ltb m (2 ^ 63)) → Mirror
field x {m} h t = told {r = x} {v = x} {m = m} refl h t

-- a floor that a call gave: `floor-gave x d c.floor-div.ok c.floor-div.ensures`
abbrev pub floor_gave : {r : ℤ} (x : Mirror) (d : ℕ) → mag r < 2 ^ 63 → r ≡ ⌊ x.machine ÷ d ⌋ → Mirror
floor_gave {r} x d f e =
    gave {r = r} {v = ⌊ x.number ÷ d ⌋} {m = x.most / d + 1} f (e ∙ ap (λ (z : ℤ). ⌊ z ÷ d ⌋) x.same) (floor_most x.number d x.most x.bound)

-- ---- what a test tells

holds : {b : Bool} → b ≡ true → T b
holds e = subst T (sym e) tt

is_yes : (b : Bool) → T b → b ≡ true
is_yes true t = refl
is_yes false t = absurd t

is_no : (b : Bool) → (T b → ⊥) → b ≡ false
is_no true f = absurd (f tt)
is_no false f = refl

pub not_holds : {b : Bool} → b ≡ false → T (not b)
not_holds e = subst (λ (b : Bool). T (not b)) (sym e) tt

leZ_no : (a b : ℤ) → T (not (le_z a b)) → b <ℤ a
leZ_no (pos a) (pos b) t = lt_z_yes (lt→ltb b a (nleb→lt a b t))
leZ_no (pos a) (negsuc b) t = lt_z_yes tt
leZ_no (negsuc a) (pos b) t = absurd t
leZ_no (negsuc a) (negsuc b) t = lt_z_yes (lt→ltb a b (nleb→lt b a t))

module _ (x y : Mirror) where
  pub less : lt_z x.machine y.machine ≡ true → x.number <ℤ y.number
  less e = subst (λ (z : ℤ). z <ℤ y.number) x.same (subst (λ (z : ℤ). x.machine <ℤ z) y.same (lt_z_yes (holds e)))

  pub not_less : lt_z x.machine y.machine ≡ false → y.number ≤ℤ x.number
  not_less e = subst (λ (z : ℤ). y.number ≤ℤ z) x.same (subst (λ (z : ℤ). z ≤ℤ x.machine) y.same (lt_z_no (not_holds e)))

  pub at_most_yes : le_z x.machine y.machine ≡ true → x.number ≤ℤ y.number
  at_most_yes e = subst (λ (z : ℤ). z ≤ℤ y.number) x.same (subst (λ (z : ℤ). x.machine ≤ℤ z) y.same (le_z_yes (holds e)))

  pub at_most_no : le_z x.machine y.machine ≡ false → y.number <ℤ x.number
  at_most_no e = subst (λ (z : ℤ). y.number <ℤ z) x.same (subst (λ (z : ℤ). z <ℤ x.machine) y.same (leZ_no x.machine y.machine (not_holds e)))

-- a test for equality is one of the bits
pub same_bits : {z : ℤ} {n : ℕ} → mag z < 2 ^ 63 → of_z w64 z ≡ n → z ≡ to_z w64 n
same_bits {z} f e = sym (to_z-of_z w64 z (record { sfits = f })) ∙ ap (to_z w64) e

-- ---- an order as the value of a test, and a signed number as a natural one

pub is_le : {a b : ℤ} → a ≤ℤ b → le_z a b ≡ true
is_le {a} {b} h = is_yes (le_z a b) h.le

pub is_lt : {a b : ℤ} → a <ℤ b → lt_z a b ≡ true
is_lt {a} {b} h = is_yes (lt_z a b) h.lt

pub not_lt : {a b : ℤ} → b ≤ℤ a → lt_z a b ≡ false
not_lt {a} {b} h = is_no (lt_z a b) (λ t. clash_ℤ (lt_z_yes t) h)

pub not_le : {a b : ℤ} → b <ℤ a → le_z a b ≡ false
not_le {a} {b} h = is_no (le_z a b) (λ t. clash_ℤ h (le_z_yes t))

-- what a cast of a parameter to `u64` asks, where the parameter is not below zero
pub cast_up : {j : ℕ} {z : ℤ} → SFits w64 z → pos j ≤ℤ z → T (non_neg (to_z w64 (of_z w64 z))) × Fits w64 (nat_abs (to_z w64 (of_z w64 z)))
cast_up {j} {z} f h =
    subst (λ (x : ℤ). T (non_neg x) × Fits w64 (nat_abs x)) (sym (to_z-of_z w64 z f)) (not_below h, Fits-nat_abs {w' = w64} tt f)
  where
    not_below : {j : ℕ} {z : ℤ} → pos j ≤ℤ z → T (non_neg z)
    not_below {z = pos n} h = tt
    not_below {z = negsuc n} h = h.le

pub le_lt : {a b c : ℕ} → a ≤ b → b < c → a < c
le_lt h k = omega arith

-- a cast of a natural number to `i64`
abbrev pub from_nat : {n m : ℕ} → n ≤ m → T (ltb m (2 ^ 63)) → Mirror
from_nat {n} {m} h t =
    record { machine = to_z w64 n; number = pos n; most = m; same = to_z_pos w64 n (le_lt h (ltb→lt m (2 ^ 63) t)); bound = h }

pub nat_fits : {n m : ℕ} → n ≤ m → T (ltb m (2 ^ 63)) → SFits w64 (pos n)
nat_fits {n} {m} h t = record { sfits = le_lt h (ltb→lt m (2 ^ 63) t) }

-- a variable of a loop, which an invariant has by its bits: `of-bits c.loop.sum (c.loop.inv.1 ..) bound`
abbrev pub of_bits : (n : ℕ) {m : ℕ} {v : ℤ} → to_z w64 n ≡ v → nat_abs v ≤ m → Mirror
of_bits n {m} {v} e h = record { machine = to_z w64 n; number = v; most = m; same = e; bound = h }

-- -1 less a number
pub from_minus_one : (n : ℕ) → negsuc 0 -ℤ pos n ≡ negsuc n
from_minus_one n = by_eq (⟨ negsuc 0 ⟩ ⊟ℤ # n) ⟨ negsuc n ⟩ (omega arith)

pub to_minus_one : (n : ℕ) → negsuc 0 -ℤ negsuc n ≡ pos n
to_minus_one n = by_eq (⟨ negsuc 0 ⟩ ⊟ℤ ⟨ negsuc n ⟩) (# n) (omega arith)

-- a number that is known to be natural, cast to `u64`; and one cast to `i64`
pub to_nat : {v : ℤ} {n : ℕ} → v ≡ pos n → n < 2 ^ 63 → T (non_neg v) × Fits w64 (nat_abs v)
to_nat {v} {n} e h = subst⁻¹ (λ (x : ℤ). T (non_neg x) × Fits w64 (nat_abs x)) e (tt, record { fits = omega arith })

pub sfits_nat : {n : ℕ} → n < 2 ^ 63 → SFits w64 (pos n)
sfits_nat h = record { sfits = h }

-- a test for zero is one of the bits
pub is_zero : {z : ℤ} → SFits w64 z → of_z w64 z ≡ 0 → z ≡ pos 0
is_zero {z} f e = same_bits f.sfits e

pub not_zero : (z : ℤ) → (of_z w64 z ≡ 0 → ⊥) → 0 < nat_abs z
not_zero (pos zero) h = absurd (h refl)
not_zero (pos (suc n)) h = omega arith
not_zero (negsuc n) h = omega arith

-- a bound on a parameter, as a callee is handed it
pub handed : {x : ℤ} {m : ℕ} → SFits w64 x → nat_abs x ≤ m → nat_abs (to_z w64 (of_z w64 x)) ≤ m
handed {x} {m} f h = subst⁻¹ (λ (z : ℤ). nat_abs z ≤ m) (to_z-of_z w64 x f) h

-- what a callee asks of a number that it is handed
pub asked : (x : Mirror) {k : ℕ} → T (leb x.most k) → nat_abs x.machine ≤ k
asked x {k} t = rw x.same (le_trans x.bound (leb→le x.most k t))

-- what a call gave, of which no more is known than that it fits
abbrev pub some_gave : {r v : ℤ} → mag r < 2 ^ 63 → r ≡ v → Mirror
some_gave {r} {v} ok e = gave {r = r} {v = v} ok e (subst (λ (z : ℤ). nat_abs z ≤ 9223372036854775808) e (nat_abs-le r ok))

-- what a floor by a divisor that is not a numeral gave: no larger than what was divided
abbrev pub small_floor_gave : {r : ℤ} (x : Mirror) (d : ℕ) → mag r < 2 ^ 63 → r ≡ ⌊ x.machine ÷ d ⌋ → Mirror
small_floor_gave {r} x d f e =
    gave {r = r} {v = ⌊ x.number ÷ d ⌋} {m = x.most} f (e ∙ ap (λ (z : ℤ). ⌊ z ÷ d ⌋) x.same) (le_trans (floor_small x.number d) x.bound)
