-- Sizes of the powers of an accepted instant: little more than a million on either side of zero.
use mathlib.Core.Path.{◌≡◌, ap, refl, subst⁻¹}
use Prim.Native.Nat.{◌*◌, ◌+◌, ◌/◌, ◌≤◌, ℕ}
use native.Mathlib.Nat.{le_refl, le_trans}
use native.Mathlib.Omega.{arith}
use lib.Dec.{T, leb, leb→le}
use lib.IntN.{◌*ℤ◌, ◌+ℤ◌, nat_abs, pos, ℤ}
use Rattle.arithmetic.specs.Floor.{⌊◌÷◌⌋}
use Rattle.arithmetic.proofs.FloorLaws.{floor_most}
use Rattle.arithmetic.proofs.Sizes.{mul_bound}
use Rattle.number_rules.specs.Angle.{full_turn}
use Rattle.number_rules.proofs.SineLaws.{reduced_below}
use Rattle.numbers.proofs.Machine.{Mirror, told}
use Rattle.sum_rules.specs.Instant.{Reached, century, day, furthest, minus, p2, p3, p4, powers, u, value}
use Rattle.sum_rules.specs.Sidereal.{mean}
use Rattle.sum_rules.specs.declared.instant.Polynomial.{Polynomial}
use Rattle.sum_rules.specs.declared.instant.Powers.{Powers}

-- a floor of a number of at most m
pub floor_size : (z : ℤ) (d : ℕ) {m k : ℕ} → nat_abs z ≤ m → T (leb (m / d + 1) k) → nat_abs ⌊ z ÷ d ⌋ ≤ k
floor_size z d {m} {k} h t = le_trans (floor_most z d m h) (leb→le (m / d + 1) k t)

module _ (n : ℤ) (h : nat_abs n ≤ furthest) where
  pub u_most : nat_abs (u n) ≤ 1_011_001
  unfolding u
  u_most = floor_size (pos 1_000_000 *ℤ n) century (mul_bound (pos 1_000_000) n (le_refl 1_000_000) h) tt

  pub p2_most : nat_abs (p2 n) ≤ 1_022_124
  unfolding p2
  p2_most = floor_size (u n *ℤ u n) 1_000_000 (mul_bound (u n) (u n) u_most u_most) tt

  pub p3_most : nat_abs (p3 n) ≤ 1_033_369
  unfolding p3
  p3_most = floor_size (p2 n *ℤ u n) 1_000_000 (mul_bound (p2 n) (u n) p2_most u_most) tt

  pub p4_most : nat_abs (p4 n) ≤ 1_044_738
  unfolding p4
  p4_most = floor_size (p2 n *ℤ p2 n) 1_000_000 (mul_bound (p2 n) (p2 n) p2_most p2_most) tt

pub value_small : (p : Polynomial) (n : ℤ) → value p n ≤ full_turn
unfolding value
value_small p n =
    let z : ℤ = p.c0 +ℤ ⌊ p.c1 *ℤ n ÷ century ⌋ +ℤ ⌊ p.c2 *ℤ p2 n ÷ 1_000_000 ⌋ +ℤ ⌊ pos 100 *ℤ p.s3 *ℤ p3 n ÷ p.k3 ⌋ +ℤ ⌊ pos 100 *ℤ p.s4 *ℤ p4 n ÷ p.k4 ⌋ in
    omega (arith, reduced_below z)

pub reached : {t : Powers} {n : ℤ} → t ≡ powers n → nat_abs n ≤ furthest → Reached t
reached {n} e h = subst⁻¹ Reached e (record { is = refl; near = h })

-- the instant itself, read from its powers
abbrev pub instant_told : {t : Powers} → Reached t → Mirror
instant_told {t} r = told {r = t.n} refl r.near tt

-- and what was worked out of it
abbrev pub u_told : {t : Powers} → Reached t → Mirror
u_told {t} r = told (ap (λ (t : Powers). t.u) r.is) (u_most t.n r.near) tt

abbrev pub p2_told : {t : Powers} → Reached t → Mirror
p2_told {t} r = told (ap (λ (t : Powers). t.p2) r.is) (p2_most t.n r.near) tt

abbrev pub p3_told : {t : Powers} → Reached t → Mirror
p3_told {t} r = told (ap (λ (t : Powers). t.p3) r.is) (p3_most t.n r.near) tt

abbrev pub p4_told : {t : Powers} → Reached t → Mirror
p4_told {t} r = told (ap (λ (t : Powers). t.p4) r.is) (p4_most t.n r.near) tt

-- the mean sidereal time is reduced
pub mean_most : (ut : ℤ) → mean ut ≤ full_turn
unfolding mean
mean_most ut =
    let z : ℤ = pos 28_046_061_837 +ℤ ⌊ pos 36_098_564_736_629 *ℤ ut ÷ 1000 * day ⌋ +ℤ ⌊ pos 387_933 *ℤ p2 ut ÷ 10_000_000 ⌋ +ℤ ⌊ minus 100 *ℤ p3 ut ÷ 38_710_000 ⌋ in
    omega (arith, reduced_below z)
