-- Every accepted instant is within reach, so demand 3 holds there (01: "at every accepted instant").
use mathlib.Core.List.{[], ◌∷◌}
use mathlib.Core.Path.{subst}
use Prim.Native.Nat.{◌*◌, ◌+◌, ◌/◌, ◌^◌, ◌≤◌, ℕ}
use native.Mathlib.Nat.{le_refl, le_trans}
use native.Mathlib.Omega.{arith}
use lib.Dec.{leb→le}
use lib.IntN.{◌*ℤ◌, ◌+ℤ◌, ◌-ℤ◌, nat_abs, negsuc, neg_ℤ, pos, ℤ}
use lib.Signed.{◌<ℤ◌, ◌≤ℤ◌}
use Rattle.arithmetic.proofs.Difference.{#◌, ◌⊞◌, ◌⊠◌, by_le, to_le, to_lt, ⊟◌, ⟨◌⟩}
use Rattle.arithmetic.proofs.Integers.{solveℤ}
use Rattle.arithmetic.proofs.Sizes.{add_bound, sub_bound}
use Rattle.arithmetic.proofs.Solver.{◌:+◌, ◌:-◌, x0, x1, x2, x3}
use Rattle.number_rules.proofs.CalendarLaws.{day_after_last_is, first_day_is}
use Rattle.sum_rules.specs.Accuracy.{MoonNear, SunNear}
use Rattle.sum_rules.specs.Instant.{Accepted, day, furthest, second, terrestrial_time, universal_time}
use Rattle.sum_rules.proofs.Accurate.{moon_near, sun_near}

-- between -m and m
size_between : (z : ℤ) (m : ℕ) → neg_ℤ (pos m) ≤ℤ z → z ≤ℤ pos m → nat_abs z ≤ m
size_between (pos n) m h l = omega (arith, to_le (# n) (# m) l)
size_between (negsuc n) m h l = omega (arith, to_le (⊟ (# m)) ⟨ negsuc n ⟩ h)

module _ {d elapsed ut1 delta : ℤ} (a : Accepted d elapsed ut1 delta) where
  earliest : negsuc 36_523 ≤ℤ d
  earliest = subst (λ (z : ℤ). z ≤ℤ d) first_day_is a.not_early

  latest : (pos day *ℤ d +ℤ elapsed) <ℤ (pos day *ℤ pos 36_890)
  latest = subst (λ (z : ℤ). (pos day *ℤ d +ℤ elapsed) <ℤ (pos day *ℤ z)) day_after_last_is a.not_late

  pub clock_small : nat_abs (pos day *ℤ d +ℤ elapsed) ≤ 36_890 * day
  clock_small =
      let early = to_le ⟨ negsuc 36_523 ⟩ ⟨ d ⟩ earliest in
      let after = to_le (# 0) ⟨ elapsed ⟩ a.from_midnight in
      let late = to_lt (# day ⊠ ⟨ d ⟩ ⊞ ⟨ elapsed ⟩) (# day ⊠ # 36_890) latest in
      size_between (pos day *ℤ d +ℤ elapsed) (36_890 * day)
      (by_le (⊟ (# (36_890 * day))) (# day ⊠ ⟨ d ⟩ ⊞ ⟨ elapsed ⟩) (omega (arith, early, after)))
      (by_le (# day ⊠ ⟨ d ⟩ ⊞ ⟨ elapsed ⟩) (# (36_890 * day)) (omega (arith, late)))

  pub days_small : nat_abs d ≤ 2 ^ 17
  days_small =
      let early = to_le ⟨ negsuc 36_523 ⟩ ⟨ d ⟩ earliest in
      let after = to_le (# 0) ⟨ elapsed ⟩ a.from_midnight in
      let late = to_lt (# day ⊠ ⟨ d ⟩ ⊞ ⟨ elapsed ⟩) (# day ⊠ # 36_890) latest in
      size_between d (2 ^ 17) (by_le (⊟ (# (2 ^ 17))) ⟨ d ⟩ (omega (arith, early))) (by_le ⟨ d ⟩ (# (2 ^ 17)) (omega (arith, after, late)))

  pub elapsed_small : nat_abs elapsed ≤ 2 ^ 43
  elapsed_small =
      let early = to_le ⟨ negsuc 36_523 ⟩ ⟨ d ⟩ earliest in
      let after = to_le (# 0) ⟨ elapsed ⟩ a.from_midnight in
      let late = to_lt (# day ⊠ ⟨ d ⟩ ⊞ ⟨ elapsed ⟩) (# day ⊠ # 36_890) latest in
      size_between elapsed (2 ^ 43) (by_le (⊟ (# (2 ^ 43))) ⟨ elapsed ⟩ (omega (arith, after))) (by_le ⟨ elapsed ⟩ (# (2 ^ 43)) (omega (arith, early, late)))

  pub ut1_most : nat_abs ut1 ≤ second
  ut1_most = omega (arith, a.ut1_small)

  universal_small : nat_abs (universal_time d elapsed ut1) ≤ 36_890 * day + day / 2 + second
  universal_small =
      subst (λ (z : ℤ). nat_abs z ≤ 36_890 * day + day / 2 + second)
      (solveℤ ((x0 :+ x1) :- x2 :+ x3) (x0 :- x2 :+ x1 :+ x3) ((pos day *ℤ d) ∷ elapsed ∷ pos (day / 2) ∷ ut1 ∷ []) tt)
      (add_bound ((pos day *ℤ d +ℤ elapsed) -ℤ pos (day / 2)) ut1 (sub_bound (pos day *ℤ d +ℤ elapsed) (pos (day / 2)) clock_small (le_refl (day / 2)))
      ut1_most)

  pub universal_near : nat_abs (universal_time d elapsed ut1) ≤ furthest
  universal_near = le_trans universal_small (leb→le (36_890 * day + day / 2 + second) furthest tt)

  pub terrestrial_near : nat_abs (terrestrial_time (universal_time d elapsed ut1) delta) ≤ furthest
  terrestrial_near =
      le_trans (add_bound (universal_time d elapsed ut1) delta universal_small a.delta_small)
      (leb→le (36_890 * day + day / 2 + second + 8_000 * second) furthest tt)

  pub moon_accepted : MoonNear (terrestrial_time (universal_time d elapsed ut1) delta)
  moon_accepted = moon_near (terrestrial_time (universal_time d elapsed ut1) delta) terrestrial_near

  pub sun_accepted : SunNear (terrestrial_time (universal_time d elapsed ut1) delta)
  sun_accepted = sun_near (terrestrial_time (universal_time d elapsed ut1) delta) terrestrial_near
