-- The Sun's sums against the exact ones, where T is within reach.
use mathlib.Core.Bool.{Bool, ◌&&◌}
use mathlib.Core.List.{List, [], ◌∷◌}
use mathlib.Core.Path.{◌∙◌, ◌≡◌, refl, subst, sym}
use mathlib.Core.Quot.{sound}
use Prim.Native.Nat.{◌-◌, suc, ℕ}
use lib.Dec.{T}
use lib.IntN.{◌*ℤ◌, ◌+ℤ◌, pos, ℤ}
use mir.Facts.{and_yes}
use Rattle.arithmetic.specs.Floor.{⌊◌÷◌⌋}
use Rattle.arithmetic.proofs.Solver.{◌:*◌, ◌:+◌, k0, k1, neg', x0, x1, x2, x3, x4, x5}
use Rattle.exact.specs.Fraction.{Within, ◌*q◌, ◌+q◌, ◌-q◌, ◌over◌, inv, nat, negq, nn, whole, ℚ}
use Rattle.exact.specs.Reference.{power}
use Rattle.exact.proofs.FractionLaws.{linq, solveq}
use Rattle.exact.proofs.Order.{nn_int, within_add, within_le, within_mul, within_self}
use Rattle.number_rules.specs.Sine.{cosine}
use Rattle.number_rules.proofs.SineTableLaws.{billion}
use Rattle.sum_rules.specs.Accuracy.{B_bound, L_bound, R_bound, SunNear}
use Rattle.sum_rules.specs.ExactSums.{centuries, groups_from, millennia, ray, ray_angle, totalq}
use Rattle.sum_rules.specs.Instant.{millennium, u}
use Rattle.sum_rules.specs.Sun.{row_A, row_B, row_C}
use Rattle.sum_rules.specs.SunTerms.{B_groups, B0, B1, L_groups, L0, L1, L2, L3, L4, L5, R_groups, R0, R1, R2, R3, R4}
use Rattle.sum_rules.proofs.AnglesNear.{cosine_wave, wave_small, widest}
use Rattle.sum_rules.proofs.FloorsNear.{floored_product, floored_scaled, near_add, near_over, near_small, same_near}
use Rattle.sum_rules.proofs.PowersNear.{million, reach, u_near}
use Rattle.sum_rules.proofs.SunAngles.{angle_error, cosine_error, ray_cosine_near, in_millennia, millennia_reach, τ_within}
use Rattle.sum_rules.proofs.WeightedSum.{all, most_wave, total_near, total_within}
use Rattle.sum_rules.specs.Sun as Sun

-- ---- errors and sizes, in 10⁻¹⁰
-- of u / 10⁷ against τ
abbrev u_error : ℚ
u_error = nat 1 over 10_000_000

-- a row's angle is not too far off
unfoldable angle_fits : List ℕ → Bool
angle_fits row = nn (widest -q angle_error (row_B row) (row_C row))

abbrev ray_error : List ℕ → ℚ
ray_error row = nat (row_A row) *q cosine_error (row_B row) (row_C row) over 10_000_000 +q nat 1

abbrev group_error : List (List ℕ) → ℚ
group_error rows = totalq ray_error rows

abbrev group_size : List (List ℕ) → ℚ
group_size rows = nat 100 *q totalq (λ row. nat (row_A row) *q most_wave) rows

-- of the groups from one on
unfoldable size : List (List (List ℕ)) → ℚ
size [] = nat 0
size (rows ∷ above) = group_size rows +q size above *q millennia_reach

-- a group, and into it the groups above, times what is near τ
abbrev next_error : List (List ℕ) → ℚ → ℚ → ℚ → ℚ
next_error rows above_error above_size τ_error =
    group_error rows +q ((above_error +q above_size) *q τ_error +q millennia_reach *q above_error +q nat 1)

unfoldable down_error : List (List (List ℕ)) → ℚ
down_error [] = nat 0
down_error (rows ∷ above) = next_error rows (down_error above) (size above) u_error

unfoldable series_error : List (List (List ℕ)) → ℚ
series_error [] = nat 0
series_error (rows ∷ above) = next_error rows (down_error above) (size above) (nat 0)

-- the test of a sum: each row passes, and the error is at most the bound
unfoldable fits : List (List (List ℕ)) → ℚ → Bool
fits groups bound = all (all angle_fits) groups && nn (bound -q series_error groups)

-- ---- closed numbers
hundred : billion over 10_000_000 ≡ nat 100
unfolding whole inv ◌*q◌
hundred = sound refl

hundred_rows : nat 10_000_000_000 over 100_000_000 ≡ nat 100
unfolding whole inv ◌*q◌
hundred_rows = sound refl

million_over_ten_million : million over 10_000_000 ≡ inv 9
unfolding whole inv ◌*q◌
million_over_ten_million = sound refl

-- THE BOUNDS, computed from the tables
L_fits : T (fits L_groups L_bound)
unfolding fits all angle_fits series_error down_error size cosine_error angle_error totalq nn whole inv ◌+q◌ ◌*q◌ negq L0 L1 L2 L3 L4 L5
L_fits = tt

B_fits : T (fits B_groups B_bound)
unfolding fits all angle_fits series_error down_error size cosine_error angle_error totalq nn whole inv ◌+q◌ ◌*q◌ negq B0 B1
B_fits = tt

R_fits : T (fits R_groups R_bound)
unfolding fits all angle_fits series_error down_error size cosine_error angle_error totalq nn whole inv ◌+q◌ ◌*q◌ negq R0 R1 R2 R3 R4
R_fits = tt

module _ (n : ℤ) (bound : Within (centuries n) reach) where
  abbrev τ : ℚ
  τ = millennia n

  -- ---- a group
  row_near : (row : List ℕ) → T (angle_fits row) → Within (whole (Sun.row_value n row) -q nat 100 *q ray τ row) (ray_error row)
  unfolding angle_fits Sun.row_value
  row_near row h =
      floored_scaled (pos (row_A row)) (cosine (pos (Sun.row_angle n (row_B row) (row_C row)))) 9_999_999 billion (nat 100) _ hundred
      (ray_cosine_near n bound (row_B row) (row_C row) (record { diff = record { is = h } }))

  abbrev exact_group : List (List ℕ) → ℚ
  exact_group rows = totalq (ray τ) rows

  group_near : (rows : List (List ℕ)) → T (all angle_fits rows)
      → Within (whole (Sun.group n rows) -q nat 100 *q exact_group rows) (group_error rows)
  group_near rows h = total_near angle_fits (nat 100) (Sun.row_value n) (ray τ) ray_error row_near rows h

  group_within : (rows : List (List ℕ)) → Within (nat 100 *q exact_group rows) (group_size rows)
  group_within rows =
      within_mul (within_self (nn_int 100))
      (total_within (ray τ) (λ row. nat (row_A row) *q most_wave)
      (λ row. within_mul (within_self (nn_int (row_A row))) (wave_small cosine_wave (ray_angle τ (row_B row) (row_C row)))) rows)

  -- ---- the groups by Horner's rule
  unfoldable horner : List (List (List ℕ)) → ℚ
  horner [] = nat 0
  horner (rows ∷ above) = nat 100 *q exact_group rows +q horner above *q τ

  horner_within : (groups : List (List (List ℕ))) → Within (horner groups) (size groups)
  unfolding horner size
  horner_within [] = within_self (nn_int 0)
  horner_within (rows ∷ above) = within_add (group_within rows) (within_mul (horner_within above) (τ_within n bound))

  u_near_τ : Within (whole (u n) over 10_000_000 -q τ) u_error
  u_near_τ =
      near_over (u n) 9_999_999 (million *q centuries n) τ
      (linq (x0 :* x1 :* x2) (x1 :* x3) x1 (x0 :* x2) x3 (million ∷ centuries n ∷ inv 9_999_999 ∷ inv 9 ∷ []) tt million_over_ten_million
      ∙ in_millennia n bound)
      (u_near n bound)

  -- into a group the groups above it, times b / (d + 1), which is near τ
  next_near : (rows : List (List ℕ)) (above : List (List (List ℕ))) (b : ℤ) (d : ℕ) {τ_error : ℚ} → T (all angle_fits rows)
      → Within (whole (Sun.down n above) -q horner above) (down_error above) → Within (whole b over suc d -q τ) τ_error
      → Within (whole (Sun.group n rows +ℤ ⌊ Sun.down n above *ℤ b ÷ suc d ⌋) -q (nat 100 *q exact_group rows +q horner above *q τ))
      (next_error rows (down_error above) (size above) τ_error)
  next_near rows above b d h near_above near_τ =
      near_add (Sun.group n rows) ⌊ Sun.down n above *ℤ b ÷ suc d ⌋ _ _ (group_near rows h)
      (floored_product (Sun.down n above) b d (horner above) τ
      (near_small (whole (Sun.down n above)) (horner above) near_above (horner_within above)) (τ_within n bound) near_above near_τ)

  down_near : (groups : List (List (List ℕ))) → T (all (all angle_fits) groups)
      → Within (whole (Sun.down n groups) -q horner groups) (down_error groups)
  unfolding horner Sun.down down_error all
  down_near [] h = same_near (nat 0)
  down_near (rows ∷ above) h =
      let passed = and_yes (all angle_fits rows) (all (all angle_fits) above) h in
      next_near rows above (u n) 9_999_999 passed.0 (down_near above passed.1) u_near_τ

  series_near : (groups : List (List (List ℕ))) → T (all (all angle_fits) groups)
      → Within (whole (Sun.series n groups) -q horner groups) (series_error groups)
  unfolding horner Sun.series series_error all
  series_near [] h = same_near (nat 0)
  series_near (rows ∷ above) h =
      let passed = and_yes (all angle_fits rows) (all (all angle_fits) above) h in
      next_near rows above n (millennium - 1) passed.0 (down_near above passed.1) (same_near τ)

  -- Horner's rule is the sum of powers
  powers_are : (groups : List (List (List ℕ))) (i : ℕ) → nat 100 *q groups_from τ i groups ≡ power τ i *q horner groups
  unfolding horner groups_from power
  powers_are [] i = solveq (x0 :* k0) (x1 :* k0) (nat 100 ∷ power τ i ∷ []) tt
  powers_are (rows ∷ above) i =
      linq (x0 :* (x1 :* x2 :+ x3)) (x1 :* (x0 :* x2 :+ x5 :* x4)) k1 (x0 :* x3) (x4 :* x1 :* x5)
      (nat 100 ∷ power τ i ∷ exact_group rows ∷ groups_from τ (suc i) above ∷ τ ∷ horner above ∷ []) tt (powers_are above (suc i))

  sum_near : (groups : List (List (List ℕ))) {b : ℚ} → T (fits groups b)
      → Within (whole (Sun.series n groups) -q nat 10_000_000_000 *q (groups_from τ 0 groups over 100_000_000)) b
  unfolding fits power
  sum_near groups {b} h =
      let passed = and_yes (all (all angle_fits) groups) (nn (b -q series_error groups)) h in
      subst (λ z. Within (whole (Sun.series n groups) -q z) b)
      (solveq x0 (k1 :* x0) (horner groups ∷ []) tt
      ∙ sym (powers_are groups 0)
      ∙ linq (x0 :* x1) (x2 :* (x1 :* x3)) (neg' x1) (x2 :* x3) x0
      (nat 100 ∷ groups_from τ 0 groups ∷ nat 10_000_000_000 ∷ inv 99_999_999 ∷ []) tt hundred_rows)
      (within_le (series_near groups passed.0) (record { diff = record { is = passed.1 } }))

  -- THE SUN
  pub sun_within : SunNear n
  sun_within = record { longitude = sum_near L_groups L_fits; latitude = sum_near B_groups B_fits; radius = sum_near R_groups R_fits }
