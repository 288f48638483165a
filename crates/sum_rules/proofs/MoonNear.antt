-- The Moon's sums against the exact ones, where T is within reach.
use mathlib.Core.Bool.{Bool}
use mathlib.Core.List.{List, [], ◌∷◌}
use mathlib.Core.Path.{◌∙◌, ◌≡◌, ap, refl, subst}
use mathlib.Core.Quot.{sound}
use Prim.Native.Nat.{◌+◌, ◌<◌, ◌≤◌, suc, ℕ}
use native.Mathlib.Omega.{arith}
use lib.Dec.{T, leb, leb→le}
use lib.IntN.{◌*ℤ◌, ◌+ℤ◌, ◌-ℤ◌, nat_abs, pos, ℤ}
use lib.ListN.{get_or}
use Rattle.arithmetic.specs.Floor.{⌊◌÷◌⌋}
use Rattle.arithmetic.proofs.Solver.{◌:*◌, ◌:+◌, ◌:-◌, k1, x0, x1, x2, x3, x4, x5}
use Rattle.arithmetic.proofs.Table.{at, every}
use Rattle.exact.specs.Fraction.{NN, Within, ◌*q◌, ◌+q◌, ◌-q◌, ◌over◌, ◌≤q◌, inv, nat, negq, nn, whole, ℚ}
use Rattle.exact.proofs.Floors.{nat_add, nat_le}
use Rattle.exact.proofs.FractionLaws.{linq, solveq}
use Rattle.exact.proofs.Order.{◌∗◌, nn_int, within_le}
use Rattle.number_rules.proofs.SineTableLaws.{billion}
use Rattle.sum_rules.specs.Accuracy.{Around, MoonNear, latitude_bound, longitude_bound, metres_bound}
use Rattle.sum_rules.specs.ExactSums.{centuries, totalq}
use Rattle.sum_rules.specs.Instant.{minus}
use Rattle.sum_rules.specs.MoonTerms.{latitude_terms, longitude_distance_terms}
use Rattle.sum_rules.specs.Table.{column, total}
use Rattle.sum_rules.specs.declared.instant.Polynomial.{Polynomial}
use Rattle.sum_rules.proofs.AnglesNear.{Agrees, Wave, agrees_add, agrees_le, agrees_mul, agrees_near, agrees_reduced, agrees_sub, around, cosine_wave, degree, ripple, sine_wave, wave_near, wave_small, widest}
use Rattle.sum_rules.proofs.FloorsNear.{floored, near_add, near_over, same_near}
use Rattle.sum_rules.proofs.MoonWeights.{weight_error, weight_near, weight_size, weight_within}
use Rattle.sum_rules.proofs.PowersNear.{argument_error, argument_near, near_enough, reach}
use Rattle.sum_rules.proofs.WeightedSum.{all, row_error, scaled_add, total_near, weighted_row}
use Rattle.sum_rules.specs.Moon as Moon
use Rattle.sum_rules.specs.ExactSums as Exact
use Rattle.sum_rules.specs.MoonTerms as Of

-- ---- errors and sizes
-- a row's multiples add to at most 8, so its angle is off by at most 8 times an argument's error, and its sine by at most 27
abbrev angle_error : ℚ
angle_error = nat 8 *q argument_error

abbrev wave_error : ℚ
wave_error = nat 27

abbrev term_error : ℕ → ℤ → ℚ
term_error m l = row_error (weight_size m l) wave_error (weight_error m l)

-- of a table's rows, by the column of their weights
abbrev table_row_error : ℕ → List ℤ → ℚ
table_row_error i row = term_error (nat_abs (column row 1)) (column row i)

abbrev table_error : ℕ → List (List ℤ) → ℚ
table_error i rows = totalq (table_row_error i) rows

abbrev longitude_error : ℚ
longitude_error = table_error 4 longitude_distance_terms +q term_error 0 (pos 3958) +q term_error 0 (pos 1962) +q term_error 0 (pos 318)

abbrev latitude_error : ℚ
latitude_error = table_error 4 latitude_terms +q term_error 0 (minus 2235) +q term_error 0 (pos 382) +q term_error 0 (pos 175)
    +q term_error 0 (pos 175) +q term_error 0 (pos 127) +q term_error 0 (minus 115)

abbrev distance_error : ℚ
distance_error = table_error 5 longitude_distance_terms

-- ---- closed numbers
to_degrees : billion *q nat 100 over 1_000_000_000 ≡ degree over 1_000_000
unfolding whole inv ◌*q◌
to_degrees = sound refl

to_metres : billion *q nat 100 over 100_000_000_000 ≡ nat 1
unfolding whole inv ◌*q◌
to_metres = sound refl

one_in_angle : argument_error ≤q angle_error
unfolding nn whole inv ◌+q◌ ◌*q◌ negq
one_in_angle = record { diff = record { is = tt } }

two_in_angle : argument_error +q argument_error ≤q angle_error
unfolding nn whole inv ◌+q◌ ◌*q◌ negq
two_in_angle = record { diff = record { is = tt } }

angle_widest : angle_error ≤q widest
unfolding nn whole inv ◌+q◌ ◌*q◌ negq
angle_widest = record { diff = record { is = tt } }

wave_ok : ripple angle_error ≤q wave_error
unfolding nn whole inv ◌+q◌ ◌*q◌ negq
wave_ok = record { diff = record { is = tt } }

-- the polynomials fit
abbrev polynomials : List Polynomial
polynomials = Of.L' ∷ Of.D ∷ Of.M ∷ Of.M' ∷ Of.F ∷ Of.A1 ∷ Of.A2 ∷ Of.A3 ∷ []

polynomials_fit : T (every (λ _. near_enough) Of.L' 0 polynomials)
unfolding near_enough nn whole inv ◌+q◌ ◌*q◌ negq
polynomials_fit = tt

-- the tables' multiples
unfoldable small_multiples : List ℤ → Bool
small_multiples row = leb (nat_abs (column row 0) + nat_abs (column row 1) + nat_abs (column row 2) + nat_abs (column row 3)) 8

longitude_distance_small : T (all small_multiples longitude_distance_terms)
unfolding all small_multiples longitude_distance_terms
longitude_distance_small = tt

latitude_small : T (all small_multiples latitude_terms)
unfolding all small_multiples latitude_terms
latitude_small = tt

-- THE BOUNDS, computed from the tables
longitude_ok : argument_error +q (longitude_error over 1_000_000_000 +q nat 1) ≤q longitude_bound
unfolding nn whole inv ◌+q◌ ◌*q◌ negq weight_error totalq longitude_distance_terms
longitude_ok = record { diff = record { is = tt } }

latitude_ok : latitude_error over 1_000_000_000 +q nat 1 ≤q latitude_bound
unfolding nn whole inv ◌+q◌ ◌*q◌ negq weight_error totalq latitude_terms
latitude_ok = record { diff = record { is = tt } }

metres_ok : nat 0 +q (distance_error over 100_000_000_000 +q nat 1) ≤q metres_bound
unfolding nn whole inv ◌+q◌ ◌*q◌ negq weight_error totalq longitude_distance_terms
metres_ok = record { diff = record { is = tt } }

-- ---- a whole sum near 10¹¹ times an exact one
record Sum (z : ℤ) (x error : ℚ) : Type 0 where
  near : Within (whole z -q billion *q nat 100 *q x) error

infixl 6 ◌⊕◌
◌⊕◌ : {y z : ℤ} {v w error error' : ℚ} → Sum y v error → Sum z w error' → Sum (y +ℤ z) (v +q w) (error +q error')
◌⊕◌ {y} {z} {v} {w} h l = record { near = scaled_add y z (billion *q nat 100) v w h.near l.near }

-- over d + 1 and floored
sum_floored : (z : ℤ) (d : ℕ) (x y : ℚ) {error : ℚ} → billion *q nat 100 *q x over suc d ≡ y → Sum z x error
    → Within (whole ⌊ z ÷ suc d ⌋ -q y) (error over suc d +q nat 1)
sum_floored z d x y is h = floored z d y (near_over z d (billion *q nat 100 *q x) y is h.near)

sum_degrees : (x : ℚ) → billion *q nat 100 *q x over 1_000_000_000 ≡ degree *q (x over 1_000_000)
sum_degrees x =
    linq (x0 :* x1 :* x2) (x3 :* (x1 :* x4)) x1 (x0 :* x2) (x3 :* x4)
    ((billion *q nat 100) ∷ x ∷ inv 999_999_999 ∷ degree ∷ inv 999_999 ∷ []) tt to_degrees

sum_metres : (x : ℚ) → billion *q nat 100 *q x over 100_000_000_000 ≡ x
sum_metres x = linq (x0 :* x1 :* x2) x1 x1 (x0 :* x2) k1 ((billion *q nat 100) ∷ x ∷ inv 99_999_999_999 ∷ []) tt to_metres

-- multiples that add to at most 8, of four arguments
multiples_small : (d m m' f : ℕ) → d + m + m' + f ≤ 8
    → nat d *q argument_error +q nat m *q argument_error +q nat m' *q argument_error +q nat f *q argument_error ≤q angle_error
multiples_small d m m' f h = record {
  diff =
      subst NN
      (ap (λ z. (nat 8 -q z) *q argument_error)
      (nat_add (d + m + m') f ∙ ap (λ z. z +q nat f) (nat_add (d + m) m' ∙ ap (λ z. z +q nat m') (nat_add d m)))
      ∙ solveq ((x4 :- (x0 :+ x1 :+ x2 :+ x3)) :* x5) (x4 :* x5 :- (x0 :* x5 :+ x1 :* x5 :+ x2 :* x5 :+ x3 :* x5))
      (nat d ∷ nat m ∷ nat m' ∷ nat f ∷ nat 8 ∷ argument_error ∷ []) tt)
      (nat_le h ∗ nn_int 7);
}

module _ (n : ℤ) (bound : Within (centuries n) reach) where
  abbrev time : ℚ
  time = centuries n

  -- ---- the arguments
  abbrev Argument : Polynomial → Type 0
  Argument p = Agrees (Moon.argument p n) (Exact.degrees time p) argument_error

  -- by the place in the list
  listed : (i : ℕ) → i < 8 → Argument (get_or polynomials i Of.L')
  listed i h = argument_near n bound (get_or polynomials i Of.L') (at (λ _. near_enough) Of.L' polynomials polynomials_fit i h)

  L'_near : Argument Of.L'
  L'_near = listed 0 (omega arith)

  D_near : Argument Of.D
  D_near = listed 1 (omega arith)

  M_near : Argument Of.M
  M_near = listed 2 (omega arith)

  M'_near : Argument Of.M'
  M'_near = listed 3 (omega arith)

  F_near : Argument Of.F
  F_near = listed 4 (omega arith)

  A1_near : Argument Of.A1
  A1_near = listed 5 (omega arith)

  A2_near : Argument Of.A2
  A2_near = listed 6 (omega arith)

  A3_near : Argument Of.A3
  A3_near = listed 7 (omega arith)

  -- alone, two added, and one less another
  alone : {a : ℤ} {x : ℚ} → Agrees a x argument_error → Agrees a x angle_error
  alone A = agrees_le A one_in_angle

  added : {a b : ℤ} {x y : ℚ} → Agrees a x argument_error → Agrees b y argument_error → Agrees (a +ℤ b) (x +q y) angle_error
  added A B = agrees_le (agrees_add A B) two_in_angle

  less : {a b : ℤ} {x y : ℚ} → Agrees a x argument_error → Agrees b y argument_error → Agrees (a -ℤ b) (x -q y) angle_error
  less A B = agrees_le (agrees_sub A B) two_in_angle

  row_angle_near : (row : List ℤ) → T (small_multiples row) → Agrees (Moon.row_angle (Moon.arguments n) row) (Exact.row_angle time row) angle_error
  unfolding small_multiples
  row_angle_near row h =
      agrees_le
      (agrees_add
      (agrees_add (agrees_add (agrees_mul (column row 0) D_near) (agrees_mul (column row 1) M_near)) (agrees_mul (column row 2) M'_near))
      (agrees_mul (column row 3) F_near))
      (multiples_small (nat_abs (column row 0)) (nat_abs (column row 1)) (nat_abs (column row 2)) (nat_abs (column row 3)) (leb→le _ 8 h))

  -- ---- a term, by sine or by cosine, and a table of them
  module _ {f : ℤ → ℤ} {g : ℚ → ℚ} (W : Wave f g) where
    term_near : (m : ℕ) (l : ℤ) {a : ℤ} (x : ℚ) → Agrees a x angle_error
        → Within (whole (Moon.weight (Moon.eccentricity n) m l *ℤ f a) -q billion *q nat 100 *q (Exact.weight time m l *q g x)) (term_error m l)
    term_near m l {a} x A =
        weighted_row (Moon.weight (Moon.eccentricity n) m l) (f a) (nat 100) (Exact.weight time m l) (g x)
        (weight_within n bound m l) (within_le (wave_near W x A angle_widest) wave_ok) (weight_near n bound m l) (wave_small W x)

    -- a row by its weight's column
    abbrev row_value : ℕ → List ℤ → ℤ
    row_value i row = Moon.weight (Moon.eccentricity n) (nat_abs (column row 1)) (column row i) *ℤ f (Moon.row_angle (Moon.arguments n) row)

    abbrev exact_row : ℕ → List ℤ → ℚ
    exact_row i row = Exact.weight time (nat_abs (column row 1)) (column row i) *q g (Exact.row_angle time row)

    table_near : (i : ℕ) (rows : List (List ℤ)) → T (all small_multiples rows)
        → Sum (total (row_value i) rows) (totalq (exact_row i) rows) (table_error i rows)
    table_near i rows h = record {
      near =
          total_near small_multiples (billion *q nat 100) (row_value i) (exact_row i) (table_row_error i)
          (λ row small. term_near (nat_abs (column row 1)) (column row i) (Exact.row_angle time row) (row_angle_near row small)) rows h;
    }

  -- an added term is a row without E
  added_near : (l : ℤ) {a : ℤ} (x : ℚ) → Agrees a x angle_error → Sum (Moon.added l a) (Exact.added l x) (term_error 0 l)
  unfolding Moon.weight Exact.weight
  added_near l x A = record { near = term_near sine_wave 0 l x A }

  -- ---- the three sums
  abbrev exact_longitude : ℚ
  exact_longitude = totalq (Exact.sine_term time) longitude_distance_terms
      +q Exact.added (pos 3958) (Exact.degrees time Of.A1)
      +q Exact.added (pos 1962) (Exact.degrees time Of.L' -q Exact.degrees time Of.F)
      +q Exact.added (pos 318) (Exact.degrees time Of.A2)

  longitude_sum_near : Sum (Moon.longitude_sum n) exact_longitude longitude_error
  longitude_sum_near =
      table_near sine_wave 4 longitude_distance_terms longitude_distance_small
      ⊕ added_near (pos 3958) _ (alone A1_near)
      ⊕ added_near (pos 1962) _ (less L'_near F_near)
      ⊕ added_near (pos 318) _ (alone A2_near)

  abbrev exact_latitude : ℚ
  exact_latitude = totalq (Exact.sine_term time) latitude_terms
      +q Exact.added (minus 2235) (Exact.degrees time Of.L')
      +q Exact.added (pos 382) (Exact.degrees time Of.A3)
      +q Exact.added (pos 175) (Exact.degrees time Of.A1 -q Exact.degrees time Of.F)
      +q Exact.added (pos 175) (Exact.degrees time Of.A1 +q Exact.degrees time Of.F)
      +q Exact.added (pos 127) (Exact.degrees time Of.L' -q Exact.degrees time Of.M')
      +q Exact.added (minus 115) (Exact.degrees time Of.L' +q Exact.degrees time Of.M')

  latitude_sum_near : Sum (Moon.latitude_sum n) exact_latitude latitude_error
  latitude_sum_near =
      table_near sine_wave 4 latitude_terms latitude_small
      ⊕ added_near (minus 2235) _ (alone L'_near)
      ⊕ added_near (pos 382) _ (alone A3_near)
      ⊕ added_near (pos 175) _ (less A1_near F_near)
      ⊕ added_near (pos 175) _ (added A1_near F_near)
      ⊕ added_near (pos 127) _ (less L'_near M'_near)
      ⊕ added_near (minus 115) _ (added L'_near M'_near)

  abbrev exact_distance : ℚ
  exact_distance = totalq (Exact.cosine_term time) longitude_distance_terms

  distance_sum_near : Sum (Moon.distance_sum n) exact_distance distance_error
  distance_sum_near = table_near cosine_wave 5 longitude_distance_terms longitude_distance_small

  -- ---- floored
  longitude_near : Around (Moon.longitude n) (Exact.moon_longitude time) longitude_bound
  unfolding Moon.longitude
  longitude_near =
      around
      (agrees_le
      (agrees_reduced
      (agrees_add L'_near
      (agrees_near (exact_longitude over 1_000_000)
      (sum_floored (Moon.longitude_sum n) 999_999_999 exact_longitude _ (sum_degrees exact_longitude) longitude_sum_near))))
      longitude_ok)

  latitude_near : Within (whole (Moon.latitude n) -q degree *q Exact.moon_latitude time) latitude_bound
  unfolding Moon.latitude
  latitude_near =
      within_le (sum_floored (Moon.latitude_sum n) 999_999_999 exact_latitude _ (sum_degrees exact_latitude) latitude_sum_near) latitude_ok

  metres_near : Within (whole (Moon.metres n) -q Exact.moon_metres time) metres_bound
  unfolding Moon.metres
  metres_near =
      within_le
      (near_add (pos 385_000_560) ⌊ Moon.distance_sum n ÷ 100_000_000_000 ⌋ _ _ (same_near (nat 385_000_560))
      (sum_floored (Moon.distance_sum n) 99_999_999_999 exact_distance _ (sum_metres exact_distance) distance_sum_near))
      metres_ok

  -- THE MOON
  pub moon_within : MoonNear n
  moon_within = record { longitude = longitude_near; latitude = latitude_near; metres = metres_near }
