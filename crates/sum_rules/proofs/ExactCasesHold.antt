-- Every exact case holds. An angle of the Moon is brought over one denominator, a sine or cosine is the series by Horner's rule, and each row,
-- times 10³⁶, is floored: the floors add up as whole numbers, off by less than one for each row. What is left is to test that one whole number
-- against the case's, which antt computes.
use mathlib.Core.Bool.{Bool, ◌&&◌, true}
use mathlib.Core.List.{List, [], ◌∷◌}
use mathlib.Core.Path.{◌∙◌, ◌≡◌, ap, ap₂, refl, subst, subst₂, sym}
use mathlib.Core.Quot.{sound}
use Prim.Native.Nat.{◌*◌, ◌-◌, ◌^◌, suc, ℕ}
use lib.Dec.{T}
use lib.IntN.{◌*ℤ◌, ◌+ℤ◌, nat_abs, neg_ℤ, pos, ℤ}
use mir.Facts.{and_yes}
use Rattle.arithmetic.specs.Floor.{⌊◌÷◌⌋}
use Rattle.arithmetic.proofs.Solver.{◌:*◌, ◌:+◌, ◌:-◌, k0, k1, neg', x0, x1, x2, x3, x4, x5, x6, x7}
use Rattle.exact.specs.Fraction.{NN, Within, ◌*q◌, ◌+q◌, ◌-q◌, ◌over◌, floor, inv, nat, negq, nn, whole, ℚ}
use Rattle.exact.specs.Reference.{brought, cos°, power, sin°}
use Rattle.exact.proofs.Floors.{fraction_floor, in_within}
use Rattle.exact.proofs.FractionLaws.{*q_assoc, inv_mul, linq, solveq, whole_add, whole_mul, whole_neg}
use Rattle.exact.proofs.Horner.{cos_horner, cos₄₀_is, horner, sin_horner, sin₄₀_is}
use Rattle.exact.proofs.Order.{◌∗◌, nn_int, nn_inv, within_mul, within_neg, within_self, within_sub, within_test}
use Rattle.exact.proofs.ReferenceLaws.{cosine_reference, radian, sine_reference}
use Rattle.arithmetic.specs.Each.{Each, more, none}
use Rattle.number_rules.proofs.SineTableLaws.{half}
use Rattle.sum_rules.specs.ExactCases.{Case, ExactCasesHold, Holds, Nearest, T₁, T₂, moon_sums, parts₁, parts₂, reference, row, sun_sums, τ₁, τ₂, ◌≈◌e-30}
use Rattle.sum_rules.specs.ExactSums.{added, cosine_term, degrees, groups_from, moon_latitude, moon_longitude, moon_metres, ray, ray_angle, row_angle, sine_term, totalq, weight}
use Rattle.sum_rules.specs.Instant.{century}
use Rattle.sum_rules.specs.MoonTerms as Of
use Rattle.sum_rules.specs.MoonTerms.{latitude_terms, longitude_distance_terms}
use Rattle.sum_rules.specs.Sun.{row_A, row_B, row_C}
use Rattle.sum_rules.specs.SunTerms.{B_groups, B0, B1, L_groups, L0, L1, L2, L3, L4, L5, R_groups, R0, R1, R2, R3, R4}
use Rattle.sum_rules.specs.Table.{column, total}
use Rattle.sum_rules.proofs.FloorsNear.{same_near}
use Rattle.sum_rules.proofs.WeightedSum.{all, scaled_add, total_near}

-- ---- an exact number x with a test of the case's number, which antt computes
record Computed (x : ℚ) : Type 0 where
  test : ℤ → Bool
  right : (k : ℤ) → T (test k) → Nearest x k

abbrev scale : ℚ
scale = nat (10 ^ 30)

inside : ℚ → ℚ → Bool
inside x b = nn (b +q x) && nn (b -q x)

-- a number from an equal one that computes
equal : {x : ℚ} (y : ℚ) → x ≡ y → Computed x
unfolding inside
equal y h = record {
  test = λ k. inside (scale *q y -q whole k) half;
  right = λ k t. subst (λ v. Nearest v k) (sym h) (within_test (scale *q y -q whole k) half t);
}

abbrev as_is : {x : ℚ} → Computed x
as_is {x} = equal x refl

-- a number of which 10³⁶ times as much is known, but for an error
abbrev fine : ℚ
fine = scale *q nat 1_000_000

record Known (y : ℚ) : Type 0 where
  number : ℤ
  error : ℚ
  near : Within (whole number -q fine *q y) error

-- p + y w, from what is known of y
module _ (p w : ℚ) where
  abbrev part : ℚ
  part = w *q inv 999_999

  miss : ℤ → ℤ → ℚ
  miss z k = scale *q p +q whole z *q part -q whole k

  passes : ℤ → ℚ → ℤ → Bool
  passes z e k = inside (miss z k) (half -q e *q part)

  settled : {x y : ℚ} → x ≡ p +q y *q w → NN w → Known y → Computed x
  unfolding passes miss inside
  settled {x} {y} is h K = record {
    test = passes K.number K.error;
    right = λ k t.
        subst₂ Within
        (linq (x0 :* x1 :+ x2 :* (x3 :* x4) :- x5 :- (x2 :- x0 :* x6 :* x7) :* (x3 :* x4)) (x0 :* (x1 :+ x7 :* x3) :- x5) (x0 :* x7 :* x3) (x6 :* x4) k1
        (scale ∷ p ∷ whole K.number ∷ w ∷ inv 999_999 ∷ whole k ∷ nat 1_000_000 ∷ y ∷ []) tt (inv_mul 999_999)
        ∙ ap (λ v. scale *q v -q whole k) (sym is))
        (solveq (x0 :- x1 :+ x1) x0 (half ∷ (K.error *q part) ∷ []) tt)
        (within_sub (within_test (miss K.number k) (half -q K.error *q part) t) (within_mul K.near (within_self (h ∗ nn_inv 999_999))));
  }

-- ---- what is known: the floor of a number that is computed, and sums
floor_near : (s x y : ℚ) → x ≡ y → Within (whole (floor (s *q y)) -q s *q x) (nat 1)
floor_near s x y h =
    subst (λ v. Within (whole (floor (s *q y)) -q s *q v) (nat 1)) (sym h)
    (subst (λ v. Within v (nat 1)) (solveq (neg' (x0 :- x1)) (x1 :- x0) ((s *q y) ∷ whole (floor (s *q y)) ∷ []) tt)
    (within_neg (in_within (fraction_floor (s *q y)))))

abbrev floored : {x : ℚ} (y : ℚ) → x ≡ y → Known x
floored {x} y h = record { number = floor (fine *q y); error = nat 1; near = floor_near fine x y h }

infixl 6 ◌and◌
◌and◌ : {x y : ℚ} → Known x → Known y → Known (x +q y)
◌and◌ {x} {y} K L = record { number = K.number +ℤ L.number; error = K.error +q L.error; near = scaled_add K.number L.number fine x y K.near L.near }

module _ {A : Type 0} where
  always : (rows : List A) → T (all (λ _. true) rows)
  unfolding all
  always [] = tt
  always (_ ∷ rows) = always rows

  rows_near : (s : ℚ) {f : A → ℚ} (g : A → ℚ) → ((row : A) → f row ≡ g row) → (rows : List A)
      → Within (whole (total (λ row. floor (s *q g row)) rows) -q s *q totalq f rows) (totalq (λ _. nat 1) rows)
  rows_near s {f} g same rows = total_near (λ _. true) s (λ row. floor (s *q g row)) f (λ _. nat 1) (λ row _. floor_near s (f row) (g row) (same row)) rows (always rows)

  table : {f : A → ℚ} (g : A → ℚ) → ((row : A) → f row ≡ g row) → (rows : List A) → Known (totalq f rows)
  table g same rows = record { number = total (λ row. floor (fine *q g row)) rows; error = totalq (λ _. nat 1) rows; near = rows_near fine g same rows }

-- ---- the Moon's angles over one denominator, which the eight polynomials have in common
abbrev common : ℕ
common = century ^ 4 * 182_691_007_494_451_598_057_975_042_482_119_328_680_000

abbrev over_common : ℤ → ℚ
over_common a = whole a over common

record Angle (x : ℚ) : Type 0 where
  numerator : ℤ
  is : x ≡ over_common numerator

plus : {x y : ℚ} → Angle x → Angle y → Angle (x +q y)
plus a b = record {
  numerator = a.numerator +ℤ b.numerator;
  is =
      ap₂ ◌+q◌ a.is b.is ∙ solveq (x0 :* x2 :+ x1 :* x2) ((x0 :+ x1) :* x2) (whole a.numerator ∷ whole b.numerator ∷ inv (common - 1) ∷ []) tt
      ∙ ap (λ z. z over common) (sym (whole_add a.numerator b.numerator));
}

opposite : {x : ℚ} → Angle x → Angle (negq x)
opposite a = record {
  numerator = neg_ℤ a.numerator;
  is =
      ap negq a.is ∙ solveq (neg' (x0 :* x1)) (neg' x0 :* x1) (whole a.numerator ∷ inv (common - 1) ∷ []) tt
      ∙ ap (λ z. z over common) (sym (whole_neg a.numerator));
}

abbrev less : {x y : ℚ} → Angle x → Angle y → Angle (x -q y)
less a b = plus a (opposite b)

times : (c : ℤ) {x : ℚ} → Angle x → Angle (whole c *q x)
times c a = record {
  numerator = c *ℤ a.numerator;
  is =
      ap (λ z. whole c *q z) a.is ∙ solveq (x0 :* (x1 :* x2)) (x0 :* x1 :* x2) (whole c ∷ whole a.numerator ∷ inv (common - 1) ∷ []) tt
      ∙ ap (λ z. z over common) (sym (whole_mul c a.numerator));
}

-- sine and cosine, as they are computed
sine : ℚ → ℚ
sine x = sin_horner 20 (brought x *q radian)

cosine : ℚ → ℚ
cosine x = cos_horner 20 (brought x *q radian)

sine_is : (x : ℚ) → sin° x ≡ sine x
unfolding sine
sine_is x = sine_reference.is x ∙ sin₄₀_is (brought x *q radian)

cosine_is : (x : ℚ) → cos° x ≡ cosine x
unfolding cosine
cosine_is x = cosine_reference.is x ∙ cos₄₀_is (brought x *q radian)

module _ (time : ℚ) where
  record Arguments : Type 0 where
    L' : Angle (degrees time Of.L')
    D : Angle (degrees time Of.D)
    M : Angle (degrees time Of.M)
    M' : Angle (degrees time Of.M')
    F : Angle (degrees time Of.F)
    A1 : Angle (degrees time Of.A1)
    A2 : Angle (degrees time Of.A2)
    A3 : Angle (degrees time Of.A3)

module _ {time : ℚ} (a : Arguments time) where
  row_over : (row : List ℤ) → Angle (row_angle time row)
  row_over row = plus (plus (plus (times (column row 0) a.D) (times (column row 1) a.M)) (times (column row 2) a.M')) (times (column row 3) a.F)

  -- a row's weight from column j, times the wave of its angle
  by : (ℚ → ℚ) → ℕ → List ℤ → ℚ
  by wave j row = weight time (nat_abs (column row 1)) (column row j) *q wave (over_common (row_over row).numerator)

  by_is : (wave computed : ℚ → ℚ) → ((x : ℚ) → wave x ≡ computed x) → (j : ℕ) (row : List ℤ)
      → weight time (nat_abs (column row 1)) (column row j) *q wave (row_angle time row) ≡ by computed j row
  unfolding by
  by_is wave computed is j row = ap (λ z. weight time (nat_abs (column row 1)) (column row j) *q z) (ap wave (row_over row).is ∙ is (over_common (row_over row).numerator))

  by_sine : (row : List ℤ) → sine_term time row ≡ by sine 4 row
  by_sine = by_is sin° sine sine_is 4

  by_cosine : (row : List ℤ) → cosine_term time row ≡ by cosine 5 row
  by_cosine = by_is cos° cosine cosine_is 5

  -- row i by l, by r and by b
  abbrev l : (i : ℕ) → Computed (sine_term time (row longitude_distance_terms i))
  l i = equal _ (by_sine (row longitude_distance_terms i))

  abbrev r : (i : ℕ) → Computed (cosine_term time (row longitude_distance_terms i))
  r i = equal _ (by_cosine (row longitude_distance_terms i))

  abbrev b : (i : ℕ) → Computed (sine_term time (row latitude_terms i))
  b i = equal _ (by_sine (row latitude_terms i))

abbrev addition : (w : ℤ) {x : ℚ} → Angle x → Known (added w x)
addition w a = floored (whole w *q sine (over_common a.numerator)) (ap (λ z. whole w *q z) (ap sin° a.is ∙ sine_is (over_common a.numerator)))

module _ {time : ℚ} (a : Arguments time) where
  abbrev longitude : Computed (moon_longitude time)
  longitude =
      settled _ _ refl (nn_inv 999_999)
      (table (by a sine 4) (by_sine a) longitude_distance_terms and addition _ a.A1 and addition _ (less a.L' a.F) and addition _ a.A2)

  abbrev latitude : Computed (moon_latitude time)
  latitude =
      settled (nat 0) _ (solveq (x0 :* x1) (k0 :+ x0 :* x1) (_ ∷ _ ∷ []) tt) (nn_inv 999_999)
      (table (by a sine 4) (by_sine a) latitude_terms and addition _ a.L' and addition _ a.A3 and addition _ (less a.A1 a.F)
      and addition _ (plus a.A1 a.F) and addition _ (less a.L' a.M') and addition _ (plus a.L' a.M'))

  abbrev metres : Computed (moon_metres time)
  metres =
      settled _ (nat 1) (solveq (x0 :+ x1) (x0 :+ x1 :* k1) (_ ∷ _ ∷ []) tt) (nn_int 1)
      (table (by a cosine 5) (by_cosine a) longitude_distance_terms)

-- ---- the Sun
module _ (τ : ℚ) where
  ray_by : List ℕ → ℚ
  ray_by row = nat (row_A row) *q cosine (ray_angle τ (row_B row) (row_C row))

  ray_by_is : (row : List ℕ) → ray τ row ≡ ray_by row
  unfolding ray_by
  ray_by_is row = ap (λ z. nat (row_A row) *q z) (cosine_is (ray_angle τ (row_B row) (row_C row)))

  abbrev ray_row : (row : List ℕ) → Computed (ray τ row)
  ray_row row = equal (ray_by row) (ray_by_is row)

  group : (i : ℕ) (rows : List (List ℕ)) → Known (power τ i *q totalq (ray τ) rows)
  group i rows = record {
    number = total (λ row. floor (fine *q power τ i *q ray_by row)) rows;
    error = totalq (λ _. nat 1) rows;
    near =
        subst (λ v. Within (whole (total (λ row. floor (fine *q power τ i *q ray_by row)) rows) -q v) (totalq (λ _. nat 1) rows)) (*q_assoc fine (power τ i) (totalq (ray τ) rows))
        (rows_near (fine *q power τ i) ray_by ray_by_is rows);
  }

  groups : (i : ℕ) (gs : List (List (List ℕ))) → Known (groups_from τ i gs)
  unfolding groups_from
  groups i [] = record { number = pos 0; error = nat 0; near = subst (λ v. Within v (nat 0)) (solveq (x0 :- x0) (k0 :- x0 :* k0) (fine ∷ []) tt) (same_near fine) }
  groups i (rows ∷ above) = group i rows and groups (suc i) above

  abbrev sun : (gs : List (List (List ℕ))) → Computed (groups_from τ 0 gs over 100_000_000)
  sun gs =
      settled (nat 0) _ (solveq (x0 :* x1) (k0 :+ x0 :* x1) (_ ∷ _ ∷ []) tt) (nn_inv 99_999_999) (groups 0 gs)

-- ---- the two instants
abbrev short : (x : ℚ) → x ≡ over_common (floor (nat common *q x)) → Angle x
short x h = record { numerator = floor (nat common *q x); is = h }

arguments₁ : Arguments T₁
unfolding floor ⌊◌÷◌⌋ whole inv ◌+q◌ ◌*q◌ negq
arguments₁ = record {
  L' = short (degrees T₁ Of.L') (sound refl);
  D = short (degrees T₁ Of.D) (sound refl);
  M = short (degrees T₁ Of.M) (sound refl);
  M' = short (degrees T₁ Of.M') (sound refl);
  F = short (degrees T₁ Of.F) (sound refl);
  A1 = short (degrees T₁ Of.A1) (sound refl);
  A2 = short (degrees T₁ Of.A2) (sound refl);
  A3 = short (degrees T₁ Of.A3) (sound refl);
}

arguments₂ : Arguments T₂
unfolding floor ⌊◌÷◌⌋ whole inv ◌+q◌ ◌*q◌ negq
arguments₂ = record {
  L' = short (degrees T₂ Of.L') (sound refl);
  D = short (degrees T₂ Of.D) (sound refl);
  M = short (degrees T₂ Of.M) (sound refl);
  M' = short (degrees T₂ Of.M') (sound refl);
  F = short (degrees T₂ Of.F) (sound refl);
  A1 = short (degrees T₂ Of.A1) (sound refl);
  A2 = short (degrees T₂ Of.A2) (sound refl);
  A3 = short (degrees T₂ Of.A3) (sound refl);
}

-- ---- a list of cases, each computed, and one test of all their numbers
abbrev Computed_case : Case → Type 0
Computed_case (x ≈ k e-30) = Computed x

tested : {cs : List Case} → Each Computed_case cs → Bool
tested none = true
tested (more {x = x ≈ k e-30} C rest) = C.test k && tested rest

all_hold : {cs : List Case} (all : Each Computed_case cs) → T (tested all) → Each Holds cs
unfolding tested
all_hold none t = none
all_hold (more {x = x ≈ k e-30} C rest) t =
    let u = and_yes (C.test k) (tested rest) t in more (C.right k u.0) (all_hold rest u.1)

-- ---- the lists
abbrev reference_computed : Each Computed_case reference
reference_computed = more as_is (more (equal (sine (nat 180)) (sine_is (nat 180))) (more (equal (cosine (nat 180)) (cosine_is (nat 180))) none))

reference_hold : Each Holds reference
unfolding tested equal inside sine cosine sin_horner cos_horner horner floor ⌊◌÷◌⌋ nn whole inv ◌+q◌ ◌*q◌ negq
reference_hold = all_hold reference_computed tt

abbrev parts₁_computed : Each Computed_case parts₁
parts₁_computed =
    more as_is (more as_is (more as_is (more as_is (more as_is (more as_is (more as_is (more as_is (more as_is (
    more (l arguments₁ 0) (more (l arguments₁ 4) (more (l arguments₁ 7) (more (l arguments₁ 33) (more (l arguments₁ 34) (
    more (r arguments₁ 0) (more (r arguments₁ 7) (more (r arguments₁ 42) (more (b arguments₁ 10) (
    more (ray_row τ₁ (row L0 1)) (more (ray_row τ₁ (row R1 0)) none)))))))))))))))))))

parts₁_hold : Each Holds parts₁
unfolding tested equal ray_by inside opposite plus times row_over by sine cosine arguments₁
    weight longitude_distance_terms latitude_terms L0 R1 sin_horner cos_horner horner floor ⌊◌÷◌⌋ nn whole inv ◌+q◌ ◌*q◌ negq
parts₁_hold = all_hold parts₁_computed tt

abbrev parts₂_computed : Each Computed_case parts₂
parts₂_computed =
    more as_is (more as_is (more as_is (more as_is (more as_is (more as_is (more as_is (more as_is (more as_is (
    more (l arguments₂ 0) (more (l arguments₂ 4) (more (l arguments₂ 7) (more (l arguments₂ 33) (more (l arguments₂ 34) (
    more (r arguments₂ 0) (more (r arguments₂ 7) (more (r arguments₂ 42) (more (b arguments₂ 10) (
    more (ray_row τ₂ (row L0 1)) (more (ray_row τ₂ (row R1 0)) none)))))))))))))))))))

parts₂_hold : Each Holds parts₂
unfolding tested equal ray_by inside opposite plus times row_over by sine cosine arguments₂
    weight longitude_distance_terms latitude_terms L0 R1 sin_horner cos_horner horner floor ⌊◌÷◌⌋ nn whole inv ◌+q◌ ◌*q◌ negq
parts₂_hold = all_hold parts₂_computed tt

abbrev moon_sums_computed : Each Computed_case moon_sums
moon_sums_computed = more (longitude arguments₁) (more (latitude arguments₁) (more (metres arguments₁) none))

moon_sums_hold : Each Holds moon_sums
unfolding tested settled passes miss inside table ◌and◌ opposite plus times row_over by sine cosine arguments₁
    total totalq weight longitude_distance_terms latitude_terms sin_horner cos_horner horner floor ⌊◌÷◌⌋ nn whole inv ◌+q◌ ◌*q◌ negq
moon_sums_hold = all_hold moon_sums_computed tt

abbrev sun_sums_computed : Each Computed_case sun_sums
sun_sums_computed = more (sun τ₁ L_groups) (more (sun τ₁ B_groups) (more (sun τ₁ R_groups) none))

sun_sums_hold : Each Holds sun_sums
unfolding tested groups group groups_from ray_by settled passes miss inside ◌and◌ cosine total totalq power L0 L1 L2 L3 L4 L5 B0 B1 R0 R1 R2 R3 R4
    cos_horner horner floor ⌊◌÷◌⌋ nn whole inv ◌+q◌ ◌*q◌ negq
sun_sums_hold = all_hold sun_sums_computed tt

pub exact_cases_hold : ExactCasesHold
exact_cases_hold = more reference_hold (more parts₁_hold (more parts₂_hold (more moon_sums_hold (more sun_sums_hold none))))
