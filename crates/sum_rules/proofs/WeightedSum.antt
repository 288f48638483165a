-- The error of a weighted sum, over any table: its rows' errors added. Cited for each sum of the Moon and of the Sun.
use mathlib.Core.Bool.{Bool, ◌&&◌, true}
use mathlib.Core.List.{List, [], ◌∷◌}
use mathlib.Core.Path.{◌∙◌, ap, subst, sym}
use lib.Dec.{T}
use lib.IntN.{◌*ℤ◌, ◌+ℤ◌, ℤ}
use mir.Facts.{and_yes}
use Rattle.arithmetic.proofs.Solver.{◌:*◌, ◌:+◌, ◌:-◌, k0, x0, x1, x2, x3, x4, x5}
use Rattle.exact.specs.Fraction.{Within, ◌*q◌, ◌+q◌, ◌-q◌, ◌over◌, nat, whole, ℚ}
use Rattle.exact.proofs.FractionLaws.{solveq, whole_mul}
use Rattle.exact.proofs.Order.{nn_int, within_add, within_mul, within_self}
use Rattle.number_rules.proofs.SineTableLaws.{billion}
use Rattle.sum_rules.specs.ExactSums.{totalq}
use Rattle.sum_rules.specs.Table.{total}
use Rattle.sum_rules.proofs.FloorsNear.{near_add, same_near}

-- a little above 1, which no sine or cosine of the reference passes
abbrev pub most_wave : ℚ
most_wave = nat 1001 over 1000

-- ---- a row: a whole weight times a whole sine, against 10⁹ and a scale times the exact weight w and sine v
abbrev pub row_error : ℚ → ℚ → ℚ → ℚ
row_error size wave_error weight_error = size *q wave_error +q weight_error *q (billion *q most_wave)

pub weighted_row : (weight wave : ℤ) (scale w v : ℚ) {size wave_error weight_error : ℚ}
    → Within (whole weight) size → Within (whole wave -q billion *q v) wave_error
    → Within (whole weight -q scale *q w) weight_error → Within v most_wave
    → Within (whole (weight *ℤ wave) -q billion *q scale *q (w *q v)) (row_error size wave_error weight_error)
weighted_row weight wave scale w v {size} {wave_error} {weight_error} of_size of_wave of_weight small =
    subst (λ z. Within z (row_error size wave_error weight_error))
    (solveq (x0 :* (x1 :- x5 :* x4) :+ (x0 :- x2 :* x3) :* (x5 :* x4)) (x0 :* x1 :- x5 :* x2 :* (x3 :* x4))
    (whole weight ∷ whole wave ∷ scale ∷ w ∷ v ∷ billion ∷ []) tt
    ∙ ap (λ z. z -q billion *q scale *q (w *q v)) (sym (whole_mul weight wave)))
    (within_add (within_mul of_size of_wave) (within_mul of_weight (within_mul (within_self (nn_int 1_000_000_000)) small)))

-- ---- near a scale times an exact number: such sums add up
pub scaled_add : (a b : ℤ) (scale x y : ℚ) {error error' : ℚ} → Within (whole a -q scale *q x) error → Within (whole b -q scale *q y) error'
    → Within (whole (a +ℤ b) -q scale *q (x +q y)) (error +q error')
scaled_add a b scale x y {error} {error'} near near' =
    subst (λ z. Within (whole (a +ℤ b) -q z) (error +q error')) (solveq (x0 :* x1 :+ x0 :* x2) (x0 :* (x1 :+ x2)) (scale ∷ x ∷ y ∷ []) tt)
    (near_add a b (scale *q x) (scale *q y) near near')

module _ {A : Type 0} where
  -- a test of each row
  unfoldable pub all : (A → Bool) → List A → Bool
  all test [] = true
  all test (row ∷ rows) = test row && all test rows

  -- THE WEIGHTED SUM: rows near a scale times the exact ones add up to a sum near the scale times the exact one
  pub total_near : (test : A → Bool) (scale : ℚ) (value : A → ℤ) (exact error : A → ℚ)
      → ((row : A) → T (test row) → Within (whole (value row) -q scale *q exact row) (error row))
      → (rows : List A) → T (all test rows) → Within (whole (total value rows) -q scale *q totalq exact rows) (totalq error rows)
  unfolding all total totalq
  total_near test scale value exact error near [] h =
      subst (λ z. Within (nat 0 -q z) (nat 0)) (solveq k0 (x0 :* k0) (scale ∷ []) tt) (same_near (nat 0))
  total_near test scale value exact error near (row ∷ rows) h =
      let passed = and_yes (test row) (all test rows) h in
      scaled_add (value row) (total value rows) scale (exact row) (totalq exact rows) (near row passed.0)
      (total_near test scale value exact error near rows passed.1)

  -- the size of an exact sum
  pub total_within : (exact size : A → ℚ) → ((row : A) → Within (exact row) (size row)) → (rows : List A)
      → Within (totalq exact rows) (totalq size rows)
  unfolding totalq
  total_within exact size within [] = within_self (nn_int 0)
  total_within exact size within (row ∷ rows) = within_add (within row) (total_within exact size within rows)
