-- `numbers::whole::mul_div` meets its contract. Each local is mirrored once; the products by the base are bounded by the quotient.
use mathlib.Core.Path.{◌∙◌, ◌≡◌, ap, subst, sym}
use Prim.Native.Nat.{◌+◌, ◌^◌, ◌≤◌, ℕ}
use native.Mathlib.Nat.{le_trans}
use native.Mathlib.Omega.{arith}
use lib.Dec.{lit<}
use lib.IntN.{◌*ℤ◌, ◌+ℤ◌, nat_abs, pos, ℤ}
use mir.Syntax.{w64}
use mir.Val.{to_z}
use Rattle.arithmetic.specs.Floor.{◌modulo◌, ⌊◌÷◌⌋}
use Rattle.arithmetic.proofs.FloorLaws.{floor_small, left_small, modulo_below}
use Rattle.arithmetic.proofs.Sizes.{abs_mul, other_part}
use Rattle.numbers.proofs.Machine.{Mirror, ◌⊕◌, ◌⊖◌, ◌⊗◌, arg, bounded, fits, from_nat, kept, lit, nat_fits, shr_by, small_floor_gave}
use Rattle.numbers.proofs.WideProduct.{base, upper, upper_floor, wide_floor}
use Rattle.numbers.proofs.whole.mul_div.Goals as goal
use Rattle.numbers.proofs.whole.mul_div.Goals.{After-floor_div, After-floor_div-2, After-floor_div-3, After-floor_mod, After-floor_mod-2, Start}

module _ (s : Start) where
  abbrev c₀ : ℤ
  c₀ = s.args.c

  abbrev n₀ : ℤ
  n₀ = s.args.n

  abbrev d₀ : ℕ
  d₀ = s.args.d

  abbrev c_mirror : Mirror
  c_mirror = arg s.ranges.c s.requires.factor

  abbrev n_mirror : Mirror
  n_mirror = arg s.ranges.n s.requires.time

  abbrev upper_mirror : Mirror
  upper_mirror = kept (shr_by c_mirror base) tt

  abbrev top_mirror : Mirror
  top_mirror = kept (shr_by upper_mirror base) tt

  abbrev middle_mirror : Mirror
  middle_mirror = bounded (upper_mirror ⊖ kept (top_mirror ⊗ lit (pos base)) tt) (left_small upper_mirror.number (lit< tt))

  abbrev low_mirror : Mirror
  low_mirror = bounded (c_mirror ⊖ kept (upper_mirror ⊗ lit (pos base)) tt) (left_small c₀ (lit< tt))

  abbrev first_mirror : Mirror
  first_mirror = top_mirror ⊗ n_mirror

-- what a remainder by d gave, as a signed number: x is what was divided
module _ (s : Start) (x : Mirror) (r : ℕ) (e : r ≡ x.machine modulo s.args.d) where
  rest_is : r ≡ x.number modulo s.args.d
  rest_is = e ∙ ap (λ (z : ℤ). z modulo s.args.d) x.same

  rest_small : r ≤ 2 ^ 45
  rest_small = omega (arith, rest_is, modulo_below x.number s.requires.above, s.requires.divisor)

  abbrev rest_mirror : Mirror
  rest_mirror =
      record {
        machine = to_z w64 r;
        number = pos (x.number modulo s.args.d);
        most = 2 ^ 45;
        same = (from_nat rest_small tt).same ∙ ap pos rest_is;
        bound = subst (λ (m : ℕ). m ≤ 2 ^ 45) rest_is rest_small;
      }

module _ (c : After-floor_mod) where
  abbrev s₁ : Start
  s₁ = c.before

  abbrev first_rest : Mirror
  first_rest = rest_mirror s₁ (kept (first_mirror s₁) tt) c.floor_mod.result c.floor_mod.ensures

  abbrev second_mirror : Mirror
  second_mirror = kept (first_rest ⊗ lit (pos base)) tt ⊕ kept (kept (middle_mirror s₁) tt ⊗ n_mirror s₁) tt

module _ (c : After-floor_mod-2) where
  abbrev s₂ : Start
  s₂ = c.before.before

  abbrev second_rest : Mirror
  second_rest = rest_mirror s₂ (kept (second_mirror c.before) tt) c.floor_mod-2.result c.floor_mod-2.ensures

  abbrev third_mirror : Mirror
  third_mirror = kept (second_rest ⊗ lit (pos base)) tt ⊕ kept (kept (low_mirror s₂) tt ⊗ n_mirror s₂) tt

  -- the quotient by the upper digits
  abbrev U : ℤ
  U = ⌊ upper (c₀ s₂) (n₀ s₂) (d₀ s₂) s₂.requires.above *ℤ n₀ s₂ ÷ d₀ s₂ ⌋

  upper_times : nat_abs (U *ℤ pos base) ≤ 2 ^ 62 + 2 ^ 58
  upper_times =
      other_part (U *ℤ pos base) ⌊ third_mirror.number ÷ d₀ s₂ ⌋ ⌊ c₀ s₂ *ℤ n₀ s₂ ÷ d₀ s₂ ⌋ (wide_floor (c₀ s₂) (n₀ s₂) (d₀ s₂) s₂.requires.above)
      s₂.requires.quotient (le_trans (floor_small third_mirror.number (d₀ s₂)) third_mirror.bound)

  upper_small : nat_abs U ≤ 2 ^ 62
  upper_small = omega (arith, upper_times, abs_mul U (pos base))

  top_times : nat_abs (⌊ (kept (first_mirror s₂) tt).number ÷ d₀ s₂ ⌋ *ℤ pos base) ≤ 2 ^ 62 + (2 ^ 61 + 2 ^ 58)
  top_times =
      other_part (⌊ (kept (first_mirror s₂) tt).number ÷ d₀ s₂ ⌋ *ℤ pos base) ⌊ (second_mirror c.before).number ÷ d₀ s₂ ⌋ U
      (upper_floor (c₀ s₂) (n₀ s₂) (d₀ s₂) s₂.requires.above) upper_small
      (le_trans (floor_small (second_mirror c.before).number (d₀ s₂)) (second_mirror c.before).bound)

abbrev top_term : After-floor_div → Mirror
top_term c =
    bounded (small_floor_gave (kept (first_mirror (s₂ c.before)) tt) (d₀ (s₂ c.before)) c.floor_div.type_inv c.floor_div.ensures ⊗ lit (pos base))
    (top_times c.before)

module _ (c : After-floor_div-2) where
  abbrev m₂ : After-floor_mod-2
  m₂ = c.before.before

  abbrev upper_sum : Mirror
  upper_sum =
      bounded
      (kept (top_term c.before) tt
      ⊕ small_floor_gave (kept (second_mirror m₂.before) tt) (d₀ (s₂ m₂)) c.floor_div-2.type_inv c.floor_div-2.ensures)
      (subst (λ (z : ℤ). nat_abs z ≤ 2 ^ 62) (sym (upper_floor (c₀ (s₂ m₂)) (n₀ (s₂ m₂)) (d₀ (s₂ m₂)) (s₂ m₂).requires.above)) (upper_small m₂))

  abbrev upper_term : Mirror
  upper_term =
      bounded (kept upper_sum tt ⊗ lit (pos base))
      (subst (λ (z : ℤ). nat_abs (z *ℤ pos base) ≤ 2 ^ 62 + 2 ^ 58) (sym (upper_floor (c₀ (s₂ m₂)) (n₀ (s₂ m₂)) (d₀ (s₂ m₂)) (s₂ m₂).requires.above)) (upper_times m₂))

module _ (c : After-floor_div-3) where
  abbrev m₃ : After-floor_mod-2
  m₃ = m₂ c.before

  abbrev sum : Mirror
  sum =
      kept (upper_term c.before) tt
      ⊕ small_floor_gave (kept (third_mirror m₃) tt) (d₀ (s₂ m₃)) c.floor_div-3.type_inv c.floor_div-3.ensures

  is_quotient : sum.number ≡ ⌊ c₀ (s₂ m₃) *ℤ n₀ (s₂ m₃) ÷ d₀ (s₂ m₃) ⌋
  is_quotient =
      ap (λ (z : ℤ). z *ℤ pos base +ℤ ⌊ (third_mirror m₃).number ÷ d₀ (s₂ m₃) ⌋) (upper_floor (c₀ (s₂ m₃)) (n₀ (s₂ m₃)) (d₀ (s₂ m₃)) (s₂ m₃).requires.above)
      ∙ wide_floor (c₀ (s₂ m₃)) (n₀ (s₂ m₃)) (d₀ (s₂ m₃)) (s₂ m₃).requires.above

  abbrev result : Mirror
  result = bounded sum (subst (λ (z : ℤ). nat_abs z ≤ 2 ^ 61) (sym is_quotient) (s₂ m₃).requires.quotient)

pub overflow_mul-middle : goal.overflow_mul-middle
overflow_mul-middle c = fits (top_mirror (goal.at.overflow_mul-middle c).Start ⊗ lit (pos base)) tt

pub overflow_sub-middle : goal.overflow_sub-middle
overflow_sub-middle c = fits (middle_mirror (goal.at.overflow_sub-middle c).Start) tt

pub overflow_mul-low : goal.overflow_mul-low
overflow_mul-low c = fits (upper_mirror (goal.at.overflow_mul-low c).Start ⊗ lit (pos base)) tt

pub overflow_sub-low : goal.overflow_sub-low
overflow_sub-low c = fits (low_mirror (goal.at.overflow_sub-low c).Start) tt

pub overflow_mul-first : goal.overflow_mul-first
overflow_mul-first c = fits (first_mirror (goal.at.overflow_mul-first c).Start) tt

pub floor_mod-requires : goal.floor_mod-requires
floor_mod-requires c = c.requires.above

pub overflow_cast-second : goal.overflow_cast-second
overflow_cast-second c = nat_fits (rest_small (goal.at.overflow_cast-second c).Start (kept (first_mirror (goal.at.overflow_cast-second c).Start) tt) c.floor_mod.result c.floor_mod.ensures) tt

pub overflow_mul-second : goal.overflow_mul-second
overflow_mul-second c = fits (first_rest (goal.at.overflow_mul-second c).After-floor_mod ⊗ lit (pos base)) tt

pub overflow_mul-second-2 : goal.overflow_mul-second-2
overflow_mul-second-2 c = fits (kept (middle_mirror (goal.at.overflow_mul-second-2 c).Start) tt ⊗ n_mirror (goal.at.overflow_mul-second-2 c).Start) tt

pub overflow_add-second : goal.overflow_add-second
overflow_add-second c = fits (second_mirror (goal.at.overflow_add-second c).After-floor_mod) tt

pub floor_mod-requires-2 : goal.floor_mod-requires-2
floor_mod-requires-2 c = c.requires.above

pub overflow_cast-third : goal.overflow_cast-third
overflow_cast-third c = nat_fits (rest_small (s₂ (goal.at.overflow_cast-third c).After-floor_mod-2) (kept (second_mirror (goal.at.overflow_cast-third c).After-floor_mod) tt) c.floor_mod-2.result c.floor_mod-2.ensures) tt

pub overflow_mul-third : goal.overflow_mul-third
overflow_mul-third c = fits (second_rest (goal.at.overflow_mul-third c).After-floor_mod-2 ⊗ lit (pos base)) tt

pub overflow_mul-third-2 : goal.overflow_mul-third-2
overflow_mul-third-2 c = fits (kept (low_mirror (s₂ (goal.at.overflow_mul-third-2 c).After-floor_mod-2)) tt ⊗ n_mirror (s₂ (goal.at.overflow_mul-third-2 c).After-floor_mod-2)) tt

pub overflow_add-third : goal.overflow_add-third
overflow_add-third c = fits (third_mirror (goal.at.overflow_add-third c).After-floor_mod-2) tt

pub floor_div-requires : goal.floor_div-requires
floor_div-requires c = (s₂ (goal.at.floor_div-requires c).After-floor_mod-2).requires.above

pub overflow_mul-result : goal.overflow_mul-result
overflow_mul-result c = fits (top_term (goal.at.overflow_mul-result c).After-floor_div) tt

pub floor_div-requires-2 : goal.floor_div-requires-2
floor_div-requires-2 c = (s₂ (goal.at.floor_div-requires-2 c).After-floor_mod-2).requires.above

pub overflow_add-result : goal.overflow_add-result
overflow_add-result c = fits (upper_sum (goal.at.overflow_add-result c).After-floor_div-2) tt

pub overflow_mul-result-2 : goal.overflow_mul-result-2
overflow_mul-result-2 c = fits (upper_term (goal.at.overflow_mul-result-2 c).After-floor_div-2) tt

pub floor_div-requires-3 : goal.floor_div-requires-3
floor_div-requires-3 c = (s₂ (m₂ (goal.at.floor_div-requires-3 c).After-floor_div-2)).requires.above

pub overflow_add-result-2 : goal.overflow_add-result-2
overflow_add-result-2 c = fits (result (goal.at.overflow_add-result-2 c).After-floor_div-3) tt

pub returns : goal.returns
returns c = (kept (result (goal.at.returns c).After-floor_div-3) tt).same ∙ is_quotient (goal.at.returns c).After-floor_div-3
