-- `arctangent::limbs::LimbsCoordinate::plus_times` meets its contract.
use mathlib.Core.Path.{◌∙◌, ◌≡◌, refl, subst⁻¹}
use Prim.Native.Nat.{◌^◌, ◌≤◌}
use lib.Dec.{lit<}
use lib.IntN.{◌*ℤ◌, ◌+ℤ◌, nat_abs, pos, ℤ}
use Rattle.arithmetic.specs.Floor.{◌modulo◌}
use Rattle.arithmetic.proofs.FloorLaws.{left_over, left_small, modulo_below}
use Rattle.arctangent.specs.Limbs.{Proper, limb, value}
use Rattle.arctangent.specs.declared.limbs.Limbs.{Limbs}
use Rattle.arctangent.proofs.LimbLaws.{digit_proper, low_most, room_of, sum_value}
use Rattle.numbers.proofs.Machine.{Mirror, ◌⊕◌, ◌⊖◌, ◌⊗◌, arg, fits, kept, lit, shr_by, told}
use Rattle.arctangent.proofs.limbs.LimbsCoordinate.plus_times.Goals as goal
use Rattle.arctangent.proofs.limbs.LimbsCoordinate.plus_times.Goals.{After-struct_told-1, After-struct_told-2-1, After-struct_told-3-1, After-struct_told-4-1, Start}

module _ (s : Start) where
  abbrev a : Limbs
  a = s.args.self

  abbrev b : Limbs
  b = s.args.other

  abbrev a_proper : Proper a
  a_proper = s.requires.0

  abbrev b_proper : Proper b
  b_proper = s.requires.1

  abbrev c : Mirror
  c = arg s.ranges.c s.requires.2

  abbrev a_low : Mirror
  a_low = told {r = a.low} refl (low_most a a_proper) tt

  abbrev b_low : Mirror
  b_low = told {r = b.low} refl (low_most b b_proper) tt

  abbrev a_high : Mirror
  a_high = told {r = a.high} refl a_proper.room tt

  abbrev b_high : Mirror
  b_high = told {r = b.high} refl b_proper.room tt

  abbrev sum : Mirror
  sum = a_low ⊕ kept (c ⊗ b_low) tt

  abbrev carry : Mirror
  carry = kept (shr_by (kept sum tt) limb) tt

  abbrev highs : Mirror
  highs = a_high ⊕ kept (c ⊗ b_high) tt

  abbrev high : Mirror
  high = kept highs tt ⊕ carry

  abbrev low : Mirror
  low = kept sum tt ⊖ kept (carry ⊗ lit (pos limb)) tt

  value_is : high.number *ℤ pos limb +ℤ low.number ≡ value a +ℤ c.number *ℤ value b
  value_is = sum_value a.high a.low c.number b.high b.low carry.number

  digit_is : low.number ≡ pos (sum.number modulo limb)
  digit_is = left_over sum.number (lit< tt)

  high_room : nat_abs high.number ≤ 2 ^ 60
  high_room =
      room_of high.number low.number (subst⁻¹ (λ (z : ℤ). nat_abs z ≤ 2 ^ 83) value_is s.requires.3) (left_small sum.number {d = limb} (lit< tt))

abbrev s₁ : After-struct_told-1 → Start
s₁ c = (goal.at.After-struct_told-1 c).Start

abbrev s₂ : After-struct_told-2-1 → Start
s₂ c = s₁ (goal.at.After-struct_told-2-1 c).After-struct_told-1

abbrev s₃ : After-struct_told-3-1 → Start
s₃ c = s₂ (goal.at.After-struct_told-3-1 c).After-struct_told-2-1

abbrev s₄ : After-struct_told-4-1 → Start
s₄ c = s₃ (goal.at.After-struct_told-4-1 c).After-struct_told-3-1

pub overflow_add-sum : goal.overflow_add-sum
overflow_add-sum k = fits (sum (s₂ (goal.at.overflow_add-sum k).After-struct_told-2-1)) tt

pub overflow_add-result : goal.overflow_add-result
overflow_add-result k = fits (highs (s₄ (goal.at.overflow_add-result k).After-struct_told-4-1)) tt

pub overflow_add-result-2 : goal.overflow_add-result-2
overflow_add-result-2 k = fits (high (s₄ (goal.at.overflow_add-result-2 k).After-struct_told-4-1)) tt

pub overflow_mul-result-2 : goal.overflow_mul-result-2
overflow_mul-result-2 k = fits (carry (s₄ (goal.at.overflow_mul-result-2 k).After-struct_told-4-1) ⊗ lit (pos limb)) tt

pub overflow_sub-result : goal.overflow_sub-result
overflow_sub-result k = fits (low (s₄ (goal.at.overflow_sub-result k).After-struct_told-4-1)) tt

pub returns : goal.returns
returns k =
    let s = s₄ (goal.at.returns k).After-struct_told-4-1 in (
      (λ i. (kept (high s) tt).same i *ℤ pos limb +ℤ (kept (low s) tt).same i) ∙ value_is s,
      digit_proper ((sum s).number modulo limb) ((kept (low s) tt).same ∙ digit_is s) (modulo_below (sum s).number (lit< tt))
          (subst⁻¹ (λ (h : ℤ). nat_abs h ≤ 2 ^ 60) (kept (high s) tt).same (high_room s)),
    )
