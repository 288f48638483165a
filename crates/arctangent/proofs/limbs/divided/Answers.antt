-- `arctangent::limbs::divided` meets its contract.
use mathlib.Core.Path.{◌∙◌, ◌≡◌, ap, refl, subst, subst⁻¹, sym}
use Prim.Native.Nat.{◌*◌, ◌+◌, ◌/◌, ◌<◌, ◌^◌, ◌≤◌, ℕ}
use native.Mathlib.Nat.{le_of_lt, le_trans}
use native.Mathlib.Omega.{arith}
use lib.IntN.{◌*ℤ◌, ◌+ℤ◌, nat_abs, pos, ℤ}
use lib.Signed.{mag}
use mir.Syntax.{w64}
use mir.Val.{to_z}
use Rattle.arithmetic.specs.Floor.{◌modulo◌, ⌊◌÷◌⌋}
use Rattle.arithmetic.proofs.FloorLaws.{floor_small, modulo_below}
use Rattle.arctangent.specs.Limbs.{limb}
use Rattle.arctangent.specs.declared.limbs.Limbs.{Limbs}
use Rattle.arctangent.proofs.LimbLaws.{digit_most, digit_proper, divided_digit, divided_value, low_is, low_small}
use Rattle.numbers.proofs.Machine.{Mirror, ◌⊕◌, ◌⊗◌, fits, from_nat, gave, kept, lit, nat_fits, told}
use Rattle.arctangent.proofs.limbs.divided.Goals as goal
use Rattle.arctangent.proofs.limbs.divided.Goals.{After-floor_div-digit, After-floor_div-quotient, After-floor_mod, Start}

module _ (s : Start) where
  abbrev a : Limbs
  a = s.args.a

  abbrev p : ℕ
  p = s.args.p

  abbrev above : 0 < p
  above = s.requires.1.0

  abbrev n : ℕ
  n = mag a.low

  abbrev high : Mirror
  high = told {r = a.high} refl s.requires.0.room tt

  -- the low limb is the number n
  abbrev low : Mirror
  low = told {r = a.low} (low_is a s.requires.0) (le_of_lt (low_small a s.requires.0)) tt

abbrev s₁ : After-floor_div-quotient → Start
s₁ c = c.before.before.before

abbrev quotient : After-floor_div-quotient → Mirror
quotient c =
    gave c.floor_div-quotient.type_inv (c.floor_div-quotient.ensures ∙ ap (λ (z : ℤ). ⌊ z ÷ p (s₁ c) ⌋) (high (s₁ c)).same)
    (le_trans (floor_small (a (s₁ c)).high (p (s₁ c))) (s₁ c).requires.0.room)

module _ (c : After-floor_mod) where
  abbrev s : Start
  s = s₁ c.before

  digit_is : c.floor_mod.result ≡ (a s).high modulo p s
  digit_is = c.floor_mod.ensures ∙ ap (λ (z : ℤ). z modulo p s) (high s).same

  digit_small : c.floor_mod.result ≤ 2 ^ 30
  digit_small = omega (arith, digit_is, modulo_below (a s).high (above s), s.requires.1.1)

  abbrev digit : Mirror
  digit =
      record {
        machine = to_z w64 c.floor_mod.result;
        number = pos ((a s).high modulo p s);
        most = 2 ^ 30;
        same = (from_nat digit_small tt).same ∙ ap pos digit_is;
        bound = subst (λ (m : ℕ). m ≤ 2 ^ 30) digit_is digit_small;
      }

  abbrev sum : Mirror
  sum = kept (digit ⊗ lit (pos limb)) tt ⊕ low s

module _ (c : After-floor_div-digit) where
  abbrev m : After-floor_mod
  m = c.before

  abbrev last : Mirror
  last =
      gave c.floor_div-digit.type_inv (c.floor_div-digit.ensures ∙ ap (λ (z : ℤ). ⌊ z ÷ p (s m) ⌋) (kept (sum m) tt).same)
      (le_trans (floor_small (sum m).number (p (s m))) (sum m).bound)

pub overflow_cast-rest : goal.overflow_cast-rest
overflow_cast-rest c = nat_fits (digit_small (goal.at.overflow_cast-rest c).After-floor_mod) tt

pub overflow_mul-rest : goal.overflow_mul-rest
overflow_mul-rest c = fits (digit (goal.at.overflow_mul-rest c).After-floor_mod ⊗ lit (pos limb)) tt

pub returns : goal.returns
returns c =
    let t = s (m (goal.at.returns c).After-floor_div-digit) in
    let h = (a t).high in
    let k = low_small (a t) t.requires.0 in (
      (λ i. (quotient (goal.at.returns c).After-floor_div-quotient).same i *ℤ pos limb +ℤ (last (goal.at.returns c).After-floor_div-digit).same i)
          ∙ divided_value h (n t) (p t) (above t) k
          ∙ ap (λ (z : ℤ). ⌊ h *ℤ pos limb +ℤ z ÷ p t ⌋) (sym (low_is (a t) t.requires.0)),
      digit_proper ((h modulo p t * limb + n t) / p t) ((last (goal.at.returns c).After-floor_div-digit).same ∙ divided_digit h (n t) (p t) (above t) k) (digit_most h (n t) (p t) (above t) k)
          (subst⁻¹ (λ (z : ℤ). nat_abs z ≤ 2 ^ 60) (quotient (goal.at.returns c).After-floor_div-quotient).same (quotient (goal.at.returns c).After-floor_div-quotient).bound),
    )
