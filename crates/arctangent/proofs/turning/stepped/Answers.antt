-- `arctangent::turning::stepped` meets its contract.
use mathlib.Core.List.{[], ◌∷◌}
use mathlib.Core.Path.{◌∙◌, ◌≡◌, refl, sym}
use Prim.Native.Nat.{◌<◌, ◌^◌, ◌≤◌, ℕ}
use native.Mathlib.Nat.{le_trans}
use lib.IntN.{◌*ℤ◌, ◌+ℤ◌, ◌-ℤ◌, nat_abs, neg_ℤ, pos, ℤ}
use lib.Signed.{mag}
use Rattle.arithmetic.specs.Floor.{⌊◌÷◌⌋}
use Rattle.arithmetic.proofs.Integers.{solveℤ}
use Rattle.arithmetic.proofs.Solver.{◌:*◌, ◌:+◌, ◌:-◌, neg', x0, x1, x2}
use Rattle.number_rules.specs.ArctangentTable.{turn_by}
use Rattle.numbers.specs.Whole.{sign}
use Rattle.number_rules.proofs.ArctangentTableLaws.{turn_small}
use Rattle.numbers.proofs.Machine.{Mirror, ◌⊕◌, ◌⊗◌, asked, fits, gave, kept, minus, told}
use Rattle.numbers.proofs.SignLaws.{sign_small}
use Rattle.arctangent.specs.Arctangent.{step}
use Rattle.arctangent.specs.Turning.{turning}
use Rattle.arctangent.specs.declared.turning.Turning.{Turning}
use Rattle.arctangent.proofs.ArctangentLaws.{step_signed, sum_room}
use Rattle.arctangent.proofs.turning.stepped.Goals as goal

taken : (y s d : ℤ) → y +ℤ neg_ℤ s *ℤ d ≡ y -ℤ s *ℤ d
taken y s d = solveℤ (x0 :+ neg' x1 :* x2) (x0 :- x1 :* x2) (y ∷ s ∷ d ∷ []) tt

-- r is the sign of y, as a call gave it
module _ (y : ℤ) {r : ℤ} (f : mag r < 2 ^ 63) (e : r ≡ sign y) where
  abbrev c : Mirror
  c = gave {r = r} {v = sign y} f e (sign_small y)

  abbrev c' : Mirror
  c' = kept (minus c) tt

  -- the angle a, and what step k adds to it
  module _ (a : ℤ) (k : ℕ) {t : ℤ} (l : nat_abs a ≤ 2 ^ 60) (g : t ≡ pos (turn_by k)) (h : k < 30) where
    abbrev angle : Mirror
    angle = told {r = a} refl l tt ⊕ kept (c ⊗ told g (turn_small k h) tt) tt

    -- what the calls gave, and step k
    step_is : (x : ℤ) {u v dx dy : ℤ} → dx ≡ ⌊ y ÷ 2 ^ k ⌋ → dy ≡ ⌊ x ÷ 2 ^ k ⌋ → u ≡ x +ℤ c.machine *ℤ dx → v ≡ y +ℤ c'.machine *ℤ dy
        → ◌≡◌ {A = Turning ℤ} (record { x = u; y = v; angle = (kept angle tt).machine }) (step k (record { x = x; y = y; angle = a }))
    step_is x p q u_is v_is =
        (λ i. record {
          x = (u_is ∙ (λ j. x +ℤ c.same j *ℤ p j)) i;
          y = (v_is ∙ (λ j. y +ℤ c'.same j *ℤ q j) ∙ taken y (sign y) ⌊ x ÷ 2 ^ k ⌋) i;
          angle = (kept angle tt).same i;
        })
        ∙ sym (step_signed k (record { x = x; y = y; angle = a }))

pub plus_times-requires-2 : goal.plus_times-requires-2
plus_times-requires-2 g c₀ =
    let s = turning g.T.Coordinate.number c₀.args.s in
    let size = c₀.requires.3 in
    let small = asked (c' s.y c₀.sign-c.type_inv c₀.sign-c.ensures) {k = 1} tt in
    (c₀.requires.2.1, c₀.floored-dy.ensures.1.0, small, sum_room s.y (g.T.Coordinate.number c₀.floored-dy.result) _ size.y_size (le_trans c₀.floored-dy.ensures.1.1 size.x_size) small)

pub overflow_add-result : goal.overflow_add-result
overflow_add-result g c₀ =
    fits (angle (g.T.Coordinate.number c₀.args.s.y) c₀.sign-c.type_inv c₀.sign-c.ensures c₀.args.s.angle c₀.args.k c₀.requires.3.angle_size c₀.requires.1 c₀.requires.0) tt

pub returns : goal.returns
returns g c₀ =
    let s = turning g.T.Coordinate.number c₀.args.s in (
      step_is s.y c₀.sign-c.type_inv c₀.sign-c.ensures s.angle c₀.args.k c₀.requires.3.angle_size c₀.requires.1 c₀.requires.0 s.x c₀.floored-dx.ensures.0
          c₀.floored-dy.ensures.0 c₀.plus_times.ensures.0 c₀.plus_times-2.ensures.0,
      (c₀.plus_times.ensures.1, c₀.plus_times-2.ensures.1),
    )
