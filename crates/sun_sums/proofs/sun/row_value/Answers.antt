-- `sun_sums::sun::row_value` meets its contract.
use mathlib.Core.List.{List}
use mathlib.Core.Path.{◌∙◌, ◌≡◌, ap, subst⁻¹, sym}
use Prim.Native.Nat.{◌≤◌, ℕ}
use lib.IntN.{pos, ℤ}
use Rattle.number_rules.specs.Angle.{full_turn}
use Rattle.number_rules.specs.Sine.{cosine}
use Rattle.numbers.proofs.Machine.{Mirror, ◌⊗◌, any, fits, floor_gave, from_nat, gave, kept, lit, nat_fits}
use Rattle.number_rules.proofs.SineSize.{cosine_most}
use Rattle.sum_rules.specs.Sun.{row_A, row_B, row_C, row_angle, row_value}
use Rattle.sun_sums.specs.SunRange.{SmallRay}
use Rattle.sun_sums.proofs.SunLaws.{above, constant_value, row_angle_small}
use Rattle.sun_sums.proofs.sun.row_value.Goals as goal
use Rattle.sun_sums.proofs.sun.row_value.Goals.{After-cosine, After-row_angle, Start}

module _ (s : Start) where
  abbrev row : List ℕ
  row = s.args.row

  abbrev small : SmallRay row
  small = s.requires.1

  abbrev constant : Mirror
  constant = lit (pos 100) ⊗ from_nat {n = row_A row} small.constant tt

angle_is : (c : After-row_angle) → c.row_angle.result ≡ row_angle c.args.n (row_B (row (goal.at.After-row_angle c).Start)) (row_C (row (goal.at.After-row_angle c).Start))
angle_is c =
    c.row_angle.ensures ∙ ap (λ (z : ℤ). row_angle z (row_B (row (goal.at.After-row_angle c).Start)) (row_C (row (goal.at.After-row_angle c).Start)))
    (any c.ranges.n).same

angle_small : (c : After-row_angle) → c.row_angle.result ≤ full_turn
angle_small c =
    subst⁻¹ (λ (a : ℕ). a ≤ full_turn) (angle_is c)
    (row_angle_small c.args.n (row_B (row (goal.at.After-row_angle c).Start)) (row_C (row (goal.at.After-row_angle c).Start)))

abbrev product : After-cosine → Mirror
product c =
    from_nat {n = row_A (row (goal.at.After-cosine c).Start)} ((small (goal.at.After-cosine c).Start).moving (above (row_B (row (goal.at.After-cosine c).Start)) (row_C (row (goal.at.After-cosine c).Start)) c.if-b-c-eq0.false)) tt
    ⊗ gave c.cosine.type_inv (c.cosine.ensures ∙ ap cosine ((from_nat (angle_small (goal.at.After-cosine c).After-row_angle) tt).same ∙ ap pos (angle_is (goal.at.After-cosine c).After-row_angle)))
    (cosine_most (pos (row_angle c.args.n (row_B (row (goal.at.After-cosine c).Start)) (row_C (row (goal.at.After-cosine c).Start)))))

pub overflow_cast-row_angle : goal.overflow_cast-row_angle
overflow_cast-row_angle c = nat_fits (angle_small (goal.at.overflow_cast-row_angle c).After-row_angle) tt

pub returns-then-b-c-eq0 : goal.returns-then-b-c-eq0
returns-then-b-c-eq0 c = (kept (constant (goal.at.returns-then-b-c-eq0 c).Start) tt).same ∙ sym (constant_value c.args.n (row (goal.at.returns-then-b-c-eq0 c).Start) c.if-b-c-eq0.true)

pub returns-else-b-c-eq0 : goal.returns-else-b-c-eq0
unfolding row_value
returns-else-b-c-eq0 c = (floor_gave (kept (product (goal.at.returns-else-b-c-eq0 c).After-cosine) tt) 10_000_000 c.floor_div.type_inv c.floor_div.ensures).same

pub overflow_mul-a : goal.overflow_mul-a
overflow_mul-a c = fits (product (goal.at.overflow_mul-a c).After-cosine) tt
