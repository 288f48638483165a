-- `overlap::overlap::piece` meets its contract.
use mathlib.Core.Path.{◌∙◌, ◌≡◌, ap, ap₂, subst⁻¹}
use Prim.Native.Nat.{◌*◌, ◌/◌, ◌≤◌, ℕ}
use native.Mathlib.Omega.{arith}
use lib.IntN.{pos, ◌*ℤ◌, ◌-ℤ◌}
use Rattle.arithmetic.specs.Floor.{⌊◌÷◌⌋}
use Rattle.number_rules.specs.Angle.{half_turn}
use Rattle.number_rules.specs.Sine.{sine}
use Rattle.numbers.proofs.Machine.{Mirror, ◌⊖◌, ◌⊗◌, fits, floor_gave, from_nat, gave, kept, lit, nat_fits}
use Rattle.number_rules.proofs.SineSize.{sine_most}
use Rattle.overlap.specs.Overlap.{half_angle, piece}
use Rattle.overlap.specs.ShortArctangent.{short_arctangent}
use Rattle.overlap.proofs.OverlapLaws.{chord_fits, diameter_most, half_angle_most, half_chord_most}
use Rattle.overlap.proofs.overlap.piece.Goals as goal
use Rattle.overlap.proofs.overlap.piece.Goals.{After-floor_div, After-root-half_chord, After-short_arctangent-half_angle, After-sine-sine, Start}

module _ (s : Start) where
  abbrev r : ℕ
  r = s.args.radius

  abbrev k : ℕ
  k = s.args.height

  abbrev from_centre : Mirror
  from_centre =
      let l : k ≤ diameter_most = omega arith in
      from_nat {n = r} s.requires.0 tt ⊖ from_nat {n = k} l tt

module _ (c : After-root-half_chord) where
  chord_most : c.root-half_chord.result ≤ diameter_most
  chord_most = subst⁻¹ (λ (n : ℕ). n ≤ diameter_most) c.root-half_chord.ensures (half_chord_most (r c.before) (k c.before) c.requires.0 c.requires.1)

  abbrev chord : Mirror
  chord = from_nat chord_most tt

module _ (c : After-short_arctangent-half_angle) where
  abbrev from : Start
  from = c.before.before

  angle_is : c.short_arctangent-half_angle.result ≡ half_angle (r from) (k from)
  unfolding half_angle
  angle_is =
      c.short_arctangent-half_angle.ensures
      ∙ ap₂ short_arctangent ((chord c.before).same ∙ ap pos c.root-half_chord.ensures) (kept (from_centre from) tt).same

  angle_most : c.short_arctangent-half_angle.result ≤ half_turn
  angle_most = subst⁻¹ (λ (n : ℕ). n ≤ half_turn) angle_is (half_angle_most (r from) (k from))

  twice_most : 2 * c.short_arctangent-half_angle.result ≤ 36_000_000_000
  twice_most = omega (arith, angle_most)

  part_most : c.short_arctangent-half_angle.result / 18 ≤ 1_000_000_000
  part_most = omega (arith, angle_most)

abbrev sine_twice : After-sine-sine → Mirror
sine_twice c =
    let ω = half_angle (r (from c.before)) (k (from c.before)) in
    gave {v = sine (pos (2 * ω))} c.sine-sine.type_inv
    (c.sine-sine.ensures ∙ ap sine ((from_nat (twice_most c.before) tt).same ∙ ap (λ (n : ℕ). pos (2 * n)) (angle_is c.before)))
    (sine_most (pos (2 * ω)))

abbrev product : After-sine-sine → Mirror
product c = lit (pos 159_154_943) ⊗ sine_twice c

abbrev result : After-floor_div → Mirror
result c =
    from_nat (part_most c.before.before) tt
    ⊖ floor_gave (kept (product c.before) tt) 1_000_000_000 c.floor_div.type_inv c.floor_div.ensures

pub overflow_mul-height : goal.overflow_mul-height
overflow_mul-height c = omega (arith, chord_fits (r (goal.at.overflow_mul-height c).Start) (k (goal.at.overflow_mul-height c).Start) c.requires.0 c.requires.1)

pub overflow_cast-half_chord : goal.overflow_cast-half_chord
overflow_cast-half_chord c = nat_fits (chord_most (goal.at.overflow_cast-half_chord c).After-root-half_chord) tt

pub overflow_sub-radius-2 : goal.overflow_sub-radius-2
overflow_sub-radius-2 c = fits (from_centre (goal.at.overflow_sub-radius-2 c).Start) tt

pub overflow_mul-half_angle : goal.overflow_mul-half_angle
overflow_mul-half_angle c = omega (arith, angle_most (goal.at.overflow_mul-half_angle c).After-short_arctangent-half_angle)

pub overflow_cast-half_angle : goal.overflow_cast-half_angle
overflow_cast-half_angle c = nat_fits (twice_most (goal.at.overflow_cast-half_angle c).After-short_arctangent-half_angle) tt

pub overflow_cast-result : goal.overflow_cast-result
overflow_cast-result c = nat_fits (part_most (goal.at.overflow_cast-result c).After-short_arctangent-half_angle) tt

pub overflow_mul-sine : goal.overflow_mul-sine
overflow_mul-sine c = fits (product (goal.at.overflow_mul-sine c).After-sine-sine) tt

pub overflow_sub-result : goal.overflow_sub-result
overflow_sub-result c = fits (result (goal.at.overflow_sub-result c).After-floor_div) tt

pub returns : goal.returns
unfolding piece
returns c =
    let s = (goal.at.returns c).After-short_arctangent-half_angle in
    let ω = half_angle (r (from s)) (k (from s)) in
    (kept (result (goal.at.returns c).After-floor_div) tt).same
    ∙ ap (λ (n : ℕ). pos (n / 18) -ℤ ⌊ pos 159_154_943 *ℤ sine (pos (2 * ω)) ÷ 1_000_000_000 ⌋) (angle_is s)
