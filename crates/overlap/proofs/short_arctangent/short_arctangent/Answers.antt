-- `overlap::short_arctangent::short_arctangent` meets its contract.
use mathlib.Core.Path.{◌∙◌, ap, ap₂}
use Prim.Native.Nat.{◌-◌, min}
use native.Mathlib.Omega.{arith}
use lib.IntN.{nat_abs, ℤ}
use Rattle.number_rules.specs.Angle.{full_turn}
use Rattle.numbers.proofs.Machine.{Mirror, any, asked, gave, to_nat}
use Rattle.sky_vectors.specs.Horizon.{slope}
use Rattle.sky_vectors.proofs.SkyMirror.{slope_most, slope_natural}
use Rattle.overlap.specs.ShortArctangent.{short_arctangent}
use Rattle.overlap.proofs.ShortWayLaws.{shorter}
use Rattle.overlap.proofs.short_arctangent.short_arctangent.Goals as goal
use Rattle.overlap.proofs.short_arctangent.short_arctangent.Goals.{After-slope-angle, Start}

module _ (c : After-slope-angle) where
  abbrev s : Start
  s = c.before

  abbrev found : Mirror
  found =
      gave {v = slope s.args.y s.args.x} c.slope-angle.type_inv (c.slope-angle.ensures ∙ ap₂ slope (any s.ranges.y).same (any s.ranges.x).same)
      (slope_most s.args.y s.args.x)

pub overflow_cast-angle : goal.overflow_cast-angle
overflow_cast-angle c =
    let k = (goal.at.overflow_cast-angle c).After-slope-angle in
    to_nat ((found k).same ∙ slope_natural (s k).args.y (s k).args.x) (omega (arith, (found k).bound))

pub overflow_sub-angle : goal.overflow_sub-angle
overflow_sub-angle c = asked (found (goal.at.overflow_sub-angle c).After-slope-angle) tt

pub returns : goal.returns
unfolding short_arctangent
returns c =
    let k = (goal.at.returns c).After-slope-angle in
    c.min.ensures ∙ ap (λ (z : ℤ). min (nat_abs z) (full_turn - nat_abs z)) (found k).same ∙ shorter (nat_abs (found k).number)
