-- `arctangent::turning::turned_angle` meets its contract.
use mathlib.Core.Path.{◌∙◌, ◌≡◌, ap, refl, subst⁻¹}
use Prim.Native.Nat.{◌*◌, ◌^◌}
use lib.IntN.{ℤ}
use Rattle.number_rules.specs.Angle.{reduced}
use Rattle.arctangent.specs.Arctangent.{angle_of, start, steps}
use Rattle.arctangent.specs.Turning.{Sized, turning}
use Rattle.arctangent.specs.declared.turning.Turning.{Turning}
use Rattle.arctangent.proofs.ArctangentLaws.{start_sized}
use Rattle.numbers.proofs.Machine.{arg, told}
use Rattle.arctangent.proofs.turning.turned_angle.Goals as goal

pub turned-t-requires : goal.turned-t-requires
turned-t-requires g c =
    let t = g.T.Coordinate in
    let x = arg c.ranges.x c.requires.1 in
    let y = arg c.ranges.y c.requires.0 in
    let start_is : turning t.number c.started.result ≡ start c.args.y c.args.x = c.started.ensures.0 ∙ (λ i. start (y.same i) (x.same i)) in
    (c.started.ensures.1, subst⁻¹ (Sized (t.largest * 1024) (2 ^ 50)) start_is (start_sized c.args.y c.args.x c.requires.0 c.requires.1))

pub returns : goal.returns
unfolding angle_of
returns g c =
    let x = arg c.ranges.x c.requires.1 in
    let y = arg c.ranges.y c.requires.0 in
    c.new.ensures
    ∙ ap reduced
    ((told {r = c.turned-t.result.angle} refl c.turned-t.ensures.1 tt).same
    ∙ ap (λ (u : Turning ℤ). u.angle) (c.turned-t.ensures.0 ∙ ap (steps 30) (c.started.ensures.0 ∙ (λ i. start (y.same i) (x.same i)))))
