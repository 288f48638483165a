-- `arctangent::turning::turned` meets its contract. The invariant: after k steps the pair is `steps k` of the first one.
use mathlib.Core.Path.{◌∙◌, ◌≡◌, ap, refl, subst⁻¹}
use Prim.Native.Nat.{◌*◌, ◌<◌, ◌^◌, ℕ}
use native.Mathlib.Omega.{arith}
use lib.Dec.{lit≤}
use lib.IntN.{pos}
use lib.ListN.{get_or-map}
use Rattle.number_rules.specs.ArctangentTable.{arctangents}
use Rattle.number_rules.proofs.ArctangentTableLaws.{turn_small}
use Rattle.numbers.proofs.Machine.{told}
use Rattle.arctangent.specs.Arctangent.{step, steps}
use Rattle.arctangent.specs.Turning.{Sized, turning}
use Rattle.arctangent.proofs.ArctangentLaws.{steps_next, steps_sized}
use Rattle.arctangent.proofs.turning.turned.Goals as goal

pub loop-k-init : goal.loop-k-init
unfolding steps
loop-k-init g c = (refl, c.requires.0)

pub stepped-r-requires : goal.stepped-r-requires
unfolding arctangents
stepped-r-requires g c =
    let t = g.T.Coordinate in
    let k = c.loop-k.k in
    let h : k < 30 = c.loop-k-test.true in (
      h,
      (told (get_or-map pos arctangents k 0) (turn_small k h) tt).same,
      c.loop-k.invariant.1,
      subst⁻¹ (Sized t.room (2 ^ 60)) c.loop-k.invariant.0 (steps_sized (t.largest * 1024) t.room k (turning t.number c.args.s) g.met.T.Coordinate.enough (omega arith) c.requires.1),
    )

pub loop-k-preserved : goal.loop-k-preserved
loop-k-preserved g c =
    let number = g.T.Coordinate.number in
    (c.stepped-r.ensures.0 ∙ ap (step c.loop-k.k) c.loop-k.invariant.0 ∙ steps_next c.loop-k.k (turning number c.args.s), c.stepped-r.ensures.1)

pub returns : goal.returns
returns g c =
    let t = g.T.Coordinate in
    let first = turning t.number c.args.s in
    let e : turning t.number c.loop-k.r ≡ steps 30 first = c.loop-k.invariant.0 ∙ ap (λ (k : ℕ). steps k first) (omega arith) in
    (e, (subst⁻¹ (Sized t.room (2 ^ 60)) e (steps_sized (t.largest * 1024) t.room 30 first g.met.T.Coordinate.enough (lit≤ tt) c.requires.1)).angle_size)
