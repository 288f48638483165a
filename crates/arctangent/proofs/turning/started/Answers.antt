-- `arctangent::turning::started` meets its contract.
use mathlib.Core.List.{[], ◌∷◌}
use mathlib.Core.Path.{◌∙◌, ◌≡◌, ap, subst⁻¹}
use Prim.Native.Nat.{◌*◌, ◌≤◌, ℕ}
use native.Mathlib.Nat.{le_refl, le_trans}
use native.Mathlib.Omega.{arith}
use lib.Dec.{lit≤}
use lib.IntN.{◌*ℤ◌, ◌+ℤ◌, nat_abs, negsuc, neg_ℤ, pos, ℤ}
use Rattle.arithmetic.proofs.Integers.{solveℤ}
use Rattle.arithmetic.proofs.Sizes.{mul_bound}
use Rattle.arithmetic.proofs.Solver.{◌:*◌, ◌:+◌, con, k0, neg', x0}
use Rattle.number_rules.specs.Angle.{half_turn}
use Rattle.arctangent.specs.Turning.{grown}
use Rattle.arctangent.proofs.ArctangentLaws.{first_room, start_left, start_right, sum_room}
use Rattle.numbers.proofs.Machine.{Mirror, arg, less, lit, not_less}
use Rattle.arctangent.proofs.turning.started.Goals as goal

-- a number times 1024 in some coordinate, as a call gave it
scaled_is : {v : ℤ} (z : Mirror) → v ≡ z.machine *ℤ pos 1024 → v ≡ z.number *ℤ pos 1024
scaled_is z e = e ∙ ap (λ (n : ℤ). n *ℤ pos 1024) z.same

scaled_room : {v : ℤ} (z : Mirror) {m : ℕ} → v ≡ z.machine *ℤ pos 1024 → grown (z.most * 1024) 30 ≤ m → nat_abs v ≤ m
scaled_room z {m} e h =
    subst⁻¹ (λ (w : ℤ). nat_abs w ≤ m) (scaled_is z e) (le_trans (mul_bound z.number (pos 1024) z.bound (le_refl 1024)) (first_room (z.most * 1024) h))

-- zero less it
negated : {v w zero : ℤ} (z : Mirror) → zero ≡ pos 0 → v ≡ z.machine *ℤ pos 1024 → w ≡ zero +ℤ negsuc 0 *ℤ v → w ≡ neg_ℤ (z.number *ℤ pos 1024)
negated {v} z none e f =
    f ∙ (λ i. none i +ℤ negsuc 0 *ℤ scaled_is z e i)
    ∙ solveℤ (k0 :+ con (negsuc 0) :* (x0 :* con (pos 1024))) (neg' (x0 :* con (pos 1024))) (z.number ∷ []) tt

negated_room : {v zero : ℤ} (z : Mirror) {m : ℕ} → zero ≡ pos 0 → v ≡ z.machine *ℤ pos 1024 → grown (z.most * 1024) 30 ≤ m → nat_abs (zero +ℤ negsuc 0 *ℤ v) ≤ 2 * m
negated_room {v} {zero} z {m} none e h = sum_room zero v (negsuc 0) (subst⁻¹ (λ (w : ℤ). nat_abs w ≤ m) none (omega arith)) (scaled_room z e h) (lit≤ tt)

pub plus_times-requires : goal.plus_times-requires
plus_times-requires g c =
    (c.scaled-zero.ensures.1, c.scaled-xs.ensures.1, lit≤ tt, negated_room (arg c.ranges.x c.requires.1) c.scaled-zero.ensures.0 c.scaled-xs.ensures.0 g.met.T.Coordinate.enough)

pub plus_times-requires-then-x-lt0 : goal.plus_times-requires-then-x-lt0
plus_times-requires-then-x-lt0 g c =
    (c.scaled-zero.ensures.1, c.scaled-ys.ensures.1, lit≤ tt, negated_room (arg c.ranges.y c.requires.0) c.scaled-zero.ensures.0 c.scaled-ys.ensures.0 g.met.T.Coordinate.enough)

pub returns-then-x-lt0 : goal.returns-then-x-lt0
returns-then-x-lt0 g c =
    let x = arg c.ranges.x c.requires.1 in
    let y = arg c.ranges.y c.requires.0 in (
      (λ i. record {
        x = negated x c.scaled-zero.ensures.0 c.scaled-xs.ensures.0 c.plus_times.ensures.0 i;
        y = negated y c.scaled-zero.ensures.0 c.scaled-ys.ensures.0 c.plus_times-then-x-lt0.ensures.0 i;
        angle = pos half_turn;
      })
          ∙ start_left c.args.y (less x (lit (pos 0)) c.if-x-lt0.true),
      (c.plus_times.ensures.1, c.plus_times-then-x-lt0.ensures.1),
    )

pub returns-else-x-lt0 : goal.returns-else-x-lt0
returns-else-x-lt0 g c =
    let x = arg c.ranges.x c.requires.1 in
    let y = arg c.ranges.y c.requires.0 in (
      (λ i. record { x = scaled_is x c.scaled-xs.ensures.0 i; y = scaled_is y c.scaled-ys.ensures.0 i; angle = pos 0 })
          ∙ start_right c.args.y (not_less x (lit (pos 0)) c.if-x-lt0.false),
      (c.scaled-xs.ensures.1, c.scaled-ys.ensures.1),
    )
