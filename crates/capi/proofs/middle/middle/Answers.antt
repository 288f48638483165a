-- `capi::middle::middle` meets its contract.
use mathlib.Core.Path.{◌∙◌, ◌≡◌, ap}
use Prim.Native.Nat.{◌<◌, ◌^◌}
use native.Mathlib.Omega.{arith}
use lib.IntN.{pos}
use mir.Syntax.{w64}
use mir.ValLaws.{to_z_pos}
use Rattle.numbers.proofs.Machine.{any, sfits_nat}
use Rattle.heading.specs.Heading.{MiddleAnswer, middle}
use Rattle.heading.proofs.MiddleSize.{middle_below}
use Rattle.capi.proofs.middle.middle.Goals as goal
use Rattle.capi.proofs.middle.middle.Goals.{In_ok-azimuth}

-- an azimuth, which fits
module _ (c : In_ok-azimuth) where
  seen : ◌≡◌ {A = MiddleAnswer} (record { refusal = 0; azimuth = c.in_ok-azimuth.azimuth }) (middle c.args.a c.args.b)
  seen = c.in_ok-azimuth.ensures.equal ∙ (λ i. middle ((any c.ranges.a).same i) ((any c.ranges.b).same i))

  small : c.in_ok-azimuth.azimuth < 2 ^ 63
  small = omega (arith, ap (λ (m : MiddleAnswer). m.azimuth) seen, middle_below c.args.a c.args.b)

pub overflow_cast-result : goal.overflow_cast-result
overflow_cast-result c = sfits_nat (small (goal.at.overflow_cast-result c).In_ok-azimuth)

pub returns : goal.returns
returns c =
    let k = (goal.at.returns c).In_ok-azimuth in
    (ap (λ (m : MiddleAnswer). m.refusal) (seen k), to_z_pos w64 k.in_ok-azimuth.azimuth (small k) ∙ ap (λ (m : MiddleAnswer). pos m.azimuth) (seen k))
