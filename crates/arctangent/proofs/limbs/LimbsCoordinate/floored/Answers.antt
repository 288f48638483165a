-- `arctangent::limbs::LimbsCoordinate::floored` meets its contract.
use mathlib.Core.Path.{◌∙◌, ◌≡◌, ap, subst⁻¹}
use Prim.Native.Nat.{◌%◌, ◌*◌, ◌<◌, ◌^◌, ◌≤◌, ℕ}
use native.Mathlib.Omega.{arith}
use lib.IntN.{nat_abs, ℤ}
use lib.Pow.{pow_mono, pow_pos}
use Rattle.arithmetic.specs.Floor.{⌊◌÷◌⌋}
use Rattle.arithmetic.proofs.FloorLaws.{floor_small}
use Rattle.arctangent.specs.Limbs.{value}
use Rattle.arctangent.proofs.limbs.LimbsCoordinate.floored.Goals as goal

-- 1 shifted up by k
power : {k : ℕ} → k < 30 → 1 * 2 ^ k % 2 ^ 64 ≡ 2 ^ k
power {k} h = omega (arith, pow_mono {i = k} {j = 30} (omega arith))

pub divided-requires : goal.divided-requires
divided-requires c =
    let h : c.args.k < 30 = c.requires.1 in
    (c.requires.0, subst⁻¹ (λ (p : ℕ). (0 < p) × (p ≤ 2 ^ 30)) (power h) (pow_pos c.args.k, pow_mono {i = c.args.k} {j = 30} (omega arith)))

pub returns : goal.returns
returns c =
    let a = value c.args.self in
    let e : value c.divided.result ≡ ⌊ a ÷ 2 ^ c.args.k ⌋ = c.divided.ensures.0 ∙ ap (λ (p : ℕ). ⌊ a ÷ p ⌋) (power c.requires.1) in
    (e, (c.divided.ensures.1, subst⁻¹ (λ (v : ℤ). nat_abs v ≤ nat_abs a) e (floor_small a (2 ^ c.args.k))))
