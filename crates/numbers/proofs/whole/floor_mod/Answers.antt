-- `numbers::whole::floor_mod` meets its contract.
use mathlib.Core.Path.{◌∙◌, ◌≡◌, ap, sym}
use Prim.Native.Nat.{◌%◌, ◌<◌, ℕ}
use native.Mathlib.Nat.{mod-lt}
use native.Mathlib.Omega.{arith}
use lib.IntN.{pos, ℤ}
use lib.Signed.{mag}
use Rattle.arithmetic.proofs.FloorLaws.{modulo_of_above, modulo_of_below}
use Rattle.numbers.proofs.Machine.{any, less, lit, not_less}
use Rattle.numbers.proofs.whole.floor_mod.Goals as goal
use Rattle.numbers.proofs.whole.floor_mod.Goals.{After-magnitude}

module _ (c : After-magnitude) where
  abbrev a : ℤ
  a = c.args.a

  abbrev d : ℕ
  d = c.args.d

  is_mag : c.magnitude.result ≡ mag a
  is_mag = c.magnitude.ensures ∙ ap mag (any c.ranges.a).same

  rest_below : c.magnitude.result % d < d
  rest_below = mod-lt c.magnitude.result c.requires

  same_rest : mag a % d ≡ c.magnitude.result % d
  same_rest = ap (λ (n : ℕ). n % d) (sym is_mag)

pub overflow_sub-result-then-a-lt0 : goal.overflow_sub-result-then-a-lt0
overflow_sub-result-then-a-lt0 c = omega (arith, rest_below (goal.at.overflow_sub-result-then-a-lt0 c).After-magnitude)

pub returns-then-a-lt0 : goal.returns-then-a-lt0
returns-then-a-lt0 c =
    let e = modulo_of_below c.args.d (less (any c.ranges.a) (lit (pos 0)) c.if-a-lt0.true) in
    omega (arith, same_rest (goal.at.returns-then-a-lt0 c).After-magnitude)

pub returns-else-a-lt0 : goal.returns-else-a-lt0
returns-else-a-lt0 c =
    sym
    (modulo_of_above c.args.d (not_less (any c.ranges.a) (lit (pos 0)) c.if-a-lt0.false)
    ∙ same_rest (goal.at.returns-else-a-lt0 c).After-magnitude)
