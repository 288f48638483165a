-- `numbers::whole::floor_div` meets its contract: the magnitude is divided, and the side of zero is put back.
use mathlib.Core.Path.{◌∙◌, ◌≡◌, ap, sym}
use Prim.Native.Nat.{◌/◌, ◌<◌, ◌^◌, ℕ}
use native.Mathlib.Nat.{div-le_self}
use native.Mathlib.Omega.{arith}
use lib.IntN.{negsuc, pos, ℤ}
use lib.Signed.{mag}
use mir.Syntax.{w64}
use mir.Val.{SFits, to_z}
use mir.ValLaws.{to_z_pos}
use Rattle.arithmetic.proofs.FloorLaws.{floor_above, floor_below}
use Rattle.numbers.proofs.Machine.{Mirror, ◌⊖◌, any, fits_as, from_minus_one, kept_as, less, lit, not_less, sfits_nat}
use Rattle.numbers.proofs.whole.floor_div.Goals as goal
use Rattle.numbers.proofs.whole.floor_div.Goals.{After-magnitude}

module _ (c : After-magnitude) where
  abbrev a : ℤ
  a = c.args.a

  abbrev q : ℕ
  q = c.magnitude.result / c.args.d

  is_mag : c.magnitude.result ≡ mag a
  is_mag = c.magnitude.ensures ∙ ap mag (any c.ranges.a).same

  q_below : q < 2 ^ 63
  q_below =
      let h : mag a < 2 ^ 63 = c.ranges.a.sfits in
      omega (arith, is_mag, div-le_self c.magnitude.result c.args.d)

  abbrev q_mirror : Mirror
  q_mirror = record { machine = to_z w64 q; number = pos q; most = 2 ^ 63; same = to_z_pos w64 q q_below; bound = omega (arith, q_below) }

  abbrev below : Mirror
  below = lit (negsuc 0) ⊖ q_mirror

  below_fits : SFits w64 below.number
  below_fits = rw from_minus_one (record { sfits = q_below })

  -- the quotient of the magnitude is that of the result
  same_quotient : mag a / c.args.d ≡ q
  same_quotient = ap (λ (n : ℕ). n / c.args.d) (sym is_mag)

pub overflow_cast-result : goal.overflow_cast-result
overflow_cast-result c = sfits_nat (q_below (goal.at.overflow_cast-result c).After-magnitude)

pub overflow_sub-result : goal.overflow_sub-result
overflow_sub-result c = fits_as (below (goal.at.overflow_sub-result c).After-magnitude) (below_fits (goal.at.overflow_sub-result c).After-magnitude)

pub overflow_cast-result-else-a-lt0 : goal.overflow_cast-result-else-a-lt0
overflow_cast-result-else-a-lt0 c = sfits_nat (q_below (goal.at.overflow_cast-result-else-a-lt0 c).After-magnitude)

pub returns-then-a-lt0 : goal.returns-then-a-lt0
returns-then-a-lt0 c =
    (kept_as (below (goal.at.returns-then-a-lt0 c).After-magnitude) (below_fits (goal.at.returns-then-a-lt0 c).After-magnitude)).same
    ∙ from_minus_one (q (goal.at.returns-then-a-lt0 c).After-magnitude)
    ∙ sym
    (floor_below c.args.d (less (any c.ranges.a) (lit (pos 0)) c.if-a-lt0.true)
    ∙ ap negsuc (same_quotient (goal.at.returns-then-a-lt0 c).After-magnitude))

pub returns-else-a-lt0 : goal.returns-else-a-lt0
returns-else-a-lt0 c =
    (q_mirror (goal.at.returns-else-a-lt0 c).After-magnitude).same
    ∙ sym
    (floor_above c.args.d (not_less (any c.ranges.a) (lit (pos 0)) c.if-a-lt0.false)
    ∙ ap pos (same_quotient (goal.at.returns-else-a-lt0 c).After-magnitude))
