-- `sun_sums::sun::longitude_degrees` meets its contract.
use mathlib.Core.Path.{◌∙◌, ◌≡◌, ap}
use Prim.Native.Nat.{◌^◌, ◌≤◌, ℕ}
use native.Mathlib.Nat.{zero-lt-suc}
use native.Mathlib.Omega.{arith}
use lib.IntN.{◌*ℤ◌, pos, ℤ}
use Rattle.arithmetic.specs.Floor.{◌modulo◌, ⌊◌÷◌⌋}
use Rattle.arithmetic.proofs.FloorLaws.{modulo_below}
use Rattle.numbers.proofs.Machine.{Mirror, any, from_nat, lit, nat_fits}
use Rattle.numbers.proofs.WideProduct.{mul_div_asked, mul_div_gave}
use Rattle.sum_rules.specs.Sun.{longitude_degrees}
use Rattle.sun_sums.proofs.sun.longitude_degrees.Goals as goal
use Rattle.sun_sums.proofs.sun.longitude_degrees.Goals.{After-floor_mod}

left_is : (c : After-floor_mod) → c.floor_mod.result ≡ c.args.l modulo 62_831_853_072
left_is c = c.floor_mod.ensures ∙ ap (λ (z : ℤ). z modulo 62_831_853_072) (any c.ranges.l).same

left_small : (c : After-floor_mod) → c.floor_mod.result ≤ 2 ^ 36
left_small c = omega (arith, left_is c, modulo_below c.args.l (zero-lt-suc 62_831_853_071))

abbrev left_mirror : After-floor_mod → Mirror
left_mirror c = from_nat (left_small c) tt

pub overflow_cast-floor_mod : goal.overflow_cast-floor_mod
overflow_cast-floor_mod c = nat_fits (left_small (goal.at.overflow_cast-floor_mod c).After-floor_mod) tt

pub mul_div-requires : goal.mul_div-requires
mul_div-requires c = mul_div_asked (left_mirror (goal.at.mul_div-requires c).After-floor_mod) (lit (pos 5_729_577_951)) 10_000_000_000 tt

pub returns : goal.returns
unfolding longitude_degrees
returns c =
    (mul_div_gave (left_mirror (goal.at.returns c).After-floor_mod) (lit (pos 5_729_577_951)) 10_000_000_000 c.mul_div.type_inv c.mul_div.ensures).same
    ∙ ap (λ (r : ℕ). ⌊ pos r *ℤ pos 5_729_577_951 ÷ 10_000_000_000 ⌋) (left_is (goal.at.returns c).After-floor_mod)
