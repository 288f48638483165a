-- `sky_vectors::geocentric::moon_geocentric` meets its contract.
use mathlib.Core.Path.{◌∙◌, ◌≡◌, subst⁻¹}
use Prim.Native.Nat.{◌*◌, ◌<◌, ◌^◌, ◌≤◌, ℕ}
use native.Mathlib.Omega.{arith}
use lib.IntN.{◌+ℤ◌, nat_abs, pos, ℤ}
use lib.Signed.{◌≤ℤ◌}
use borrow.Author.Rules.{rules}
use mir.Syntax.{w64}
use mir.Val.{SFits, of_z, to_z}
use mir.ValLaws.{to_z-of_z}
use Rattle.arithmetic.specs.Floor.{⌊◌÷◌⌋}
use Rattle.arithmetic.proofs.Sizes.{at_least}
use Rattle.numbers.proofs.Machine.{Mirror, ◌⊕◌, arg, cast_up, fits, from_nat, kept, nat_fits, passed}
use Rattle.number_rules.specs.Angle.{full_turn}
use Rattle.sky_vectors.specs.Geocentric.{moon_geocentric}
use Rattle.sky_vectors.specs.Observer.{radius}
use Rattle.moon_sums.proofs.MoonSizes.{metres_least, moon_longitude_most}
use Rattle.earth.proofs.NutationLaws.{Δψ_most}
use Rattle.sum_rules.specs.Instant.{furthest}
use Rattle.sum_rules.specs.Moon.{latitude}
use Rattle.sum_rules.specs.Moon as Moon
use Rattle.sky_vectors.proofs.geocentric.moon_geocentric.Goals as goal
use Rattle.sky_vectors.proofs.geocentric.moon_geocentric.Goals.{After-moon_at-moon, After-struct_told-2-1, Start}

module _ (c : After-moon_at-moon) where
  abbrev s : Start
  s = c.before

  abbrev n : ℤ
  n = s.args.tt.n

  near : nat_abs n ≤ furthest
  near = s.requires.0.near

  longitude_small : c.moon_at-moon.result.longitude ≤ full_turn
  longitude_small = subst⁻¹ (λ (l : ℕ). l ≤ full_turn) c.moon_at-moon.ensures.0 (moon_longitude_most n)

  abbrev nutation : Mirror
  nutation = arg {m = 2 ^ 26} s.ranges.nutation (subst⁻¹ (λ (z : ℤ). nat_abs z ≤ 2 ^ 26) s.requires.1 (Δψ_most n near))

  abbrev longitude : Mirror
  longitude = from_nat longitude_small tt ⊕ nutation

  latitude_fits : SFits w64 c.moon_at-moon.result.latitude
  latitude_fits = search rules

  metres_fits : SFits w64 c.moon_at-moon.result.metres
  metres_fits = search rules

  metres_is : to_z w64 (of_z w64 c.moon_at-moon.result.metres) ≡ Moon.metres n
  metres_is = to_z-of_z w64 c.moon_at-moon.result.metres metres_fits ∙ c.moon_at-moon.ensures.1.1.0

  far : pos 350_000_000 ≤ℤ Moon.metres n
  far = metres_least n near

-- the state in which the Moon's place became known
abbrev summed : After-struct_told-2-1 → After-moon_at-moon
summed c = c.before.before.before

pub overflow_cast-longitude : goal.overflow_cast-longitude
overflow_cast-longitude c = nat_fits (longitude_small (goal.at.overflow_cast-longitude c).After-moon_at-moon) tt

pub overflow_add-longitude : goal.overflow_add-longitude
overflow_add-longitude c = fits (longitude (goal.at.overflow_add-longitude c).After-moon_at-moon) tt

pub overflow_cast-distance : goal.overflow_cast-distance
overflow_cast-distance c =
    let k = summed (goal.at.overflow_cast-distance c).After-struct_told-2-1 in
    cast_up (metres_fits k) (subst⁻¹ (λ (z : ℤ). pos 350_000_000 ≤ℤ z) k.moon_at-moon.ensures.1.1.0 (far k))

pub floor_div-parallax-requires : goal.floor_div-parallax-requires
floor_div-parallax-requires c = let k = summed (goal.at.floor_div-parallax-requires c).After-struct_told-2-1 in subst⁻¹ (λ (z : ℤ). 0 < nat_abs z) (metres_is k) (omega (arith, at_least (far k)))

pub returns : goal.returns
unfolding moon_geocentric
returns c =
    let k = summed (goal.at.returns c).After-struct_told-2-1 in
    let l = (kept (longitude k) tt).same ∙ (λ i. pos (k.moon_at-moon.ensures.0 i) +ℤ (s k).requires.1 i) in
    let b = to_z-of_z w64 k.moon_at-moon.result.latitude (latitude_fits k) ∙ k.moon_at-moon.ensures.1.0 in
    let p = passed c.floor_div-parallax.type_inv (c.floor_div-parallax.ensures ∙ (λ i. ⌊ pos (radius * 1_000_000_000) ÷ nat_abs (metres_is k i) ⌋)) in
    λ i. record { longitude = l i; latitude = b i; distance = metres_is k i; parallax = p i }
