-- `sky_vectors::geocentric::sun_geocentric` meets its contract.
use mathlib.Core.Path.{◌∙◌, ◌≡◌, ap, subst⁻¹}
use Prim.Native.Nat.{◌<◌, ◌^◌, ◌≤◌}
use native.Mathlib.Omega.{arith}
use lib.IntN.{◌+ℤ◌, nat_abs, neg_ℤ, pos, ℤ}
use lib.Signed.{◌≤ℤ◌}
use borrow.Author.Rules.{rules}
use mir.Syntax.{w64}
use mir.Val.{SFits, of_z, to_z}
use mir.ValLaws.{to_z-of_z}
use Rattle.arithmetic.specs.Floor.{⌊◌÷◌⌋}
use Rattle.arithmetic.proofs.Sizes.{at_least}
use Rattle.numbers.proofs.Machine.{Mirror, ◌⊕◌, arg, asked, cast_up, fits, gave, kept, lit, minus, passed, small_floor_gave, told}
use Rattle.number_rules.specs.Angle.{half_turn}
use Rattle.sky_vectors.specs.Geocentric.{sun_geocentric}
use Rattle.sun_sums.proofs.SunSizes.{B_most, R_least, latitude_degrees_most, longitude_degrees_most}
use Rattle.earth.proofs.NutationLaws.{Δψ_most}
use Rattle.sum_rules.specs.Instant.{furthest}
use Rattle.sum_rules.specs.Sun.{latitude_degrees, longitude_degrees}
use Rattle.sum_rules.specs.Sun as Sun
use Rattle.sky_vectors.proofs.geocentric.sun_geocentric.Goals as goal
use Rattle.sky_vectors.proofs.geocentric.sun_geocentric.Goals.{After-floor_div-aberration, After-floor_div-parallax, After-latitude_degrees-latitude, After-longitude_degrees-degrees, After-struct_told-3-1, After-sun_at-earth, Start}

module _ (c : After-sun_at-earth) where
  abbrev s : Start
  s = (goal.at.After-sun_at-earth c).Start

  abbrev n : ℤ
  n = s.args.tt.n

  near : nat_abs n ≤ furthest
  near = s.requires.0.near

  abbrev nutation : Mirror
  nutation = arg {m = 2 ^ 26} s.ranges.nutation (subst⁻¹ (λ (z : ℤ). nat_abs z ≤ 2 ^ 26) s.requires.1 (Δψ_most n near))

  longitude_fits : SFits w64 c.sun_at-earth.result.longitude
  longitude_fits = search rules

  abbrev latitude : Mirror
  latitude = told {r = c.sun_at-earth.result.latitude} c.sun_at-earth.ensures.1.0 (B_most n near) tt

  radius_fits : SFits w64 c.sun_at-earth.result.radius
  radius_fits = search rules

  radius_is : to_z w64 (of_z w64 c.sun_at-earth.result.radius) ≡ Sun.R n
  radius_is = to_z-of_z w64 c.sun_at-earth.result.radius radius_fits ∙ c.sun_at-earth.ensures.1.1.0

  far : pos 9_800_000_000 ≤ℤ Sun.R n
  far = R_least n near

  radius_above : 0 < nat_abs (to_z w64 (of_z w64 c.sun_at-earth.result.radius))
  radius_above = subst⁻¹ (λ (z : ℤ). 0 < nat_abs z) radius_is (omega (arith, at_least far))

module _ (c : After-longitude_degrees-degrees) where
  abbrev summed₁ : After-sun_at-earth
  summed₁ = (goal.at.After-longitude_degrees-degrees c).After-sun_at-earth

  abbrev degrees : Mirror
  degrees =
      gave c.longitude_degrees-degrees.type_inv
      (c.longitude_degrees-degrees.ensures
      ∙ ap longitude_degrees (to_z-of_z w64 summed₁.sun_at-earth.result.longitude (longitude_fits summed₁) ∙ summed₁.sun_at-earth.ensures.0))
      (longitude_degrees_most (Sun.L (n summed₁)))

module _ (c : After-latitude_degrees-latitude) where
  abbrev turned : After-longitude_degrees-degrees
  turned = (goal.at.After-latitude_degrees-latitude c).After-longitude_degrees-degrees

  abbrev summed₂ : After-sun_at-earth
  summed₂ = summed₁ turned

  abbrev negated : Mirror
  negated =
      minus
      (gave c.latitude_degrees-latitude.type_inv (c.latitude_degrees-latitude.ensures ∙ ap latitude_degrees (latitude summed₂).same)
      (latitude_degrees_most (Sun.B (n summed₂)) (B_most (n summed₂) (near summed₂))))

abbrev summed₃ : After-struct_told-3-1 → After-sun_at-earth
summed₃ c = summed₂ (goal.at.After-struct_told-3-1 c).After-latitude_degrees-latitude

module _ (c : After-floor_div-parallax) where
  abbrev aberrated : After-floor_div-aberration
  aberrated = (goal.at.After-floor_div-parallax c).After-floor_div-aberration

  abbrev lowered : After-latitude_degrees-latitude
  lowered = (goal.at.After-floor_div-aberration aberrated).After-latitude_degrees-latitude

  abbrev summed : After-sun_at-earth
  summed = summed₂ lowered

  abbrev aberration : Mirror
  aberration =
      small_floor_gave (lit (neg_ℤ (pos 5_691_610_000_000_000))) (nat_abs (to_z w64 (of_z w64 summed.sun_at-earth.result.radius)))
      aberrated.floor_div-aberration.type_inv aberrated.floor_div-aberration.ensures

  abbrev opposite : Mirror
  opposite = degrees (turned lowered) ⊕ lit (pos half_turn)

  abbrev nodding : Mirror
  nodding = kept opposite tt ⊕ nutation summed

  abbrev longitude : Mirror
  longitude = kept nodding tt ⊕ aberration

pub latitude_degrees-latitude-requires : goal.latitude_degrees-latitude-requires
latitude_degrees-latitude-requires c = asked (latitude (summed₁ (goal.at.latitude_degrees-latitude-requires c).After-longitude_degrees-degrees)) tt

pub overflow_sub-latitude : goal.overflow_sub-latitude
overflow_sub-latitude c = fits (negated (goal.at.overflow_sub-latitude c).After-latitude_degrees-latitude) tt

pub overflow_cast-radius : goal.overflow_cast-radius
overflow_cast-radius c =
    let k = summed₃ (goal.at.overflow_cast-radius c).After-struct_told-3-1 in
    cast_up (radius_fits k) (subst⁻¹ (λ (z : ℤ). pos 9_800_000_000 ≤ℤ z) k.sun_at-earth.ensures.1.1.0 (far k))

pub floor_div-aberration-requires : goal.floor_div-aberration-requires
floor_div-aberration-requires c = radius_above (summed₃ (goal.at.floor_div-aberration-requires c).After-struct_told-3-1)

pub floor_div-parallax-requires : goal.floor_div-parallax-requires
floor_div-parallax-requires c = radius_above (summed₃ (goal.at.floor_div-parallax-requires c).After-struct_told-3-1)

pub overflow_add-longitude : goal.overflow_add-longitude
overflow_add-longitude c = fits (opposite (goal.at.overflow_add-longitude c).After-floor_div-parallax) tt

pub overflow_add-longitude-2 : goal.overflow_add-longitude-2
overflow_add-longitude-2 c = fits (nodding (goal.at.overflow_add-longitude-2 c).After-floor_div-parallax) tt

pub overflow_add-longitude-3 : goal.overflow_add-longitude-3
overflow_add-longitude-3 c = fits (longitude (goal.at.overflow_add-longitude-3 c).After-floor_div-parallax) tt

pub returns : goal.returns
unfolding sun_geocentric
returns c =
    let k = summed (goal.at.returns c).After-floor_div-parallax in
    let sum : ℤ → ℤ → ℤ = λ (a r : ℤ). longitude_degrees (Sun.L (n k)) +ℤ pos half_turn +ℤ a +ℤ ⌊ neg_ℤ (pos 5_691_610_000_000_000) ÷ nat_abs r ⌋ in
    let l = (kept (longitude (goal.at.returns c).After-floor_div-parallax) tt).same ∙ (λ i. sum ((s k).requires.1 i) (radius_is k i)) in
    let b = (kept (negated (lowered (goal.at.returns c).After-floor_div-parallax)) tt).same in
    let p = passed c.floor_div-parallax.type_inv (c.floor_div-parallax.ensures ∙ (λ i. ⌊ pos 426_350_000_000_000 ÷ nat_abs (radius_is k i) ⌋)) in
    λ i. record { longitude = l i; latitude = b i; distance = radius_is k i; parallax = p i }
