-- What the bodies have in common at an instant within reach, as the functions that take it want it, and the body that they make of it.
use mathlib.Core.Path.{◌∙◌, ◌≡◌, ap, subst⁻¹, sym}
use Prim.Native.Nat.{◌≤◌}
use lib.IntN.{nat_abs, ℤ}
use mir.Syntax.{w64}
use mir.Val.{of_z, to_z}
use Rattle.earth.proofs.NutationLaws.{Δψ_most}
use Rattle.numbers.proofs.Machine.{told}
use Rattle.sum_rules.specs.Instant.{Reached}
use Rattle.sum_rules.specs.Nutation.{Δψ}
use Rattle.sum_rules.specs.declared.instant.Instant.{Instant}
use Rattle.sum_terms.proofs.InstantLaws.{reached}
use Rattle.sky_vectors.proofs.Parallax.{parallax_small}
use Rattle.sky_vectors.specs.Geocentric.{geocentric}
use Rattle.sky_vectors.specs.Orientation.{moment}
use Rattle.sky_vectors.specs.SkyRange.{Reachable, parallax_limit}
use Rattle.sky_vectors.specs.declared.geocentric.Body.{Body}
use Rattle.sky_vectors.specs.declared.geocentric.Geocentric.{Geocentric}
use Rattle.sky_vectors.specs.declared.orientation.Moment.{Moment}

module _ {found : Moment} (longitude : ℤ) {instant : Instant} (is : found ≡ moment longitude instant) (near : Reachable instant) where
  time_is : found.tt.n ≡ instant.tt
  time_is = ap (λ (m : Moment). m.tt.n) is

  pub moment_reached : Reached found.tt
  moment_reached = reached (ap (λ (m : Moment). m.tt) is) near.tt_near

  pub moment_nutation : to_z w64 (of_z w64 found.nutation) ≡ Δψ found.tt.n
  moment_nutation =
      (told {r = found.nutation} (ap (λ (m : Moment). m.nutation) is) (Δψ_most instant.tt near.tt_near) tt).same
      ∙ ap Δψ (sym time_is)

  -- a body that `geocentric_at` gave
  module _ (body : Body) {centre : Geocentric} (e : centre ≡ geocentric body found.tt.n) where
    pub centre_is : centre ≡ geocentric body instant.tt
    centre_is = e ∙ ap (geocentric body) time_is

    pub centre_parallax : nat_abs centre.parallax ≤ parallax_limit
    centre_parallax = subst⁻¹ (λ (g : Geocentric). nat_abs g.parallax ≤ parallax_limit) centre_is (parallax_small body instant.tt near.tt_near)
