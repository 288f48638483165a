-- At measured pressure 0 the refraction equals zero (01, "Refraction"): a zero times factors that are finite.
use mathlib.Core.Bool.{true}
use mathlib.Core.Path.{◌≡◌, refl}
use lib.IntN.{ℤ}
use lib.Ieee as Ieee
use lib.Ieee.{Float}
use Rattle.refraction.specs.Air.{temperature_passes}
use Rattle.refraction.specs.Double.{IsZero}
use Rattle.refraction.specs.Refraction.{IsRefracted, ZeroAtZeroPressure, formula, measured_refraction, refraction_in}
use Rattle.std.specs.Prelude.{Some}
use Rattle.refraction.proofs.DoubleLaws.{bounded_finite, zero_over, zero_times}
use Rattle.refraction.proofs.FiniteRefraction.{cotangent_most, warmth_most}
use Rattle.refraction.proofs.RefractionLaws.{of_refraction}

measured_zero : (P T : Float) {e : ℤ} → IsZero P → temperature_passes T ≡ true → IsRefracted e → IsZero (measured_refraction P T e)
unfolding measured_refraction formula
measured_zero P T no_pressure passes refracted =
    zero_times _ _ (zero_times _ _ (zero_over P no_pressure) (bounded_finite (warmth_most T passes))) (bounded_finite (cotangent_most refracted))

pub zero_at_zero_pressure : ZeroAtZeroPressure
unfolding refraction_in Ieee.eq Ieee.of_int
zero_at_zero_pressure P T e no_pressure passes size = of_refraction IsZero (Some (record { pressure = P; temperature = T })) e size refl (measured_zero P T no_pressure passes)
