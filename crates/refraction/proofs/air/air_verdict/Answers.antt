-- `refraction::air::air_verdict` meets its contract.
use mathlib.Core.Bool.{Bool}
use mathlib.Core.List.{[], ◌∷◌}
use mathlib.Core.Path.{◌∙◌, ◌≡◌, ap, refl}
use lib.Ieee as Ieee
use Rattle.calendar.proofs.RefusalLaws.{check, exit, passed, refused}
use Rattle.calendar.specs.Refusal.{◌unless◌, first}
use Rattle.refraction.specs.Air.{air_refusals, pressure_passes, temperature_passes}
use Rattle.refraction.proofs.air.air_verdict.Goals as goal
use Rattle.refraction.proofs.air.air_verdict.Goals.{After-is_between}

-- a literal is its bits to the machine, which compute to the rule's number
pressure : (c : After-is_between) → c.is_between.result ≡ pressure_passes c.in-Some.air.pressure
unfolding Ieee.of_bits Ieee.of_int
pressure c = c.is_between.ensures

pub returns-in_default : goal.returns-in_default
unfolding first air_refusals
returns-in_default c = rw c.in_default.is refl

pub returns-in_err-unless : goal.returns-in_err-unless
unfolding air_refusals
returns-in_err-unless c =
    rw c.in-Some.is
    (exit c.from_residual.result c.in_err-unless.field-0.0 c.from_residual.ensures
    (refused (11 unless temperature_passes _ ∷ []) c.in_err-unless.was
    (c.unless.ensures ∙ ap (λ (passes : Bool). 10 unless passes) (pressure (goal.at.returns-in_err-unless c).After-is_between))))

pub returns : goal.returns
unfolding air_refusals Ieee.of_bits Ieee.of_int Ieee.neg
returns c =
    rw c.in-Some.is
    (passed (11 unless temperature_passes _ ∷ []) c.in_ok-unless.was
    (c.unless.ensures ∙ ap (λ (passes : Bool). 10 unless passes) (pressure (goal.at.returns c).After-is_between))
    (check 11 c.unless-2.ensures c.is_between-2.ensures))
