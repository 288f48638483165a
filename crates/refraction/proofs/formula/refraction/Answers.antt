-- `refraction::formula::refraction` meets its contract.
use mathlib.Core.Bool.{false}
use mathlib.Core.Path.{◌∙◌, ◌≡◌, ap, subst⁻¹}
use lib.Ieee as Ieee
use lib.Signed.{lt_z}
use Rattle.numbers.proofs.Machine.{Mirror, arg, lit, not_less}
use Rattle.refraction.specs.Refraction.{IsRefracted, lowest_refracted, measured_refraction, refraction, refraction_in}
use Rattle.refraction.proofs.formula.refraction.Goals as goal
use Rattle.refraction.proofs.formula.refraction.Goals.{Else-elevation-lt-LOWEST_REFRACTED, Start}

abbrev e : Start → Mirror
e a = arg a.ranges.elevation a.requires

-- at or above the lowest refracted
module _ (c : Else-elevation-lt-LOWEST_REFRACTED) where
  seen : lt_z c.args.elevation lowest_refracted ≡ false
  seen = rw (e c.before).same at c.if-elevation-lt-LOWEST_REFRACTED.false

  refracted : IsRefracted (e c.before).machine
  refracted =
      subst⁻¹ IsRefracted (e c.before).same
      (record { not_below = not_less (e c.before) (lit lowest_refracted) c.if-elevation-lt-LOWEST_REFRACTED.false; size = c.requires })

pub returns-then-elevation-lt-LOWEST_REFRACTED : goal.returns-then-elevation-lt-LOWEST_REFRACTED
unfolding refraction Ieee.of_bits Ieee.of_int
returns-then-elevation-lt-LOWEST_REFRACTED c = rw (rw (e (goal.at.returns-then-elevation-lt-LOWEST_REFRACTED c).Start).same at c.if-elevation-lt-LOWEST_REFRACTED.true)

pub measured_refraction-requires : goal.measured_refraction-requires
measured_refraction-requires c = refracted (goal.at.measured_refraction-requires c).Else-elevation-lt-LOWEST_REFRACTED

pub returns-in-None : goal.returns-in-None
unfolding refraction refraction_in Ieee.of_bits Ieee.of_int
returns-in-None c = rw (seen (goal.at.returns-in-None c).Else-elevation-lt-LOWEST_REFRACTED, c.in-None.is)

pub returns-in-Some : goal.returns-in-Some
unfolding refraction refraction_in
returns-in-Some c =
    let k = (goal.at.returns-in-Some c).Else-elevation-lt-LOWEST_REFRACTED in
    rw (seen k, c.in-Some.is)
    (c.measured_refraction.ensures ∙ ap (measured_refraction _ _) (e k.before).same)
