-- The sine and the cosine of one angle: how large they are, what a call of `sine_cosine_in` gave, and both as mirrors.
use mathlib.Core.Path.{◌≡◌, subst⁻¹}
use lib.IntN.{ℤ}
use Rattle.number_rules.specs.Sine.{cosine, sine}
use Rattle.number_rules.proofs.SineSize.{cosine_most, pair_least, pair_most, sine_most}
use Rattle.numbers.specs.SineCosine.{OneAngle, sine_cosine}
use Rattle.numbers.specs.declared.sine.SineCosine.{SineCosine}
use Rattle.numbers.proofs.Machine.{Mirror, field}

pub one_angle : (x : ℤ) → OneAngle (sine_cosine x)
unfolding sine_cosine
one_angle x = record { sine_size = sine_most x; cosine_size = cosine_most x; together = pair_most x; not_both_zero = pair_least x }

-- what a call of `sine_cosine_in` gave
pub gave_sine_cosine : (x : ℤ) {r : SineCosine} → (r.sine ≡ sine x) × (r.cosine ≡ cosine x) → r ≡ sine_cosine x
unfolding sine_cosine
gave_sine_cosine x e = λ i. record { sine = e.0 i; cosine = e.1 i }

pub gave_one_angle : (x : ℤ) {r : SineCosine} → (r.sine ≡ sine x) × (r.cosine ≡ cosine x) → OneAngle r
gave_one_angle x e = subst⁻¹ OneAngle (gave_sine_cosine x e) (one_angle x)

abbrev pub sine_in : {t : SineCosine} → OneAngle t → Mirror
sine_in {t} u = field t.sine u.sine_size tt

abbrev pub cosine_in : {t : SineCosine} → OneAngle t → Mirror
cosine_in {t} u = field t.cosine u.cosine_size tt
