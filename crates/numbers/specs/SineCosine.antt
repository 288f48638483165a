-- The sine and the cosine of one angle.
use Rattle.std.specs.Prelude.{◌+◌, ◌≤◌, nat_abs, ℤ}
use Rattle.number_rules.specs.Sine.{cosine, sine}
use Rattle.number_rules.specs.SineAccuracy.{together_least}
use Rattle.numbers.specs.declared.sine.SineCosine.{SineCosine}

unfoldable pub sine_cosine : ℤ → SineCosine
sine_cosine x = record { sine = sine x; cosine = cosine x }

-- what any of them keep to: |sin| + |cos| of one angle is at least 0.9999 and at most 1.423 times 10⁹
pub record OneAngle (angle : SineCosine) : Type 0 where
  pub sine_size : nat_abs angle.sine ≤ 1_000_000_001
  pub cosine_size : nat_abs angle.cosine ≤ 1_000_000_001
  pub together : nat_abs angle.sine + nat_abs angle.cosine ≤ 1_423_000_000
  pub not_both_zero : together_least ≤ nat_abs angle.sine + nat_abs angle.cosine
