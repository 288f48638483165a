-- The exports over one instant: within reach the sums, elsewhere a refusal, and nothing is written.
use Rattle.std.specs.Prelude.{List, [], ◌∷◌, ℤ, pos}
use Rattle.sum_rules.specs.Moon.{longitude, latitude, metres}
use Rattle.sum_rules.specs.Nutation.{Δψ, Δε, obliquity}
use Rattle.sum_rules.specs.Sun.{L, B, R}
use Rattle.boundary.specs.Codes.{reach_refusal}
use Rattle.capi.specs.Answers.{written_one}

-- what stands behind the reference after the call
abbrev pub at_instant : ℤ → List ℤ → List ℤ → List ℤ
at_instant n values before = written_one (reach_refusal n) values before

abbrev pub moon_values : ℤ → List ℤ
moon_values n = pos (longitude n) ∷ latitude n ∷ metres n ∷ []

abbrev pub sun_values : ℤ → List ℤ
sun_values n = L n ∷ B n ∷ R n ∷ []

abbrev pub nutation_values : ℤ → List ℤ
nutation_values n = Δψ n ∷ Δε n ∷ obliquity n ∷ []
