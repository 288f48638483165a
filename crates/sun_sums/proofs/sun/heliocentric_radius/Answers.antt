-- `sun_sums::sun::heliocentric_radius` meets its contract: what it lends are the groups of `specs/`, by computation.
use mathlib.Core.Path.{refl}
use Rattle.numbers.proofs.Machine.{passed}
use Rattle.sum_rules.specs.SunTerms.{R0, R1, R2, R3, R4}
use Rattle.sun_sums.proofs.SunLaws.{R_sound, series_of, sound_of}
use Rattle.sun_sums.proofs.sun.heliocentric_radius.Goals as goal

pub series-requires : goal.series-requires
unfolding R0 R1 R2 R3 R4
series-requires c = (c.requires, sound_of R_sound refl)

pub returns : goal.returns
unfolding R0 R1 R2 R3 R4
returns c = passed c.series.type_inv (series_of c.args.t.n c.series.ensures refl)
