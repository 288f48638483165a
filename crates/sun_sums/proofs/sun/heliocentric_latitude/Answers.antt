-- `sun_sums::sun::heliocentric_latitude` meets its contract: what it lends are the groups of `specs/`, by computation.
use mathlib.Core.Path.{refl}
use Rattle.numbers.proofs.Machine.{passed}
use Rattle.sum_rules.specs.SunTerms.{B0, B1}
use Rattle.sun_sums.proofs.SunLaws.{B_sound, series_of, sound_of}
use Rattle.sun_sums.proofs.sun.heliocentric_latitude.Goals as goal

pub series-requires : goal.series-requires
unfolding B0 B1
series-requires c = (c.requires, sound_of B_sound refl)

pub returns : goal.returns
unfolding B0 B1
returns c = passed c.series.type_inv (series_of c.args.t.n c.series.ensures refl)
