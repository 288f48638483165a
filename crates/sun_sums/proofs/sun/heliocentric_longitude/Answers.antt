-- `sun_sums::sun::heliocentric_longitude` meets its contract: what it lends are the groups of `specs/`, by computation.
use mathlib.Core.Path.{refl}
use Rattle.numbers.proofs.Machine.{passed}
use Rattle.sum_rules.specs.SunTerms.{L0, L1, L2, L3, L4, L5}
use Rattle.sun_sums.proofs.SunLaws.{L_sound, series_of, sound_of}
use Rattle.sun_sums.proofs.sun.heliocentric_longitude.Goals as goal

pub series-requires : goal.series-requires
unfolding L0 L1 L2 L3 L4 L5
series-requires c = (c.requires, sound_of L_sound refl)

pub returns : goal.returns
unfolding L0 L1 L2 L3 L4 L5
returns c = passed c.series.type_inv (series_of c.args.t.n c.series.ensures refl)
