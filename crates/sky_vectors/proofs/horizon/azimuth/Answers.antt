-- `sky_vectors::horizon::azimuth` meets its contract.
use mathlib.Core.Path.{refl}
use Rattle.arctangent.proofs.ArctangentLaws.{gave_direction}
use Rattle.numbers.proofs.Machine.{Mirror, some_gave}
use Rattle.sky_vectors.specs.Horizon.{azimuth}
use Rattle.sky_vectors.proofs.horizon.azimuth.Goals as goal
use Rattle.sky_vectors.proofs.horizon.azimuth.Goals.{After-struct_told-2-1}

module _ (k : After-struct_told-2-1) where
  abbrev east : Mirror
  east = some_gave {r = k.args.seen.east} k.struct_told-2-1.given.1.1.0.1 refl

  abbrev north : Mirror
  north = some_gave {r = k.args.seen.north} k.struct_told-1.given.1.0.1 refl

pub returns : goal.returns
unfolding azimuth
returns c = gave_direction (east (goal.at.returns c).After-struct_told-2-1) (north (goal.at.returns c).After-struct_told-2-1) c.arctangent.ensures
