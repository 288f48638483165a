use mathlib.Core.Path.{◌≡◌}
use lib.ListN.{take}
use Rattle.batch.specs.Batch.{azimuth_from, elevation_from, filled}
use Rattle.batch.proofs.samples.fill.Given as goal

abbrev pub invariant-loop-i : goal.invariant-loop-i
invariant-loop-i l = record {
  azimuths_so_far : l.azimuths ≡ filled (azimuth_from l.body l.runner l.start) (take l.i l.offsets) l.initial.azimuths;
  elevations_so_far : l.elevations ≡ filled (elevation_from l.body l.runner l.start) (take l.i l.offsets) l.initial.elevations;
}
