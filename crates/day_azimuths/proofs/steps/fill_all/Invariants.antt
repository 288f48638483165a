use mathlib.Core.Path.{◌≡◌}
use lib.ListN.{length, take}
use Rattle.day.specs.Curve.{each_below}
use Rattle.day_azimuths.specs.Azimuths.{strip_azimuth_from}
use Rattle.day_azimuths.proofs.steps.fill_all.Given as goal

abbrev pub invariant-loop-index : goal.invariant-loop-index
invariant-loop-index l =
    (length l.azimuths ≡ length l.initial.azimuths)
    × (take l.index l.azimuths ≡ each_below (strip_azimuth_from l.course.body l.course.runner l.course.date l.course.days l.step) l.index)
