-- Demand 3 of eclipses (01: "at every accepted instant"): where a request is answered, the sums behind both bodies lie within 01's bounds of the exact ones.
use Rattle.std.specs.Prelude.{◌≡◌}
use Rattle.request.specs.Request.{instant}
use Rattle.request.specs.declared.start.Start.{Start}
use Rattle.sky_vectors.specs.declared.station.Point.{Point}
use Rattle.sum_rules.specs.Accuracy.{SumsNear}
use Rattle.eclipse.specs.Answer.{solar_eclipse}

pub record EclipseNear (start : Start) (point : Point) : Type 0 where
  pub near : (solar_eclipse start point).refusal ≡ 0 → SumsNear (instant start).tt

-- THE CLAIM, for every request
abbrev pub EveryEclipseNear : Type 0
EveryEclipseNear = (start : Start) (point : Point) → EclipseNear start point
