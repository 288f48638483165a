-- Demand 3 of requests (01: "at every accepted instant"): where a request is answered, the sums behind its place lie within 01's bounds of the exact ones.
use Rattle.std.specs.Prelude.{◌≡◌, Option}
use Rattle.sum_rules.specs.Accuracy.{SumsNear}
use Rattle.refraction.specs.declared.air.Air.{Air}
use Rattle.request.specs.Request.{instant}
use Rattle.request.specs.declared.start.Start.{Start}
use Rattle.sky_vectors.specs.declared.geocentric.Body.{Body}
use Rattle.sky_vectors.specs.declared.station.Point.{Point}
use Rattle.sky.specs.Answer.{place}

-- behind a place or a shown place, whose refusals are the same
pub record PlaceNear (start : Start) (body : Body) (point : Point) (air : Option Air) : Type 0 where
  pub near : (place start body point air).refusal ≡ 0 → SumsNear (instant start).tt

-- THE CLAIM, for every request
abbrev pub EveryPlaceNear : Type 0
EveryPlaceNear = (start : Start) (body : Body) (point : Point) (air : Option Air) → PlaceNear start body point air
