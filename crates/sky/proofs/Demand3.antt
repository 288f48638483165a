-- DEMAND 3 of requests: a request that is not refused is accepted, and at every accepted instant the sums lie within 01's bounds.
use mathlib.Core.Path.{◌∙◌, ◌≡◌, sym}
use Rattle.sum_rules.specs.Accuracy.{SumsNear}
use Rattle.sum_rules.proofs.Accurate.{sums_near}
use Rattle.calendar.specs.Refusal.{first}
use Rattle.refraction.specs.Air.{air_refusals}
use Rattle.request.specs.Request.{instant}
use Rattle.request.proofs.RequestLaws.{start_passes, start_reachable}
use Rattle.sky_vectors.specs.Place.{place_at}
use Rattle.sky.specs.Answer.{nowhere, place, place_numbers, request_refusals}
use Rattle.sky.specs.Demand3.{EveryPlaceNear}
use Rattle.sky.proofs.AnswerLaws.{judged_refusal}

pub every_place_near : EveryPlaceNear
unfolding place
every_place_near start body point air = record { near = accepted }
  where
    accepted : (place start body point air).refusal ≡ 0 → SumsNear (instant start).tt
    accepted e =
        let passes : first (request_refusals start point air) ≡ 0 =
        sym (judged_refusal (first (request_refusals start point air)) nowhere (place_numbers (place_at body point (instant start)))) ∙ e in
        sums_near (instant start).tt (start_reachable start (start_passes start point (air_refusals air) passes)).tt_near
