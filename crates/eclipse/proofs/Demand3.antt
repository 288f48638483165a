-- DEMAND 3 of eclipses: a request that is not refused is accepted, and at every accepted instant the sums lie within 01's bounds.
use mathlib.Core.Path.{◌∙◌, ◌≡◌, sym}
use Rattle.calendar.specs.Refusal.{first}
use Rattle.request.specs.Request.{instant}
use Rattle.request.proofs.RequestLaws.{start_reachable}
use Rattle.sky.proofs.AnswerLaws.{judged_refusal}
use Rattle.sum_rules.proofs.Accurate.{sums_near}
use Rattle.eclipse.specs.Answer.{eclipse_refusals, no_eclipse, solar_eclipse}
use Rattle.eclipse.specs.Demand3.{EveryEclipseNear}
use Rattle.eclipse.specs.Eclipse.{eclipse_at}
use Rattle.eclipse.proofs.AnswerLaws.{start_passes}

pub every_eclipse_near : EveryEclipseNear
unfolding solar_eclipse
every_eclipse_near start point =
    record {
      near = λ e.
          let passes : first (eclipse_refusals start point) ≡ 0 =
          sym (judged_refusal (first (eclipse_refusals start point)) no_eclipse (eclipse_at point (instant start))) ∙ e in
          sums_near (instant start).tt (start_reachable start (start_passes start point passes)).tt_near;
    }
