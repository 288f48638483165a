-- The answer to a request for an eclipse (02, Item 4): 1 to 9 as they are; a refused answer carries the number and zeros elsewhere.
use Rattle.std.specs.Prelude.{List, ◌++◌, Result, ℕ, pos}
use Rattle.calendar.specs.Refusal.{first}
use Rattle.calendar.specs.declared.refusal.Refusal.{Refusal}
use Rattle.request.specs.Request.{instant, point_refusals, start_refusals}
use Rattle.request.specs.declared.start.Start.{Start}
use Rattle.sky.specs.Answer.{Answer, answered, judged}
use Rattle.sky_vectors.specs.declared.station.Point.{Point}
use Rattle.eclipse.specs.Eclipse.{eclipse_at}
use Rattle.eclipse.specs.declared.disks.Eclipse.{Eclipse}

abbrev pub no_eclipse : Eclipse
no_eclipse = record { separation = pos 0; sun_radius = pos 0; moon_radius = pos 0; share = pos 0 }

abbrev pub eclipse_answer : Result Eclipse Refusal → Answer Eclipse
eclipse_answer = answered (λ eclipse. eclipse) no_eclipse

-- refusals: 1 to 9, in that order
abbrev pub eclipse_refusals : Start → Point → List ℕ
eclipse_refusals start point = start_refusals start ++ point_refusals point

unfoldable pub solar_eclipse : Start → Point → Answer Eclipse
solar_eclipse start point = judged (first (eclipse_refusals start point)) no_eclipse (eclipse_at point (instant start))
