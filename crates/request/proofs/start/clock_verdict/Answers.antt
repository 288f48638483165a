-- `request::start::clock_verdict` meets its contract.
use mathlib.Core.Bool.{Bool}
use mathlib.Core.Path.{◌∙◌, ap}
use Rattle.calendar.proofs.RefusalLaws.{alone}
use Rattle.calendar.specs.Refusal.{◌unless◌}
use Rattle.request.proofs.start.clock_verdict.Goals as goal

pub returns : goal.returns
returns c = alone (c.unless.ensures ∙ ap (λ (passes : Bool). 4 unless passes) c.is_clock.ensures)
