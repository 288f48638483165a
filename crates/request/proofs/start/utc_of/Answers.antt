-- `request::start::utc_of` meets its contract.
use mathlib.Core.Path.{◌∙◌, ap}
use lib.IntN.{pos}
use Rattle.numbers.proofs.Machine.{Mirror, ◌⊕◌, ◌⊗◌, fits, gave, kept, lit}
use Rattle.number_rules.specs.Calendar.{DayAnswer}
use Rattle.request.proofs.RequestLaws.{accepted, clock_passes}
use Rattle.request.specs.Request.{utc}
use Rattle.request.specs.declared.start.Start.{Start}
use Rattle.sum_rules.proofs.AcceptedInstants.{days_small, elapsed_small}
use Rattle.sum_rules.specs.Instant.{day}
use Rattle.request.proofs.start.utc_of.Goals as goal
use Rattle.request.proofs.start.utc_of.Goals.{After-days_in, After-elapsed_of, Start as Begun}

module _ (c : After-days_in) where
  abbrev s : Begun
  s = (goal.at.After-days_in c).Start

  abbrev start : Start
  start = s.args.start

  abbrev days : Mirror
  days =
      lit (pos day)
      ⊗ gave c.days_in.type_inv (c.days_in.ensures ∙ ap (λ (a : DayAnswer). a.days) c.date_of.ensures.equal) (days_small (accepted start s.requires))

module _ (c : After-elapsed_of) where
  abbrev units : Mirror
  units =
      kept (days (goal.at.After-elapsed_of c).After-days_in) tt
      ⊕ gave c.elapsed_of.type_inv c.elapsed_of.ensures (elapsed_small (accepted (start (goal.at.After-elapsed_of c).After-days_in) (s (goal.at.After-elapsed_of c).After-days_in).requires))

pub overflow_mul-result : goal.overflow_mul-result
overflow_mul-result c = fits (days (goal.at.overflow_mul-result c).After-days_in) tt

pub elapsed_of-requires : goal.elapsed_of-requires
elapsed_of-requires c = clock_passes (start (goal.at.elapsed_of-requires c).After-days_in) (s (goal.at.elapsed_of-requires c).After-days_in).requires

pub overflow_add-result : goal.overflow_add-result
overflow_add-result c = fits (units (goal.at.overflow_add-result c).After-elapsed_of) tt

pub returns : goal.returns
unfolding utc
returns c = (kept (units (goal.at.returns c).After-elapsed_of) tt).same
