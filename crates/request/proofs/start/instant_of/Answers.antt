-- `request::start::instant_of` meets its contract.
use mathlib.Core.Path.{◌∙◌, ◌≡◌, ap}
use borrow.Author.Rules.{rules}
use mir.Syntax.{w64}
use mir.Val.{SFits, of_z, to_z}
use mir.ValLaws.{to_z-of_z}
use Rattle.numbers.proofs.Machine.{passed}
use Rattle.number_rules.specs.Calendar.{DayAnswer}
use Rattle.request.proofs.RequestLaws.{accepted, clock_passes}
use Rattle.request.specs.Request.{date, elapsed, instant}
use Rattle.sum_rules.specs.Instant.{terrestrial_time, universal_time}
use Rattle.request.proofs.start.instant_of.Goals as goal
use Rattle.request.proofs.start.instant_of.Goals.{After-elapsed_of, Start}

module _ (s : Start) where
  ut1_fits : SFits w64 s.args.start.ut1
  ut1_fits = search rules

  delta_fits : SFits w64 s.args.start.delta_t
  delta_fits = search rules

-- what `instant_at` is handed
module _ (c : After-elapsed_of) where
  abbrev s : Start
  s = (goal.at.After-elapsed_of c).Start

  days_is : to_z w64 (of_z w64 c.days_in.result) ≡ (date s.args.start).days
  days_is = passed c.days_in.type_inv (c.days_in.ensures ∙ ap (λ (a : DayAnswer). a.days) c.date_of.ensures.equal)

  elapsed_is : to_z w64 (of_z w64 c.elapsed_of.result) ≡ elapsed s.args.start
  elapsed_is = passed c.elapsed_of.type_inv c.elapsed_of.ensures

  ut1_is : to_z w64 (of_z w64 s.args.start.ut1) ≡ s.args.start.ut1
  ut1_is = to_z-of_z w64 s.args.start.ut1 (ut1_fits s)

  delta_is : to_z w64 (of_z w64 s.args.start.delta_t) ≡ s.args.start.delta_t
  delta_is = to_z-of_z w64 s.args.start.delta_t (delta_fits s)

pub elapsed_of-requires : goal.elapsed_of-requires
elapsed_of-requires c = clock_passes c.args.start c.requires

pub instant_at-requires : goal.instant_at-requires
instant_at-requires c =
    let e = (goal.at.instant_at-requires c).After-elapsed_of in
    rw (days_is e, elapsed_is e, ut1_is e, delta_is e) (accepted (s e).args.start (s e).requires)

pub returns : goal.returns
unfolding instant
returns c =
    let e = (goal.at.returns c).After-elapsed_of in
    let ut = c.instant_at.ensures.0 ∙ (λ i. universal_time (days_is e i) (elapsed_is e i) (ut1_is e i)) in
    let tt₀ = c.instant_at.ensures.1 ∙ (λ i. terrestrial_time (universal_time (days_is e i) (elapsed_is e i) (ut1_is e i)) (delta_is e i)) in
    λ i. record { ut = ut i; tt = tt₀ i }
