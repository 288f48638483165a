-- `request::start::start_verdict` meets its contract.
use mathlib.Core.List.{List, ◌++◌}
use mathlib.Core.Path.{◌∙◌, ◌≡◌, ap}
use Prim.Native.Nat.{ℕ}
use mir.Syntax.{w64}
use mir.Val.{SFits}
use mir.ValLaws.{to_z-of_z}
use Rattle.number_rules.specs.Calendar.{DayAnswer}
use Rattle.calendar.proofs.RefusalLaws.{exit, passed_all, refused_among}
use Rattle.calendar.specs.Refusal.{first, verdict_number}
use Rattle.request.specs.Request.{clock_refusals, date, date_refusals, scale_refusals}
use Rattle.request.specs.declared.start.Start.{Start}
use borrow.Author.Rules.{rules}
use Rattle.request.proofs.start.start_verdict.Goals as goal
use Rattle.request.proofs.start.start_verdict.Goals.{After-clock_verdict, After-date_verdict, Start as Begun}

module _ (s : Begun) where
  ut1_fits : SFits w64 s.args.start.ut1
  ut1_fits = search rules

  delta_fits : SFits w64 s.args.start.delta_t
  delta_fits = search rules

abbrev scales : Start → List ℕ
scales start = scale_refusals start.ut1 start.delta_t

-- 1 to 3
by_date : (c : After-date_verdict) → verdict_number c.date_verdict.result ≡ first (date_refusals (date c.args.start))
by_date c = c.date_verdict.ensures ∙ ap (λ (a : DayAnswer). first (date_refusals a)) c.date_of.ensures.equal

pub returns-in_err-date_verdict : goal.returns-in_err-date_verdict
returns-in_err-date_verdict c =
    let start = c.args.start in
    exit c.from_residual.result c.in_err-date_verdict.field-0.0 c.from_residual.ensures
    (refused_among (date_refusals (date start)) (clock_refusals start ++ scales start) c.in_err-date_verdict.was
    (by_date (goal.at.returns-in_err-date_verdict c).After-date_verdict))

pub returns-in_err-clock_verdict : goal.returns-in_err-clock_verdict
returns-in_err-clock_verdict c =
    let start = c.args.start in
    exit c.from_residual-in_err-clock_verdict.result c.in_err-clock_verdict.field-0.0 c.from_residual-in_err-clock_verdict.ensures
    (passed_all (date_refusals (date start)) (clock_refusals start ++ scales start) c.in_ok-date_verdict.was
    (by_date (goal.at.returns-in_err-clock_verdict c).After-date_verdict)
    (refused_among (clock_refusals start) (scales start) c.in_err-clock_verdict.was c.clock_verdict.ensures))

pub returns : goal.returns
returns c =
    let s = (goal.at.returns c).Start in
    let start = s.args.start in
    let same : scale_refusals _ _ ≡ scales start =
    λ i. scale_refusals (to_z-of_z w64 start.ut1 (ut1_fits s) i) (to_z-of_z w64 start.delta_t (delta_fits s) i) in
    passed_all (date_refusals (date start)) (clock_refusals start ++ scales start) c.in_ok-date_verdict.was
    (by_date (goal.at.returns c).After-date_verdict)
    (passed_all (clock_refusals start) (scales start) c.in_ok-clock_verdict.was c.clock_verdict.ensures
    (c.scale_verdict.ensures ∙ ap first same))
