-- `date::day_verdict` meets its contract.
use mathlib.Core.List.{List, ◌++◌}
use mathlib.Core.Path.{◌∙◌, ◌≡◌, ap}
use Prim.Native.Nat.{ℕ}
use borrow.Author.Rules.{rules}
use mir.Syntax.{w64}
use mir.Val.{SFits}
use mir.ValLaws.{to_z-of_z}
use Rattle.number_rules.specs.Calendar.{DayAnswer}
use Rattle.calendar.proofs.RefusalLaws.{exit, passed_all, refused_among}
use Rattle.calendar.specs.Refusal.{first, verdict_number}
use Rattle.request.specs.Request.{date as start_date, date_refusals, point_refusals, scale_refusals}
use Rattle.day.specs.Date.{count}
use Rattle.day.specs.declared.date.Date.{Date}
use Rattle.day.proofs.date.day_verdict.Goals as goal
use Rattle.day.proofs.date.day_verdict.Goals.{After-date_verdict, After-scale_verdict, Start}

module _ (s : Start) where
  ut1_fits : SFits w64 s.args.date.ut1
  ut1_fits = search rules

  delta_fits : SFits w64 s.args.date.delta_t
  delta_fits = search rules

abbrev dates : Date → List ℕ
dates date = date_refusals (count date)

abbrev scales : Date → List ℕ
scales date = scale_refusals date.ut1 date.delta_t

-- 1 to 3
by_date : (c : After-date_verdict) → verdict_number c.date_verdict.result ≡ first (dates c.args.date)
by_date c = c.date_verdict.ensures ∙ ap (λ (a : DayAnswer). first (date_refusals a)) (c.date_of.ensures.equal ∙ ap start_date c.midnight.ensures)

-- 5 and 6
by_scale : (c : After-scale_verdict) → verdict_number c.scale_verdict.result ≡ first (scales c.args.date)
by_scale c =
    let s = (goal.at.After-scale_verdict c).Start in
    let asked = s.args.date in
    c.scale_verdict.ensures ∙ (λ i. first (scale_refusals (to_z-of_z w64 asked.ut1 (ut1_fits s) i) (to_z-of_z w64 asked.delta_t (delta_fits s) i)))

pub returns-in_err-date_verdict : goal.returns-in_err-date_verdict
returns-in_err-date_verdict c =
    let asked = c.args.date in
    exit c.from_residual.result c.in_err-date_verdict.field-0.0 c.from_residual.ensures
    (refused_among (dates asked) (scales asked ++ point_refusals c.args.point) c.in_err-date_verdict.was
    (by_date (goal.at.returns-in_err-date_verdict c).After-date_verdict))

pub returns-in_err-scale_verdict : goal.returns-in_err-scale_verdict
returns-in_err-scale_verdict c =
    let asked = c.args.date in
    exit c.from_residual-in_err-scale_verdict.result c.in_err-scale_verdict.field-0.0 c.from_residual-in_err-scale_verdict.ensures
    (passed_all (dates asked) (scales asked ++ point_refusals c.args.point) c.in_ok-date_verdict.was
    (by_date (goal.at.returns-in_err-scale_verdict c).After-date_verdict)
    (refused_among (scales asked) (point_refusals c.args.point) c.in_err-scale_verdict.was (by_scale (goal.at.returns-in_err-scale_verdict c).After-scale_verdict)))

pub returns : goal.returns
returns c =
    let asked = c.args.date in
    passed_all (dates asked) (scales asked ++ point_refusals c.args.point) c.in_ok-date_verdict.was
    (by_date (goal.at.returns c).After-date_verdict)
    (passed_all (scales asked) (point_refusals c.args.point) c.in_ok-scale_verdict.was (by_scale (goal.at.returns c).After-scale_verdict) c.point_verdict.ensures)
