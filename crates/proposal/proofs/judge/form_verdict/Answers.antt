-- `judge::form_verdict` meets its contract.
use mathlib.Core.Bool.{true}
use mathlib.Core.List.{[], ◌∷◌}
use mathlib.Core.Path.{◌∙◌, ◌≡◌, ap, sym}
use Rattle.calendar.proofs.RefusalLaws.{alone, exit, passed, passes, refused}
use Rattle.calendar.specs.Refusal.{◌unless◌, number, verdict_number}
use Rattle.turning_points.proofs.PointLaws.{formed_tests}
use Rattle.turning_points.specs.Points.{are_turned, is_formed}
use Rattle.proposal.proofs.judge.form_verdict.Goals as goal
use Rattle.proposal.proofs.judge.form_verdict.Goals.{After-unless}

-- 29
by_form : (c : After-unless) → verdict_number c.unless.result ≡ 29 unless is_formed c.args.points.minutes.now c.args.points.azimuths.now
by_form c = c.unless.ensures ∙ (λ i. number (c.into.ensures i) unless c.is_formed.ensures i)

pub returns-in_err-unless : goal.returns-in_err-unless
returns-in_err-unless c =
    let a = c.args.points in
    exit c.from_residual.result c.in_err-unless.field-0.0 c.from_residual.ensures
    (refused (30 unless are_turned a.azimuths.now ∷ []) c.in_err-unless.was (by_form (goal.at.returns-in_err-unless c).After-unless))

pub are_turned-requires : goal.are_turned-requires
are_turned-requires c =
    let a = c.args.points in
    let formed : is_formed a.minutes.now a.azimuths.now ≡ true =
    passes 28 (is_formed a.minutes.now a.azimuths.now) (sym (by_form (goal.at.are_turned-requires c).After-unless) ∙ ap verdict_number c.in_ok-unless.was) in
    (formed_tests a.minutes.now a.azimuths.now formed).2

pub returns : goal.returns
returns c =
    let a = c.args.points in
    passed (30 unless are_turned a.azimuths.now ∷ []) c.in_ok-unless.was (by_form (goal.at.returns c).After-unless)
    (alone (c.unless-2.ensures ∙ (λ i. number (c.into-2.ensures i) unless c.are_turned.ensures i)))
