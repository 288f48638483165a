-- `checks::header_verdict` meets its contract.
use mathlib.Core.Bool.{Bool}
use mathlib.Core.List.{List, [], ◌∷◌}
use mathlib.Core.Path.{◌∙◌, ap}
use Prim.Native.Nat.{ℕ}
use borrow.Author.Rules.{rules}
use mir.Syntax.{w64}
use mir.Val.{SFits}
use mir.ValLaws.{to_z-of_z}
use Rattle.calendar.proofs.RefusalLaws.{check, exit, passed, refused}
use Rattle.calendar.specs.Refusal.{◌unless◌}
use Rattle.strip.specs.Checks.{is_point, is_step}
use Rattle.strip.specs.declared.header.Header.{Header}
use Rattle.strip.proofs.checks.header_verdict.Goals as goal

-- what is judged behind the date, and behind the point
abbrev after_point : Header → List ℕ
after_point header = 25 unless is_step header.step ∷ []

abbrev after_date : Header → List ℕ
after_date header = 24 unless is_point header ∷ after_point header

pub returns-in_err-unless : goal.returns-in_err-unless
returns-in_err-unless c =
    let header = c.args.header in
    exit c.from_residual.result c.in_err-unless.field-0.0 c.from_residual.ensures
    (refused (after_date header) c.in_err-unless.was (c.unless.ensures ∙ ap (λ (p : Bool). 23 unless p) c.is_date.ensures))

pub returns-in_err-unless-2 : goal.returns-in_err-unless-2
returns-in_err-unless-2 c =
    let header = c.args.header in
    exit c.from_residual-in_err-unless-2.result c.in_err-unless-2.field-0.0 c.from_residual-in_err-unless-2.ensures
    (passed (after_date header) c.in_ok-unless.was (c.unless.ensures ∙ ap (λ (p : Bool). 23 unless p) c.is_date.ensures)
    (refused (after_point header) c.in_err-unless-2.was (c.unless-2.ensures ∙ ap (λ (p : Bool). 24 unless p) c.is_point.ensures)))

pub returns : goal.returns
returns c =
    let header = c.args.header in
    let step : SFits w64 header.step = search rules in
    passed (after_date header) c.in_ok-unless.was (c.unless.ensures ∙ ap (λ (p : Bool). 23 unless p) c.is_date.ensures)
    (passed (after_point header) c.in_ok-unless-2.was (c.unless-2.ensures ∙ ap (λ (p : Bool). 24 unless p) c.is_point.ensures)
    (check 25 c.unless-3.ensures (c.is_step.ensures ∙ ap is_step (to_z-of_z w64 header.step step))))
