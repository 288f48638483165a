-- `answer::step_verdict` meets its contract.
use mathlib.Core.Bool.{Bool}
use mathlib.Core.List.{List, [], ◌∷◌}
use mathlib.Core.Path.{◌∙◌, ◌≡◌, ap}
use lib.Dec.{leb}
use lib.IntN.{ℤ}
use Prim.Native.Nat.{ℕ}
use Rattle.calendar.proofs.RefusalLaws.{check, exit, passed, refused}
use Rattle.calendar.specs.Refusal.{◌unless◌, verdict_number}
use Rattle.numbers.proofs.Machine.{any}
use Rattle.strip.specs.Checks.{is_step, steps}
use Rattle.day_azimuths.proofs.answer.step_verdict.Goals as goal
use Rattle.day_azimuths.proofs.answer.step_verdict.Goals.{After-unless}

abbrev after_step : ℤ → ℕ → List ℕ
after_step step room = 28 unless leb (steps step) room ∷ []

-- what the first check told
judged : (c : After-unless) → verdict_number c.unless.result ≡ 25 unless is_step c.args.step
judged c = c.unless.ensures ∙ ap (λ (p : Bool). 25 unless p) (c.is_step.ensures ∙ ap is_step (any c.ranges.step).same)

pub returns-in_err-unless : goal.returns-in_err-unless
returns-in_err-unless c =
    exit c.from_residual.result c.in_err-unless.field-0.0 c.from_residual.ensures
    (refused (after_step c.args.step c.args.room) c.in_err-unless.was (judged (goal.at.returns-in_err-unless c).After-unless))

pub returns : goal.returns
returns c =
    passed (after_step c.args.step c.args.room) c.in_ok-unless.was (judged (goal.at.returns c).After-unless)
    (check 28 c.unless-2.ensures (ap (λ (n : ℕ). leb n c.args.room) (c.steps_of.ensures ∙ ap steps (any c.ranges.step).same)))
