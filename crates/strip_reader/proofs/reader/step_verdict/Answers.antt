-- `reader::step_verdict` meets its contract.
use mathlib.Core.List.{List, [], ◌∷◌}
use mathlib.Core.Path.{◌∙◌, ◌≡◌, ap}
use Prim.Native.Nat.{◌*◌, ◌+◌, ℕ}
use native.Mathlib.Omega.{arith}
use lib.Dec.{eqb}
use Rattle.calendar.proofs.RefusalLaws.{check, exit, passed, refused}
use Rattle.calendar.specs.Refusal.{◌unless◌, verdict_number}
use Rattle.numbers.proofs.Machine.{any}
use Rattle.strip.proofs.CheckLaws.{steps_most}
use Rattle.strip.specs.Checks.{are_azimuths, steps}
use Rattle.strip.specs.Format.{azimuth_size, azimuths_in, header_follows}
use Rattle.strip_reader.proofs.reader.step_verdict.Goals as goal
use Rattle.strip_reader.proofs.reader.step_verdict.Goals.{After-steps_of, After-unless}

-- how many steps there are
module _ (c : After-steps_of) where
  counted : c.steps_of.result ≡ steps c.args.step
  counted = c.steps_of.ensures ∙ ap steps (any c.ranges.step).same

pub overflow_mul-steps_of : goal.overflow_mul-steps_of
overflow_mul-steps_of c = omega (arith, counted (goal.at.overflow_mul-steps_of c).After-steps_of, steps_most c.args.step)

pub overflow_add-steps_of : goal.overflow_add-steps_of
overflow_add-steps_of c = omega (arith, counted (goal.at.overflow_add-steps_of c).After-steps_of, steps_most c.args.step)

by_length : (c : After-unless) → verdict_number c.unless.result ≡ 20 unless eqb c.args.stated (header_follows + azimuth_size * steps c.args.step)
by_length c =
    c.unless.ensures ∙ ap (λ (n : ℕ). 20 unless eqb c.args.stated (header_follows + azimuth_size * n)) (counted (goal.at.After-unless c).After-steps_of)

abbrev after_length : List ℕ → List ℕ
after_length part = 26 unless are_azimuths (azimuths_in part) ∷ []

pub returns-in_err-unless : goal.returns-in_err-unless
returns-in_err-unless c =
    exit c.from_residual.result c.in_err-unless.field-0.0 c.from_residual.ensures
    (refused (after_length c.args.part.now) c.in_err-unless.was (by_length (goal.at.returns-in_err-unless c).After-unless))

pub returns : goal.returns
returns c =
    passed (after_length c.args.part.now) c.in_ok-unless.was (by_length (goal.at.returns c).After-unless)
    (check 26 c.unless-2.ensures c.are_azimuths.ensures)
