-- `checks::is_step` meets its contract.
use native.Mathlib.Omega.{arith}
use mathlib.Core.Logic.{◌⊎◌, ⊎_elim}
use mathlib.Core.Path.{◌≡◌, ap, sym}
use lib.IntN.{pos}
use Rattle.std.proofs.lemmas.Int.{ints}
use Rattle.strip.specs.Checks.{is_step}
use Rattle.strip.proofs.checks.is_step.Goals as goal

pub returns-in-1 : goal.returns-in-1
unfolding is_step
returns-in-1 c = grind (arith, ints)

pub returns-in-1-2 : goal.returns-in-1-2
unfolding is_step
returns-in-1-2 c =
    let h : (c.args.step ≡ pos 1) ⊎ (c.args.step ≡ pos 2) = grind (arith, ints) in
    ⊎_elim (λ e. sym (ap is_step e)) (λ e. sym (ap is_step e)) h

pub returns-in_default : goal.returns-in_default
unfolding is_step
returns-in_default c = grind (arith, ints)

pub returns-in_default-2 : goal.returns-in_default-2
unfolding is_step
returns-in_default-2 c = grind (arith, ints)
