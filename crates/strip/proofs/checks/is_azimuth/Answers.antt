-- `checks::is_azimuth` meets its contract.
use mathlib.Core.Path.{refl}
use borrow.Author.Tests.{le-ltb, lt-ltb}
use Rattle.strip.specs.Checks.{full_turn}
use Rattle.strip.proofs.checks.is_azimuth.Goals as goal

pub returns-then-number-lt-FULL_TURN : goal.returns-then-number-lt-FULL_TURN
returns-then-number-lt-FULL_TURN c = rw (lt-ltb c.args.number full_turn c.if-number-lt-FULL_TURN.true) refl

pub returns-else-number-lt-FULL_TURN : goal.returns-else-number-lt-FULL_TURN
returns-else-number-lt-FULL_TURN c = rw (le-ltb c.args.number full_turn c.if-number-lt-FULL_TURN.false) refl
