-- `cases::report::double` meets its contract: a double holds any whole number within a turn.
use mathlib.Core.Path.{◌∙◌, ◌≡◌}
use lib.Ieee as Ieee
use lib.IntN.{pos}
use native.Mathlib.Omega.{arith}
use Rattle.numbers.proofs.Machine.{any, arg}
use Rattle.number_rules.specs.Angle.{full_turn}
use Rattle.refraction.proofs.DoubleMirror.{is_double}
use Rattle.request.proofs.RequestLaws.{between_size, tested}
use Rattle.numbers.specs.Whole.{between}
use Rattle.sum_rules.specs.Instant.{minus}
use Rattle.cases.specs.Compare.{whole}
use Rattle.cases.proofs.report.double.Goals as goal
use Rattle.cases.proofs.report.double.Goals.{After-is_between}

-- the test of x itself
judged : (c : After-is_between) → between (minus full_turn) c.args.x (pos full_turn) ≡ c.is_between.result
judged c = tested (minus full_turn) c.args.x (pos full_turn) c.ranges.x c.is_between.ensures

pub int_to_float-result : goal.int_to_float-result
int_to_float-result c =
    let passes = judged (goal.at.int_to_float-result c).After-is_between ∙ c.if-is_between.true in
    is_double (arg c.ranges.x (between_size full_turn full_turn c.args.x (omega arith) passes)) tt

pub returns-then-is_between : goal.returns-then-is_between
unfolding whole
returns-then-is_between c =
    rw (any c.ranges.x).same (simp (judged (goal.at.returns-then-is_between c).After-is_between ∙ c.if-is_between.true))

pub returns-else-is_between : goal.returns-else-is_between
unfolding whole Ieee.of_bits Ieee.of_int
returns-else-is_between c = simp (judged (goal.at.returns-else-is_between c).After-is_between ∙ c.if-is_between.false)
