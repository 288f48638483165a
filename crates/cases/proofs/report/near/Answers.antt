-- `cases::report::near` meets its contract.
use Rattle.cases.proofs.report.near.Goals as goal

pub returns-then-expected-tolerance : goal.returns-then-expected-tolerance
returns-then-expected-tolerance c = simp c.if-expected-tolerance.true

pub returns-else-expected-tolerance : goal.returns-else-expected-tolerance
returns-else-expected-tolerance c = simp c.if-expected-tolerance.false
