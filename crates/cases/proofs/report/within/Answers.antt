-- `cases::report::within` meets its contract.
use mathlib.Core.Path.{◌∙◌, ap}
use Rattle.numbers.proofs.Machine.{any}
use Rattle.cases.specs.Compare.{near, whole}
use Rattle.cases.proofs.report.within.Goals as goal

pub returns : goal.returns
returns c =
    let value = c.double.ensures ∙ ap whole (any c.ranges.value).same in
    let expected = c.double-2.ensures ∙ ap whole (any c.ranges.expected).same in
    let tolerance = c.double-3.ensures ∙ ap whole (any c.ranges.tolerance).same in
    c.near.ensures ∙ (λ i. near (value i) (expected i) (tolerance i))
