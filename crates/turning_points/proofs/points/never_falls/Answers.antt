-- `points::never_falls` meets its contract.
use lib.Dec.{ltb}
use Rattle.std.proofs.Common.{rules, tests}
use Rattle.std.proofs.lemmas.Fn.{always_returns_same}
use Rattle.turning_points.proofs.PointLaws.{rising_told}
use Rattle.turning_points.proofs.points.never_falls.Goals as goal

pub returns : goal.returns
returns c = rising_told c.args.minutes.now c.is_sorted_by.result (c.is_sorted_by.ensures.cases ltb (always_returns_same _ _ _ (λ a r f' k. search (rules, tests))))
