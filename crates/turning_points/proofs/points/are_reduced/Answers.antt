-- `points::are_reduced` meets its contract.
use mathlib.Core.Path.{◌≡◌}
use mathlib.Core.Bool.{true, false}
use lib.IntN.{ℤ}
use Rattle.std.proofs.Common.{rules, tests}
use Rattle.std.proofs.lemmas.Iterator.{YieldsList-from_slice, cases_from_all}
use Rattle.heading.specs.Heading.{is_reduced}
use Rattle.turning_points.proofs.PointLaws.{reduced_told}
use Rattle.turning_points.proofs.points.are_reduced.Goals as goal

pub returns : goal.returns
returns c = reduced_told c.args.azimuths.now c.all.result
    (cases_from_all _ _ _ (λ (x : ℤ). is_reduced x ≡ true) (λ (x : ℤ). is_reduced x ≡ false) c.all.ensures.ran (YieldsList-from_slice c.args.azimuths.now cc) (λ x q k. search (rules, tests)) (λ x q k. search (rules, tests)))
