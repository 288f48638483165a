-- `points::azimuth_at` meets its contract.
use mathlib.Core.Path.{◌∙◌}
use native.Mathlib.Omega.{arith}
use lib.IntN.{pos}
use lib.ListN.{get_or}
use borrow.Author.Rules.{rules}
use mir.Syntax.{w64}
use mir.Val.{SFits}
use Rattle.heading.proofs.HeadingLaws.{below_turn, natural}
use Rattle.numbers.proofs.Machine.{any, to_nat}
use Rattle.turning_points.proofs.PointLaws.{reduced_at}
use Rattle.turning_points.proofs.points.azimuth_at.Goals as goal

pub overflow_cast-result : goal.overflow_cast-result
overflow_cast-result c =
    let entry = get_or c.args.azimuths.now c.args.index (pos 0) in
    let fits : SFits w64 entry = search rules in
    let reduced = reduced_at c.args.azimuths.now c.requires.0 c.args.index c.requires.1 in
    to_nat ((any fits).same ∙ natural entry reduced) (omega (arith, below_turn entry reduced))
