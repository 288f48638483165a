use mathlib.Core.Path.{◌≡◌}
use Rattle.arctangent.specs.Arctangent.{steps}
use Rattle.arctangent.specs.Turning.{Both, turning}
use Rattle.arctangent.proofs.turning.turned.Given as goal

abbrev pub invariant-loop-k : goal.invariant-loop-k
invariant-loop-k g l =
    let t = g.T.Coordinate in (turning t.number l.r ≡ steps l.k (turning t.number l.initial.r)) × Both t.IsProper l.r
