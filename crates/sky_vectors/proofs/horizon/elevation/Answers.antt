-- `sky_vectors::horizon::elevation` meets its contract: each call's equation, put into the next.
use mathlib.Core.Path.{◌∙◌, ◌≡◌, ap, ap₂}
use lib.IntN.{ℤ}
use Rattle.numbers.proofs.Machine.{Mirror, asked, field, gave, passed}
use Rattle.sky_vectors.specs.Horizon.{clamped, elevation, level, lowered, slope}
use Rattle.sky_vectors.proofs.SkyMirror.{slope_most}
use Rattle.sky_vectors.proofs.horizon.elevation.Goals as goal
use Rattle.sky_vectors.proofs.horizon.elevation.Goals.{After-slope, Start}

module _ (c : After-slope) where
  abbrev start : Start
  start = (goal.at.After-slope c).Start

  abbrev up : ℤ
  up = start.args.seen.up

  abbrev flat : ℤ
  flat = level start.args.seen

  slope_is : c.slope.result ≡ slope up flat
  slope_is =
      c.slope.ensures
      ∙ ap₂ slope (field up start.requires.up_size tt).same (passed c.level.type_inv c.level.ensures)

  abbrev angle : Mirror
  angle = gave c.slope.type_inv slope_is (slope_most up flat)

pub lowered-requires : goal.lowered-requires
lowered-requires c = asked (angle (goal.at.lowered-requires c).After-slope) tt

pub returns : goal.returns
unfolding elevation
returns c =
    passed c.clamped.type_inv (c.clamped.ensures ∙ ap clamped (passed c.lowered.type_inv (c.lowered.ensures ∙ ap lowered (angle (goal.at.returns c).After-slope).same)))
