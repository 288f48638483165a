-- `sky_vectors::place::place_at` meets its contract.
use mathlib.Core.Path.{◌∙◌, subst⁻¹}
use Rattle.sky_vectors.specs.Place.{place_at, place_from}
use Rattle.sky_vectors.specs.SkyRange.{Standing}
use Rattle.sky_vectors.proofs.SkySizes.{runner_stands}
use Rattle.sky_vectors.proofs.place.place_at.Goals as goal

pub place_from-requires : goal.place_from-requires
place_from-requires c =
    (subst⁻¹ Standing c.runner_at.ensures (runner_stands c.args.point c.requires.0), c.requires.1)

pub returns : goal.returns
unfolding place_at
returns c =
    c.place_from.ensures ∙ (λ i. place_from c.args.body (c.runner_at.ensures i) c.args.instant)
