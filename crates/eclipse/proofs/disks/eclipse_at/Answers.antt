-- `eclipse::disks::eclipse_at` meets its contract.
use mathlib.Core.Path.{◌∙◌, subst⁻¹}
use Rattle.sky_vectors.specs.SkyRange.{Standing}
use Rattle.sky_vectors.proofs.SkySizes.{runner_stands}
use Rattle.eclipse.specs.Eclipse.{eclipse_at, eclipse_from}
use Rattle.eclipse.proofs.disks.eclipse_at.Goals as goal

pub eclipse_from-requires : goal.eclipse_from-requires
eclipse_from-requires c =
    (subst⁻¹ Standing c.runner_at.ensures (runner_stands c.args.point c.requires.0), c.requires.1)

pub returns : goal.returns
unfolding eclipse_at
returns c = c.eclipse_from.ensures ∙ (λ i. eclipse_from (c.runner_at.ensures i) c.args.instant)
