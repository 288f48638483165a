-- `sky_vectors::place::from_surface` meets its contract.
use mathlib.Core.Path.{◌∙◌, subst⁻¹}
use borrow.Author.Rules.{rules}
use Rattle.numbers.proofs.Machine.{Mirror, field}
use Rattle.sky_vectors.specs.Observer.{shifted}
use Rattle.sky_vectors.specs.Place.{from_surface}
use Rattle.sky_vectors.specs.SkyRange.{SmallVector, vector_limit}
use Rattle.sky_vectors.proofs.SkySizes.{centre_small, widen}
use Rattle.sky_vectors.proofs.place.from_surface.Goals as goal
use Rattle.sky_vectors.proofs.place.from_surface.Goals.{Start}

abbrev parallax : Start → Mirror
parallax s = field s.args.body.parallax s.requires.0 tt

pub shifted-requires : goal.shifted-requires
shifted-requires c = (
  search rules,
  c.requires.1,
  subst⁻¹ (SmallVector vector_limit) c.from_centre.ensures (widen tt (centre_small c.args.body c.args.orientation)),
)

pub returns : goal.returns
unfolding from_surface
returns c =
    let s = (goal.at.returns c).Start in
    c.shifted.ensures ∙ (λ i. shifted ((parallax s).same i) s.args.observer (c.from_centre.ensures i))
