-- `eclipse::separation::Direction::dot` meets its contract.
use Rattle.numbers.proofs.Machine.{Mirror, ◌⊕◌, asked, fits, kept}
use Rattle.sky_vectors.specs.SkyRange.{SmallVector}
use Rattle.sky_vectors.proofs.SkyMirror.{x_in, y_in, z_in}
use Rattle.eclipse.specs.EclipseRange.{coordinate_limit}
use Rattle.eclipse.specs.Separation.{dot}
use Rattle.eclipse.proofs.CrossLaws.{product_gave, short_small}
use Rattle.eclipse.proofs.separation.Direction.dot.Goals as goal
use Rattle.eclipse.proofs.separation.Direction.dot.Goals.{After-product, After-product-2, After-product-3, Start}

module _ (s : Start) where
  abbrev sun : SmallVector coordinate_limit s.args.self.vector
  sun = short_small s.args.self.short

  abbrev moon : SmallVector coordinate_limit s.args.other.vector
  moon = short_small s.args.other.short

abbrev first : After-product → Start
first a = (goal.at.After-product a).Start

abbrev flat : After-product-2 → Mirror
flat b =
    let s = first (goal.at.After-product-2 b).After-product in
    product_gave (x_in (sun s) tt) (x_in (moon s) tt) b.product.type_inv b.product.ensures
    ⊕ product_gave (y_in (sun s) tt) (y_in (moon s) tt) b.product-2.type_inv b.product-2.ensures

abbrev result : After-product-3 → Mirror
result c =
    let s = first (goal.at.After-product-3 c).After-product in
    kept (flat (goal.at.After-product-3 c).After-product-2) tt ⊕ product_gave (z_in (sun s) tt) (z_in (moon s) tt) c.product-3.type_inv c.product-3.ensures

pub product-requires : goal.product-requires
product-requires c = let s = (goal.at.product-requires c).Start in (asked (x_in (sun s) tt) tt, asked (x_in (moon s) tt) tt)

pub product-requires-2 : goal.product-requires-2
product-requires-2 c = let s = first (goal.at.product-requires-2 c).After-product in (asked (y_in (sun s) tt) tt, asked (y_in (moon s) tt) tt)

pub overflow_add-result : goal.overflow_add-result
overflow_add-result b = fits (flat (goal.at.overflow_add-result b).After-product-2) tt

pub product-requires-3 : goal.product-requires-3
product-requires-3 c = let s = first (goal.at.product-requires-3 c).After-product in (asked (z_in (sun s) tt) tt, asked (z_in (moon s) tt) tt)

pub overflow_add-result-2 : goal.overflow_add-result-2
overflow_add-result-2 c = fits (result (goal.at.overflow_add-result-2 c).After-product-3) tt

pub returns : goal.returns
unfolding dot
returns c = (kept (result (goal.at.returns c).After-product-3) tt).same
