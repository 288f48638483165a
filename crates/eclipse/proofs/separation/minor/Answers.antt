-- `eclipse::separation::minor` meets its contract.
use Rattle.numbers.proofs.Machine.{Mirror, ◌⊖◌, arg, asked, fits, kept}
use Rattle.eclipse.specs.Separation.{minor}
use Rattle.eclipse.proofs.CrossLaws.{product_gave}
use Rattle.eclipse.proofs.separation.minor.Goals as goal
use Rattle.eclipse.proofs.separation.minor.Goals.{After-product-2, Start}

module _ (s : Start) where
  abbrev s1 : Mirror
  s1 = arg s.ranges.s1 s.requires.0

  abbrev s2 : Mirror
  s2 = arg s.ranges.s2 s.requires.1

  abbrev m1 : Mirror
  m1 = arg s.ranges.m1 s.requires.2

  abbrev m2 : Mirror
  m2 = arg s.ranges.m2 s.requires.3

abbrev result : After-product-2 → Mirror
result c =
    product_gave (s1 (goal.at.After-product-2 c).Start) (m2 (goal.at.After-product-2 c).Start) c.product.type_inv c.product.ensures ⊖ product_gave (s2 (goal.at.After-product-2 c).Start) (m1 (goal.at.After-product-2 c).Start) c.product-2.type_inv c.product-2.ensures

pub product-requires : goal.product-requires
product-requires s = (asked (s1 (goal.at.product-requires s).Start) tt, asked (m2 (goal.at.product-requires s).Start) tt)

pub product-requires-2 : goal.product-requires-2
product-requires-2 c = let s = (goal.at.product-requires-2 c).Start in (asked (s2 s) tt, asked (m1 s) tt)

pub overflow_sub-result : goal.overflow_sub-result
overflow_sub-result c = fits (result (goal.at.overflow_sub-result c).After-product-2) tt

pub returns : goal.returns
unfolding minor
returns c = (kept (result (goal.at.returns c).After-product-2) tt).same
