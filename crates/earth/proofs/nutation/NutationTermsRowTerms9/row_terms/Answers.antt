-- `earth::nutation::NutationTermsRowTerms9::row_terms` meets its contract.
use mathlib.Core.List.{List}
use mathlib.Core.Path.{◌∙◌, ◌≡◌, refl}
use lib.IntN.{◌*ℤ◌, ℤ}
use mir.Syntax.{w64}
use mir.Val.{of_z, to_z}
use Rattle.number_rules.specs.Sine.{cosine, sine}
use Rattle.numbers.proofs.Machine.{Mirror, asked, gave, passed, told}
use Rattle.sum_rules.specs.Nutation.{row_angle, weight}
use Rattle.sum_rules.specs.Table.{column}
use Rattle.earth.specs.NutationRange.{SmallRow}
use Rattle.sum_terms.proofs.NarrowMirror.{column_most, column_same}
use Rattle.earth.proofs.NutationLaws.{weight_small}
use Rattle.earth.proofs.nutation.NutationTermsRowTerms9.row_terms.Goals as goal
use Rattle.earth.proofs.nutation.NutationTermsRowTerms9.row_terms.Goals.{After-row_angle-angle, After-weight-first, After-weight-second, Start}

module _ (s : Start) where
  abbrev args : List ℤ
  args = s.args.self.now.arguments

  abbrev row : List ℤ
  row = s.args.row

  abbrev u : ℤ
  u = s.args.self.now.u

  abbrev u_mirror : Mirror
  u_mirror = told {r = u} refl s.requires.1.0 tt

  abbrev small : SmallRow row
  small = s.requires.1.1

-- where the function began, from each call
abbrev from_angle : After-row_angle-angle → Start
from_angle c = (goal.at.After-row_angle-angle c).Start

abbrev from_first : After-weight-first → Start
from_first c = from_angle (goal.at.After-weight-first c).After-row_angle-angle

abbrev from_second : After-weight-second → Start
from_second c = from_first (goal.at.After-weight-second c).After-weight-first

angle_is : (c : After-row_angle-angle) → to_z w64 (of_z w64 c.row_angle-angle.result) ≡ row_angle (args (from_angle c)) (row (from_angle c))
angle_is c = passed c.row_angle-angle.type_inv c.row_angle-angle.ensures

abbrev first : After-weight-first → Mirror
first c =
    let s = from_first c in
    gave c.weight-first.type_inv (c.weight-first.ensures ∙ (λ i. weight ((u_mirror s).same i) (column_same (small s) 5 tt tt i) (column_same (small s) 6 tt tt i)))
    (weight_small (u s) s.requires.1.0 (column (row s) 5) (column (row s) 6) (column_most (small s) 5 tt tt) (column_most (small s) 6 tt tt))

abbrev second : After-weight-second → Mirror
second c =
    let s = from_second c in
    gave c.weight-second.type_inv (c.weight-second.ensures ∙ (λ i. weight ((u_mirror s).same i) (column_same (small s) 7 tt tt i) (column_same (small s) 8 tt tt i)))
    (weight_small (u s) s.requires.1.0 (column (row s) 7) (column (row s) 8) (column_most (small s) 7 tt tt) (column_most (small s) 8 tt tt))

pub weighted-requires : goal.weighted-requires
weighted-requires c = (asked (first (goal.at.weighted-requires c).After-weight-first) tt, asked (second (goal.at.weighted-requires c).After-weight-second) tt)

pub returns : goal.returns
returns c =
    let w = (goal.at.returns c).After-weight-first in
    let angle = angle_is (goal.at.After-weight-first w).After-row_angle-angle in (
      c.weighted.ensures.0 ∙ (λ i. (first w).same i *ℤ sine (angle i)),
      c.weighted.ensures.1 ∙ (λ i. (second (goal.at.returns c).After-weight-second).same i *ℤ cosine (angle i)),
    )
