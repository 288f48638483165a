-- `moon_sums::moon::MoonTermsRowTerms6::row_terms` meets its contract.
use mathlib.Core.List.{List, [], ◌∷◌}
use mathlib.Core.Path.{◌∙◌, ◌≡◌, ap}
use Prim.Native.Nat.{zero-le}
use lib.IntN.{◌*ℤ◌, nat_abs, pos, ℤ}
use mir.Syntax.{w32, w64}
use mir.Val.{of_z, to_z}
use Rattle.number_rules.specs.Sine.{cosine, sine}
use Rattle.numbers.proofs.Machine.{Mirror, asked, gave, passed}
use Rattle.sum_rules.specs.Moon.{row_angle, weight}
use Rattle.sum_rules.specs.Table.{column}
use Rattle.sum_rules.specs.declared.moon.Eccentricity.{Eccentricity}
use Rattle.moon_sums.specs.MoonRange.{Slight, SmallRow}
use Rattle.sum_terms.specs.TermRange.{Few, angle_of}
use Rattle.moon_sums.proofs.MoonLaws.{moon_angle, weight_small}
use Rattle.sum_terms.proofs.NarrowMirror.{column_handed, column_most, column_same}
use Rattle.sum_terms.proofs.TermLaws.{five}
use Rattle.moon_sums.proofs.moon.MoonTermsRowTerms6.row_terms.Goals as goal
use Rattle.moon_sums.proofs.moon.MoonTermsRowTerms6.row_terms.Goals.{After-angle_of-angle, After-weight-first, After-weight-second, Start}

module _ (s : Start) where
  abbrev args : List ℤ
  args = s.args.self.now.arguments

  abbrev e : Eccentricity
  e = s.args.self.now.e

  abbrev row : List ℤ
  row = s.args.row

  abbrev slight : Slight e
  slight = s.requires.1.0

  abbrev small : SmallRow row
  small = s.requires.1.1

  abbrev multiples : List ℤ
  multiples = pos 0 ∷ column row 0 ∷ column row 1 ∷ column row 2 ∷ column row 3 ∷ []

  abbrev read : List ℤ
  read = pos 0 ∷ to_z w32 (of_z w32 (column row 0)) ∷ to_z w32 (of_z w32 (column row 1)) ∷ to_z w32 (of_z w32 (column row 2)) ∷ to_z w32 (of_z w32 (column row 3)) ∷ []

  read_is : read ≡ multiples
  read_is = λ i. pos 0 ∷ column_same small 0 tt tt i ∷ column_same small 1 tt tt i ∷ column_same small 2 tt tt i ∷ column_same small 3 tt tt i ∷ []

  few : Few read
  few = record { below = five 4 _ _ _ _ _ zero-le (column_handed small 0 tt tt) (column_handed small 1 tt tt) (column_handed small 2 tt tt) (column_handed small 3 tt tt) }

-- where the function began, from each call
abbrev from_angle : After-angle_of-angle → Start
from_angle c = (goal.at.After-angle_of-angle c).Start

abbrev from_first : After-weight-first → Start
from_first c = from_angle (goal.at.After-weight-first c).After-angle_of-angle

abbrev from_second : After-weight-second → Start
from_second c = from_first (goal.at.After-weight-second c).After-weight-first

angle_is : (c : After-angle_of-angle) → to_z w64 (of_z w64 c.angle_of-angle.result) ≡ row_angle (args (from_angle c)) (row (from_angle c))
angle_is c =
    let s = from_angle c in
    passed c.angle_of-angle.type_inv (c.angle_of-angle.ensures ∙ ap (angle_of (args s)) (read_is s) ∙ moon_angle (args s) (row s))

abbrev first : After-weight-first → Mirror
first c =
    let s = from_first c in
    gave c.weight-first.type_inv (c.weight-first.ensures ∙ (λ i. weight (e s) (nat_abs (column_same (small s) 1 tt tt i)) (column_same (small s) 4 tt tt i)))
    (weight_small (e s) (slight s) (nat_abs (column (row s) 1)) (column (row s) 4) (column_most (small s) 4 tt tt))

abbrev second : After-weight-second → Mirror
second c =
    let s = from_second c in
    gave c.weight-second.type_inv (c.weight-second.ensures ∙ (λ i. weight (e s) (nat_abs (column_same (small s) 1 tt tt i)) (column_same (small s) 5 tt tt i)))
    (weight_small (e s) (slight s) (nat_abs (column (row s) 1)) (column (row s) 5) (column_most (small s) 5 tt tt))

pub weight-first-requires : goal.weight-first-requires
weight-first-requires c =
    let s = from_angle (goal.at.weight-first-requires c).After-angle_of-angle in
    (slight s, (column_handed (small s) 1 tt tt, column_handed (small s) 4 tt tt))

pub weight-second-requires : goal.weight-second-requires
weight-second-requires c =
    let s = from_first (goal.at.weight-second-requires c).After-weight-first in
    (slight s, (column_handed (small s) 1 tt tt, column_handed (small s) 5 tt tt))

pub weighted-requires : goal.weighted-requires
weighted-requires c = (asked (first (goal.at.weighted-requires c).After-weight-first) tt, asked (second (goal.at.weighted-requires c).After-weight-second) tt)

pub returns : goal.returns
returns c =
    let w = (goal.at.returns c).After-weight-first in
    let angle = angle_is (goal.at.After-weight-first w).After-angle_of-angle in (
      c.weighted.ensures.0 ∙ (λ i. (first w).same i *ℤ sine (angle i)),
      c.weighted.ensures.1 ∙ (λ i. (second (goal.at.returns c).After-weight-second).same i *ℤ cosine (angle i)),
    )
