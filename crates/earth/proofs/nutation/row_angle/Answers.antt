-- `earth::nutation::row_angle` meets its contract.
use mathlib.Core.List.{List, [], ◌∷◌}
use mathlib.Core.Path.{◌∙◌, ◌≡◌, ap}
use lib.IntN.{ℤ}
use mir.Syntax.{w32}
use mir.Val.{of_z, to_z}
use Rattle.numbers.proofs.Machine.{passed}
use Rattle.sum_rules.specs.Table.{column}
use Rattle.earth.specs.NutationRange.{SmallRow}
use Rattle.sum_terms.specs.TermRange.{Few, angle_of}
use Rattle.sum_terms.proofs.NarrowMirror.{column_handed, column_same}
use Rattle.sum_terms.proofs.TermLaws.{five}
use Rattle.earth.proofs.nutation.row_angle.Goals as goal
use Rattle.earth.proofs.nutation.row_angle.Goals.{Start}

module _ (s : Start) where
  abbrev row : List ℤ
  row = s.args.row

  abbrev small : SmallRow row
  small = s.requires.1

  abbrev multiples : List ℤ
  multiples = column row 0 ∷ column row 1 ∷ column row 2 ∷ column row 3 ∷ column row 4 ∷ []

  abbrev read : List ℤ
  read =
      to_z w32 (of_z w32 (column row 0)) ∷ to_z w32 (of_z w32 (column row 1)) ∷ to_z w32 (of_z w32 (column row 2)) ∷ to_z w32 (of_z w32 (column row 3)) ∷ to_z w32 (of_z w32 (column row 4)) ∷ []

  read_is : read ≡ multiples
  read_is = λ i.
      column_same small 0 tt tt i ∷ column_same small 1 tt tt i ∷ column_same small 2 tt tt i ∷ column_same small 3 tt tt i ∷ column_same small 4 tt tt i ∷ []

  few : Few read
  few = record {
    below = five 4 _ _ _ _ _ (column_handed small 0 tt tt) (column_handed small 1 tt tt) (column_handed small 2 tt tt) (column_handed small 3 tt tt) (column_handed small 4 tt tt);
  }

pub angle_of-requires : goal.angle_of-requires
angle_of-requires c =
    let s = (goal.at.angle_of-requires c).Start in
    (s.requires.0, few s)

pub returns : goal.returns
returns c =
    let s = (goal.at.returns c).Start in
    passed c.angle_of.type_inv (c.angle_of.ensures ∙ ap (angle_of s.args.arguments) (read_is s))
