-- `eclipse::separation::Direction::cross` meets its contract.
use mathlib.Core.Path.{◌∙◌}
use Rattle.numbers.proofs.Machine.{Mirror, asked, passed}
use Rattle.sky_vectors.proofs.SkyMirror.{x_in, y_in, z_in}
use Rattle.eclipse.specs.Separation.{cross, minor}
use Rattle.eclipse.proofs.CrossLaws.{short_small}
use Rattle.eclipse.proofs.separation.Direction.cross.Goals as goal
use Rattle.eclipse.proofs.separation.Direction.cross.Goals.{After-minor, After-minor-2, Start}

module _ (s : Start) where
  abbrev sx : Mirror
  sx = x_in (short_small s.args.self.short) tt

  abbrev sy : Mirror
  sy = y_in (short_small s.args.self.short) tt

  abbrev sz : Mirror
  sz = z_in (short_small s.args.self.short) tt

  abbrev mx : Mirror
  mx = x_in (short_small s.args.other.short) tt

  abbrev my : Mirror
  my = y_in (short_small s.args.other.short) tt

  abbrev mz : Mirror
  mz = z_in (short_small s.args.other.short) tt

-- four numbers are read for each coordinate
abbrev first : Start → Start
first k = k

abbrev second : After-minor → After-minor
second k = k

abbrev third : After-minor-2 → After-minor-2
third k = k

pub minor-requires : goal.minor-requires
minor-requires k = let s = first (goal.at.minor-requires k).Start in (asked (sy s) tt, asked (sz s) tt, asked (my s) tt, asked (mz s) tt)

pub minor-requires-2 : goal.minor-requires-2
minor-requires-2 k = let s = first (goal.at.After-minor (second (goal.at.minor-requires-2 k).After-minor)).Start in (asked (sz s) tt, asked (sx s) tt, asked (mz s) tt, asked (mx s) tt)

pub minor-requires-3 : goal.minor-requires-3
minor-requires-3 k = let s = first (goal.at.After-minor (second (goal.at.After-minor-2 (third (goal.at.minor-requires-3 k).After-minor-2)).After-minor)).Start in (asked (sx s) tt, asked (sy s) tt, asked (mx s) tt, asked (my s) tt)

pub returns : goal.returns
unfolding cross
returns c =
    let b = third (goal.at.returns c).After-minor-2 in
    let a = second (goal.at.After-minor-2 b).After-minor in
    let s = first (goal.at.After-minor a).Start in
    λ i. record {
      x = passed a.minor.type_inv (a.minor.ensures ∙ (λ j. minor ((sy s).same j) ((sz s).same j) ((my s).same j) ((mz s).same j))) i;
      y = passed b.minor-2.type_inv (b.minor-2.ensures ∙ (λ j. minor ((sz s).same j) ((sx s).same j) ((mz s).same j) ((mx s).same j))) i;
      z = passed c.minor-3.type_inv (c.minor-3.ensures ∙ (λ j. minor ((sx s).same j) ((sy s).same j) ((mx s).same j) ((my s).same j))) i;
    }
