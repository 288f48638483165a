-- `sky_vectors::horizon::level` meets its contract. The two squares, each at most 9·10¹⁸, fit 64 unsigned bits together.
use mathlib.Core.Path.{◌∙◌, ◌≡◌, ap, ap₂, sym}
use Prim.Native.Nat.{◌+◌, ◌≤◌}
use native.Mathlib.Omega.{arith}
use lib.IntN.{◌*ℤ◌, ◌+ℤ◌, nat_abs, pos, ℤ}
use mir.Syntax.{w64}
use mir.Val.{Fits, SFits}
use mir.ValLaws.{to_z_pos}
use Rattle.numbers.specs.Root.{root}
use Rattle.numbers.proofs.Machine.{Mirror, ◌⊗◌, field, fits, kept, nat_fits}
use Rattle.numbers.proofs.RootLaws.{root_most}
use Rattle.sky_vectors.specs.Horizon.{level}
use Rattle.sky_vectors.specs.declared.horizon.Horizon.{Horizon}
use Rattle.sky_vectors.proofs.SkyMirror.{square_cast, square_is, square_most}
use Rattle.sky_vectors.proofs.horizon.level.Goals as goal
use Rattle.sky_vectors.proofs.horizon.level.Goals.{After-root, After-struct_told-2-1, Start}

module _ (k : After-struct_told-2-1) where
  abbrev start : Start
  start = k.before.before

  abbrev seen : Horizon
  seen = start.args.seen

  abbrev north : Mirror
  north = field seen.north start.requires.north_size tt

  abbrev east : Mirror
  east = field seen.east start.requires.east_size tt

  abbrev north² : Mirror
  north² = kept (north ⊗ north) tt

  abbrev east² : Mirror
  east² = kept (east ⊗ east) tt

  sum_fits : Fits w64 (nat_abs north².machine + nat_abs east².machine)
  sum_fits = rw (north².same, east².same) (record { fits = omega (arith, square_most north tt, square_most east tt) })

  -- neither square is below zero, so their sizes add
  sum_is : nat_abs north².machine + nat_abs east².machine ≡ nat_abs (seen.north *ℤ seen.north +ℤ seen.east *ℤ seen.east)
  sum_is =
      ap₂ (λ (x y : ℤ). nat_abs x + nat_abs y) (north².same ∙ square_is seen.north) (east².same ∙ square_is seen.east)
      ∙ ap₂ (λ (x y : ℤ). nat_abs (x +ℤ y)) (sym (square_is seen.north)) (sym (square_is seen.east))

module _ (c : After-root) where
  root_small : c.root.result ≤ 4_294_967_295
  root_small =
      let k = c.before in
      rw c.root.ensures (root_most (nat_abs (north² k).machine + nat_abs (east² k).machine) 4_294_967_295 (omega (arith, sum_fits k)))

  root_fits : SFits w64 (pos c.root.result)
  root_fits = nat_fits root_small tt

pub overflow_mul-north : goal.overflow_mul-north
overflow_mul-north c = fits (north (goal.at.overflow_mul-north c).After-struct_told-2-1 ⊗ north (goal.at.overflow_mul-north c).After-struct_told-2-1) tt

pub overflow_cast-north : goal.overflow_cast-north
overflow_cast-north c = square_cast (north (goal.at.overflow_cast-north c).After-struct_told-2-1) tt (north² (goal.at.overflow_cast-north c).After-struct_told-2-1).same

pub overflow_mul-east : goal.overflow_mul-east
overflow_mul-east c = fits (east (goal.at.overflow_mul-east c).After-struct_told-2-1 ⊗ east (goal.at.overflow_mul-east c).After-struct_told-2-1) tt

pub overflow_cast-east : goal.overflow_cast-east
overflow_cast-east c = square_cast (east (goal.at.overflow_cast-east c).After-struct_told-2-1) tt (east² (goal.at.overflow_cast-east c).After-struct_told-2-1).same

pub overflow_add-north : goal.overflow_add-north
overflow_add-north c = sum_fits (goal.at.overflow_add-north c).After-struct_told-2-1

pub overflow_cast-result : goal.overflow_cast-result
overflow_cast-result c = root_fits (goal.at.overflow_cast-result c).After-root

pub returns : goal.returns
unfolding level
returns c = to_z_pos w64 c.root.result (root_fits (goal.at.returns c).After-root).sfits ∙ ap pos (c.root.ensures ∙ ap root (sum_is (goal.at.returns c).After-struct_told-2-1))
