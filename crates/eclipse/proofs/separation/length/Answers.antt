-- `eclipse::separation::length` meets its contract. The three squares, each at most 5.8·10¹⁸, fit 64 unsigned bits together.
use mathlib.Core.Path.{◌∙◌, ◌≡◌, ap, sym}
use Prim.Native.Nat.{◌+◌}
use native.Mathlib.Omega.{arith}
use lib.IntN.{nat_abs, ◌*ℤ◌, ◌+ℤ◌}
use mir.Syntax.{w64}
use mir.Val.{Fits}
use Rattle.numbers.specs.Root.{root}
use Rattle.numbers.proofs.Machine.{Mirror, ◌⊗◌, fits, kept}
use Rattle.sky_vectors.specs.SkyRange.{SmallVector}
use Rattle.sky_vectors.specs.declared.vector.Vector.{Vector}
use Rattle.sky_vectors.proofs.SkyMirror.{square_cast, square_is, x_in, y_in, z_in}
use Rattle.eclipse.specs.EclipseRange.{cross_limit}
use Rattle.eclipse.specs.Separation.{length}
use Rattle.eclipse.proofs.separation.length.Goals as goal
use Rattle.eclipse.proofs.separation.length.Goals.{Start}

module _ (v : Vector) (w : SmallVector cross_limit v) where
  abbrev x : Mirror
  x = x_in w tt

  abbrev y : Mirror
  y = y_in w tt

  abbrev z : Mirror
  z = z_in w tt

  abbrev xx : Mirror
  xx = kept (x ⊗ x) tt

  abbrev yy : Mirror
  yy = kept (y ⊗ y) tt

  abbrev zz : Mirror
  zz = kept (z ⊗ z) tt

  two_fit : Fits w64 (nat_abs xx.machine + nat_abs yy.machine)
  two_fit = rw (xx.same, yy.same) (record { fits = omega (arith, xx.bound, yy.bound) })

  three_fit : Fits w64 (nat_abs xx.machine + nat_abs yy.machine + nat_abs zz.machine)
  three_fit = rw (xx.same, yy.same, zz.same) (record { fits = omega (arith, xx.bound, yy.bound, zz.bound) })

  sum_is : nat_abs xx.machine + nat_abs yy.machine + nat_abs zz.machine ≡ nat_abs (v.x *ℤ v.x +ℤ v.y *ℤ v.y +ℤ v.z *ℤ v.z)
  sum_is =
      (λ i. nat_abs ((xx.same ∙ square_is v.x) i) + nat_abs ((yy.same ∙ square_is v.y) i) + nat_abs ((zz.same ∙ square_is v.z) i))
      ∙ (λ i. nat_abs (sym (square_is v.x) i +ℤ sym (square_is v.y) i +ℤ sym (square_is v.z) i))

abbrev start : Start → Start
start k = k

pub overflow_mul-x : goal.overflow_mul-x
overflow_mul-x c = let a = start (goal.at.overflow_mul-x c).Start in fits (x a.args.vector a.requires ⊗ x a.args.vector a.requires) tt

pub overflow_cast-x : goal.overflow_cast-x
overflow_cast-x c = let a = start (goal.at.overflow_cast-x c).Start in square_cast (x a.args.vector a.requires) tt (xx a.args.vector a.requires).same

pub overflow_mul-y : goal.overflow_mul-y
overflow_mul-y c = let a = start (goal.at.overflow_mul-y c).Start in fits (y a.args.vector a.requires ⊗ y a.args.vector a.requires) tt

pub overflow_cast-y : goal.overflow_cast-y
overflow_cast-y c = let a = start (goal.at.overflow_cast-y c).Start in square_cast (y a.args.vector a.requires) tt (yy a.args.vector a.requires).same

pub overflow_add-x : goal.overflow_add-x
overflow_add-x c = two_fit (start (goal.at.overflow_add-x c).Start).args.vector (start (goal.at.overflow_add-x c).Start).requires

pub overflow_mul-z : goal.overflow_mul-z
overflow_mul-z c = let a = start (goal.at.overflow_mul-z c).Start in fits (z a.args.vector a.requires ⊗ z a.args.vector a.requires) tt

pub overflow_cast-z : goal.overflow_cast-z
overflow_cast-z c = let a = start (goal.at.overflow_cast-z c).Start in square_cast (z a.args.vector a.requires) tt (zz a.args.vector a.requires).same

pub overflow_add-x-2 : goal.overflow_add-x-2
overflow_add-x-2 c = three_fit (start (goal.at.overflow_add-x-2 c).Start).args.vector (start (goal.at.overflow_add-x-2 c).Start).requires

pub returns : goal.returns
unfolding length
returns c = c.root.ensures ∙ ap root (sum_is (start (goal.at.returns c).Start).args.vector (start (goal.at.returns c).Start).requires)
