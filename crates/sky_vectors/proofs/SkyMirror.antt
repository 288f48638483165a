-- The fields of a vector as mirrors, and what the sky's calls ask and give in mirrors.
use mathlib.Core.Path.{◌∙◌, ◌≡◌, ap, refl}
use Prim.Native.Nat.{◌*◌, ◌^◌, ◌≤◌, ℕ}
use native.Mathlib.Nat.{le_of_lt, le_trans}
use native.Mathlib.Omega.{arith}
use lib.Dec.{T, leb, leb→le, lit≤, ltb}
use lib.IntN.{◌*ℤ◌, nat_abs, negsuc, pos, ℤ}
use lib.Signed.{non_neg}
use mir.Syntax.{w64}
use mir.Val.{Fits, SFits, to_z}
use mir.ValLaws.{to_z_pos}
use Rattle.arithmetic.proofs.Sizes.{mul_bound}
use Rattle.number_rules.specs.Angle.{full_turn}
use Rattle.arctangent.specs.Arctangent.{angle_of, arctangent}
use Rattle.arctangent.proofs.ArctangentLaws.{angle_below, angle_most, angle_natural, arctangent_reduced}
use Rattle.numbers.proofs.Machine.{Mirror, field, nat_fits}
use Rattle.sky_vectors.specs.Horizon.{elevation_of_zeros, slope}
use Rattle.sky_vectors.specs.SkyRange.{SmallVector}
use Rattle.sky_vectors.specs.declared.vector.Vector.{Vector}

module _ {m : ℕ} {v : Vector} (w : SmallVector m v) (t : T (ltb m (2 ^ 63))) where
  abbrev pub x_in : Mirror
  x_in = field v.x w.x_size t

  abbrev pub y_in : Mirror
  y_in = field v.y w.y_size t

  abbrev pub z_in : Mirror
  z_in = field v.z w.z_size t

-- ---- the angle of a pair, as a signed number
pub angle_fits : {r : ℕ} (y x : Mirror) → r ≡ angle_of y.machine x.machine → SFits w64 (pos r)
angle_fits {r} y x e = nat_fits {n = r} {m = full_turn} (rw e (le_of_lt (angle_below y.machine x.machine))) tt

abbrev pub angle_gave : {r : ℕ} (y x : Mirror) → r ≡ angle_of y.machine x.machine → Mirror
angle_gave {r} y x e =
    record {
      machine = to_z w64 r;
      number = pos (angle_of y.number x.number);
      most = full_turn;
      same = to_z_pos w64 r (angle_fits y x e).sfits ∙ ap pos (e ∙ (λ i. angle_of (y.same i) (x.same i)));
      bound = le_of_lt (angle_below y.number x.number);
    }

pub slope_most : (up level : ℤ) → nat_abs (slope up level) ≤ full_turn
unfolding slope
slope_most up level = angle_most elevation_of_zeros (arctangent up level) (lit≤ tt) (arctangent_reduced up level)

-- it is not below zero
pub slope_natural : (up level : ℤ) → slope up level ≡ pos (nat_abs (slope up level))
unfolding slope
slope_natural up level = angle_natural 0 (arctangent up level)

-- ---- a square, as an unsigned number
pub square_is : (z : ℤ) → z *ℤ z ≡ pos (nat_abs z * nat_abs z)
square_is (pos n) = refl
square_is (negsuc n) = refl

pub square_most : (x : Mirror) → T (leb x.most 3_000_000_000) → nat_abs (x.number *ℤ x.number) ≤ 9_000_000_000_000_000_000
square_most x t =
    let l = le_trans x.bound (leb→le x.most 3_000_000_000 t) in
    mul_bound x.number x.number l l

pub square_cast : (x : Mirror) → T (leb x.most 3_000_000_000) → {m : ℤ} → m ≡ x.number *ℤ x.number → T (non_neg m) × Fits w64 (nat_abs m)
square_cast x t e = rw (e ∙ square_is x.number) (tt, record { fits = omega (arith, rw square_is at (square_most x t)) })
