-- The share by its cases, and how large the overlap's numbers grow.
use mathlib.Core.Bool.{Bool, cond, false, true}
use mathlib.Core.Path.{◌∙◌, ◌≡◌, ap, refl}
use Prim.Native.Nat.{◌%◌, ◌*◌, ◌+◌, ◌-◌, ◌/◌, ◌<◌, ◌≤◌, min, ℕ}
use native.Mathlib.Nat.{div-add-mod, div-le_of_le-mul, le_refl, le_trans, mul-add-div, mul-le-mul, mul-le-mul_left, mul-le-mul_right}
use native.Mathlib.Omega.{arith}
use lib.Dec.{T, leb, leb→le, lit≤, ltb}
use lib.IntN.{◌*ℤ◌, ◌-ℤ◌, nat_abs, negsuc, pos, ℤ}
use lib.Signed.{lt_z}
use borrow.Author.Tests.{le-leb, le-ltb, lt-leb, lt-ltb, ltb-false}
use Rattle.std.specs.Int.{int_max}
use Rattle.std.proofs.lemmas.Bool.Decides.{nat_tests}
use Rattle.arithmetic.specs.Floor.{⌊◌÷◌⌋}
use Rattle.arithmetic.proofs.FloorLaws.{floor_most}
use Rattle.arithmetic.proofs.Sizes.{mul_bound, sub_bound}
use Rattle.overlap.specs.DiskRange.{Crossing, radius_most, sun_radius_least}
use Rattle.number_rules.specs.Angle.{half_turn}
use Rattle.number_rules.specs.Sine.{sine}
use Rattle.number_rules.proofs.SineSize.{sine_most}
use Rattle.numbers.specs.Root.{root}
use Rattle.numbers.proofs.RootLaws.{root_most}
use Rattle.overlap.specs.Overlap.{half_angle, lens, millionths, piece, ring, share, sun_height, whole}
use Rattle.overlap.proofs.ShortWayLaws.{short_most}

-- ---- the cases of the share
pub share_nothing : (apart rs rm : ℕ) → rs + rm ≤ apart → share apart rs rm ≡ 0
unfolding share
share_nothing apart rs rm h = rw (le-leb (rs + rm) apart h) refl

module _ (apart rs rm : ℕ) (near : apart < rs + rm) where
  pub share_whole : rs ≤ rm → apart ≤ rm - rs → share apart rs rm ≡ whole
  unfolding share
  share_whole h k = rw (lt-leb (rs + rm) apart near, le-leb rs rm h, le-leb apart (rm - rs) k) refl

  pub share_ring : rm < rs → apart ≤ rs - rm → share apart rs rm ≡ ring rs rm
  unfolding share
  share_ring h k = rw (lt-leb (rs + rm) apart near, lt-leb rs rm h, lt-ltb rm rs h, le-leb apart (rs - rm) k) refl

  pub share_large_moon : rs ≤ rm → rm - rs < apart → share apart rs rm ≡ millionths (lens apart rs rm)
  unfolding share
  share_large_moon h k = rw (lt-leb (rs + rm) apart near, le-leb rs rm h, lt-leb apart (rm - rs) k, le-ltb rm rs h) refl

  pub share_small_moon : rm < rs → rs - rm < apart → share apart rs rm ≡ millionths (lens apart rs rm)
  unfolding share
  share_small_moon h k = rw (lt-leb (rs + rm) apart near, lt-leb rs rm h, lt-ltb rm rs h, lt-leb apart (rs - rm) k) refl

-- ---- the clamp, and that it clamps
pub clamped : (part : ℤ) → min (nat_abs (int_max part (pos 0)) / 1000) whole ≡ millionths part
unfolding millionths
clamped (pos n) = grind (arith, nat_tests)
clamped (negsuc n) = grind (arith, nat_tests)

module _ (part : ℤ) where
  abbrev floored : ℕ
  floored = nat_abs part / 1000

  pub millionths_most : millionths part ≤ whole
  unfolding millionths
  millionths_most = go (lt_z part (pos 0)) (ltb whole floored) refl
    where
      go : (b c : Bool) → ltb whole floored ≡ c → cond b 0 (cond c whole floored) ≤ whole
      go true c e = omega arith
      go false true e = omega arith
      go false false e = omega (arith, ltb-false whole floored e)

-- ---- the ring: at most the whole, and its two digits
pub ring_most : (rs rm : ℕ) → rm ≤ rs → ring rs rm ≤ whole
unfolding ring
ring_most rs rm h = div-le_of_le-mul (rs * rs) (omega (arith, mul-le-mul h h))

pub ring_digits : (sun moon : ℕ) → 0 < sun → 1_000_000 * moon / sun ≡ 1000 * moon / sun * 1000 + 1000 * moon % sun * 1000 / sun
ring_digits sun moon h =
    let q = 1000 * moon / sun in
    let r = 1000 * moon % sun in
    let e : 1_000_000 * moon ≡ sun * (q * 1000) + r * 1000 = omega (arith, div-add-mod (1000 * moon) sun) in
    ap (λ (n : ℕ). n / sun) e ∙ mul-add-div h (q * 1000) (r * 1000)

-- ---- the common chord lies within the overlap, whose width passes neither circle
pub height_within : {apart rs rm : ℕ} → Crossing apart rs rm → sun_height apart rs rm ≤ rs + rm - apart
unfolding sun_height
height_within {apart} {rs} {rm} c =
    let width = rs + rm - apart in
    let l : apart + rm - rs ≤ 2 * apart = omega (arith, c.moon_out) in
    div-le_of_le-mul (2 * apart) (omega (arith, mul-le-mul_left width l))

-- no disk is wider
abbrev pub diameter_most : ℕ
diameter_most = 2 * radius_most

-- ---- sizes: a piece is not much more than the disk, and stays so times rm / rs
module _ (r k : ℕ) where
  pub half_angle_most : half_angle r k ≤ half_turn
  unfolding half_angle
  half_angle_most = short_most (pos (root (k * (2 * r - k)))) (pos r -ℤ pos k)

  pub piece_most : nat_abs (piece r k) ≤ 1_200_000_000
  unfolding piece
  piece_most =
      let ω = half_angle r k in
      let l : ω / 18 ≤ 1_000_000_000 = omega (arith, half_angle_most) in
      le_trans
      (sub_bound (pos (ω / 18)) ⌊ pos 159_154_943 *ℤ sine (pos (2 * ω)) ÷ 1_000_000_000 ⌋ l
      (floor_most (pos 159_154_943 *ℤ sine (pos (2 * ω))) 1_000_000_000 (159_154_943 * 1_000_000_001)
      (mul_bound (pos 159_154_943) (sine (pos (2 * ω))) (le_refl 159_154_943) (sine_most (pos (2 * ω))))))
      (lit≤ tt)

  module _ (h : r ≤ radius_most) (l : k ≤ 2 * r) where
    pub chord_fits : k * (2 * r - k) ≤ diameter_most * diameter_most
    chord_fits =
        let a : k ≤ diameter_most = omega arith in
        let b : 2 * r - k ≤ diameter_most = omega arith in
        mul-le-mul a b

    pub half_chord_most : root (k * (2 * r - k)) ≤ diameter_most
    half_chord_most = root_most (k * (2 * r - k)) diameter_most (omega (arith, chord_fits))

pub over_sun : (z : ℤ) (rs m k : ℕ) → nat_abs z ≤ m → sun_radius_least ≤ rs → T (leb m (sun_radius_least * k)) → nat_abs ⌊ z ÷ rs ⌋ ≤ k + 1
over_sun z rs m k h l t =
    let q : m / rs ≤ k = div-le_of_le-mul rs (le_trans (leb→le m (sun_radius_least * k) t) (mul-le-mul_right k l)) in
    omega (arith, floor_most z rs m h)
