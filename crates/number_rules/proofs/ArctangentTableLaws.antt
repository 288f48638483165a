-- The arctangent table's rule, at each entry, by a test that is computed over the whole table.
use mathlib.Core.Bool.{Bool, ◌&&◌}
use mathlib.Core.Path.{◌∙◌, ◌≡◌, subst₂, sym}
use Prim.Native.Nat.{◌*◌, ◌<◌, ◌^◌, ◌≤◌, ℕ}
use native.Mathlib.Omega.{arith}
use lib.Dec.{T, leb, leb→le}
use lib.IntN.{◌+ℤ◌, ◌-ℤ◌, pos}
use mir.Facts.{and_yes}
use Rattle.arithmetic.specs.Floor.{⌊◌÷◌⌋}
use Rattle.arithmetic.proofs.Table.{at, every}
use Rattle.exact.specs.Fraction.{◌*q◌, ◌+q◌, ◌-q◌, ◌over◌, ◌≤q◌, floor, inv, nat, negq, nn, whole, ℚ}
use Rattle.exact.specs.Reference.{cos°, sin°}
use Rattle.exact.proofs.Horner.{cos_horner, cos₄₀_is, horner, sin_horner, sin₄₀_is}
use Rattle.exact.proofs.ReferenceLaws.{cosine_reference, plain, plain_is, radian, sine_reference}
use Rattle.number_rules.specs.ArctangentTable.{EachNearest, NearestArctangent, arctangents, turn_by}

abbrev below : ℕ → ℚ
below t = whole (pos (2 * t) -ℤ pos 1) over 200_000_000

abbrev above : ℕ → ℚ
above t = whole (pos (2 * t) +ℤ pos 1) over 200_000_000

-- half a unit either side, at angles that need no turn taken off
test : ℕ → ℕ → Bool
test k t =
    (plain (below t) && plain (above t))
    && (nn (cos_horner 20 (below t *q radian) -q sin_horner 20 (below t *q radian) *q nat (2 ^ k))
    && nn (sin_horner 20 (above t *q radian) *q nat (2 ^ k) -q cos_horner 20 (above t *q radian)))

tested : T (every test 0 0 arctangents)
unfolding test plain arctangents sin_horner cos_horner horner floor ⌊◌÷◌⌋ nn whole inv ◌+q◌ ◌*q◌ negq
tested = tt

small_test : ℕ → ℕ → Bool
small_test k t = leb t 4_500_000_000

module _ (k : ℕ) (h : k < 30) where
  passed : T (test k (turn_by k))
  unfolding arctangents
  passed = at test 0 arctangents tested k (omega arith)

  -- the rule of 01
  pub nearest_arctangent : NearestArctangent k (turn_by k)
  unfolding test
  nearest_arctangent =
      let t = turn_by k in
      let u = and_yes (plain (below t) && plain (above t)) _ passed in
      let p = and_yes (plain (below t)) (plain (above t)) u.0 in
      let q = and_yes (nn (cos_horner 20 (below t *q radian) -q sin_horner 20 (below t *q radian) *q nat (2 ^ k))) _ u.1 in
      record {
        not_above =
            subst₂ (λ x y. x *q nat (2 ^ k) ≤q y) (sym (sine_of (below t) p.0)) (sym (cosine_of (below t) p.0)) (record { diff = record { is = q.0 } });
        not_below =
            subst₂ (λ x y. y ≤q x *q nat (2 ^ k)) (sym (sine_of (above t) p.1)) (sym (cosine_of (above t) p.1)) (record { diff = record { is = q.1 } });
      }
    where
      sine_of : (x : ℚ) → T (plain x) → sin° x ≡ sin_horner 20 (x *q radian)
      sine_of x t = plain_is sine_reference x t ∙ sin₄₀_is (x *q radian)

      cosine_of : (x : ℚ) → T (plain x) → cos° x ≡ cos_horner 20 (x *q radian)
      cosine_of x t = plain_is cosine_reference x t ∙ cos₄₀_is (x *q radian)

  pub turn_small : turn_by k ≤ 4_500_000_000
  unfolding arctangents small_test
  turn_small = leb→le (turn_by k) 4_500_000_000 (at small_test 0 arctangents tt k (omega arith))

-- each entry is the nearest
pub each_nearest : EachNearest
each_nearest k h = nearest_arctangent k h
