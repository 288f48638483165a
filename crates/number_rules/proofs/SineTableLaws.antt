-- The sine table's rule, at each entry, by a test that is computed over the whole table.
use mathlib.Core.Bool.{Bool, ◌&&◌}
use mathlib.Core.Path.{subst, sym}
use Prim.Native.Nat.{◌≤◌, ℕ}
use native.Mathlib.Omega.{arith}
use lib.Dec.{T, leb, leb→le}
use mir.Facts.{and_yes}
use Rattle.arithmetic.specs.Floor.{⌊◌÷◌⌋}
use Rattle.arithmetic.proofs.Table.{at, every}
use Rattle.exact.specs.Fraction.{Within, ◌*q◌, ◌+q◌, ◌-q◌, ◌over◌, floor, inv, nat, negq, nn, whole, ℚ}
use Rattle.exact.proofs.Addition.{sin₄₀}
use Rattle.exact.proofs.Horner.{horner, sin_horner, sin₄₀_is}
use Rattle.exact.proofs.Order.{within_test}
use Rattle.exact.proofs.ReferenceLaws.{plain, plain_is, radian, sine_reference}
use Rattle.number_rules.specs.Sine.{entry}
use Rattle.number_rules.specs.SineTable.{EachNearest, NearestSine, sines}

abbrev pub half : ℚ
half = nat 1 over 2

abbrev pub billion : ℚ
billion = nat 1_000_000_000

-- k quarter degrees in radians
abbrev pub quarters : ℕ → ℚ
quarters k = nat k over 4 *q radian

-- the entry is within half of the series at an angle that needs no turn taken off
miss : ℕ → ℕ → ℚ
miss k e = nat e -q billion *q sin_horner 20 (quarters k)

test : ℕ → ℕ → Bool
test k e = plain (nat k over 4) && (nn (half +q miss k e) && nn (half -q miss k e))

tested : T (every test 0 0 sines)
unfolding test miss plain sines sin_horner horner floor ⌊◌÷◌⌋ nn whole inv ◌+q◌ ◌*q◌ negq
tested = tt

small_test : ℕ → ℕ → Bool
small_test k e = leb e 1_000_000_000

module _ (k : ℕ) (h : k ≤ 360) where
  passed : T (test k (entry k))
  unfolding sines
  passed = at test 0 sines tested k (omega arith)

  pub entry_sine : Within (nat (entry k) -q billion *q sin₄₀ (quarters k)) half
  unfolding test miss
  entry_sine =
      subst (λ z. Within (nat (entry k) -q billion *q z) half) (sym (sin₄₀_is (quarters k)))
      (within_test (miss k (entry k)) half (and_yes (plain (nat k over 4)) _ passed).1)

  -- the rule of 01
  pub nearest_sine : NearestSine k (entry k)
  unfolding test
  nearest_sine =
      subst (λ z. Within (nat (entry k) -q billion *q z) half) (sym (plain_is sine_reference (nat k over 4) (and_yes (plain (nat k over 4)) _ passed).0))
      entry_sine

  -- no entry passes 10⁹
  pub entry_small : entry k ≤ 1_000_000_000
  unfolding sines small_test
  entry_small = leb→le (entry k) 1_000_000_000 (at small_test 0 sines tt k (omega arith))

-- each entry is the nearest
pub each_nearest : EachNearest
each_nearest k h = nearest_sine k h
