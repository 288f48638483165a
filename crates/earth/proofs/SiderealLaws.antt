-- How large the apparent sidereal time is.
use Prim.Native.Nat.{◌*◌, ◌^◌, ◌≤◌}
use native.Mathlib.Nat.{le_trans}
use lib.Dec.{lit≤}
use lib.IntN.{◌*ℤ◌, nat_abs, pos, ℤ}
use Rattle.arithmetic.specs.Floor.{⌊◌÷◌⌋}
use Rattle.arithmetic.proofs.FloorLaws.{floor_most}
use Rattle.arithmetic.proofs.Sizes.{add_bound, mul_bound}
use Rattle.number_rules.specs.Angle.{full_turn}
use Rattle.number_rules.specs.Sine.{cosine}
use Rattle.number_rules.proofs.SineSize.{cosine_most}
use Rattle.sum_rules.specs.Sidereal.{apparent, mean}
use Rattle.sum_terms.proofs.InstantLaws.{mean_most}

pub apparent_most : (ut nutation obliquity : ℤ) → nat_abs nutation ≤ 2 ^ 26 → nat_abs (apparent ut nutation obliquity) ≤ 2 ^ 36
unfolding apparent
apparent_most ut nutation obliquity h =
    le_trans
    (add_bound (pos (mean ut)) ⌊ nutation *ℤ cosine obliquity ÷ 1_000_000_000 ⌋ {m = full_turn} (mean_most ut)
    (floor_most (nutation *ℤ cosine obliquity) 1_000_000_000 (2 ^ 26 * 1_000_000_001) (mul_bound nutation (cosine obliquity) h (cosine_most obliquity))))
    (lit≤ tt)
