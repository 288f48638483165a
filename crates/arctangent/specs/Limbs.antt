-- A whole number past 64 bits in two limbs: what its fields stand for.
use Rattle.std.specs.Prelude.{ℕ, ◌^◌, ◌≤◌, ℤ, pos, nat_abs, ◌+ℤ◌, ◌*ℤ◌, ◌≤ℤ◌, ◌<ℤ◌}
use Rattle.arctangent.specs.declared.limbs.Limbs.{Limbs}

-- 2²⁴
abbrev pub limb : ℕ
limb = 16_777_216

-- the number that both are
abbrev pub value : Limbs → ℤ
value a = a.high *ℤ pos limb +ℤ a.low

-- the low limb is a digit, and the number leaves room in the high one
pub record Proper (a : Limbs) : Type 0 where
  pub least : pos 0 ≤ℤ a.low
  pub most : a.low <ℤ pos limb
  pub room : nat_abs a.high ≤ 2 ^ 60
