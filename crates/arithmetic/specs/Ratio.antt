-- A whole number over a whole number above zero, as a pair (01, "Reference"), with its sums and products.
use Rattle.std.specs.Prelude.{Bool, ◌≡◌, ◌*◌, ◌+◌, suc, ℕ, ◌*ℤ◌, ◌+ℤ◌, neg_ℤ, pos, ℤ}
use Rattle.std.specs.Float.Ieee.Positive.{num}
use Rattle.std.specs.Int.Signed.{non_neg}
use Rattle.arithmetic.specs.Floor.{⌊◌÷◌⌋}

-- the denominator is kept less one, so that none is zero
pub record Ratio : Type 0 where
  pub num : ℤ
  pub den_1 : ℕ

abbrev pub den : Ratio → ℤ
den x = pos (suc x.den_1)

-- equal by cross-multiplying
infix 4 ◌~◌
abbrev pub ◌~◌ : Ratio → Ratio → Type 0
x ~ y = x.num *ℤ den y ≡ y.num *ℤ den x

-- (a + 1) (b + 1), less one
abbrev pub times : ℕ → ℕ → ℕ
times a b = b + a * suc b

abbrev pub sum : Ratio → Ratio → Ratio
sum x y = record { num = x.num *ℤ den y +ℤ y.num *ℤ den x; den_1 = times x.den_1 y.den_1 }

abbrev pub product : Ratio → Ratio → Ratio
product x y = record { num = x.num *ℤ y.num; den_1 = times x.den_1 y.den_1 }

abbrev pub opposite : Ratio → Ratio
opposite x = record { num = neg_ℤ x.num; den_1 = x.den_1 }

abbrev pub whole : ℤ → Ratio
whole a = record { num = a; den_1 = 0 }

-- at or above zero
abbrev pub not_negative : Ratio → Bool
not_negative x = non_neg x.num

-- the greatest whole number that is not above
abbrev pub floor : Ratio → ℤ
floor x = ⌊ x.num ÷ suc x.den_1 ⌋
