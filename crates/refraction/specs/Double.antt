-- Doubles (01, "Refraction": each operation once in double): IEEE's operations, each rounded once.
-- Two values that a double holds are `≡` just where their bits agree, +0.0 and -0.0 told apart, but for NaN (the kit's laws `of_bits-to_bits` and `to_bits-of_bits`).
-- The kit has one NaN, without sign or payload: `≡` to it says that a result is a NaN, and not which of NaN's bit patterns it has.
use Rattle.std.specs.Prelude.{false, true, ◌≡◌, ℕ, ℤ, pos, Float}
use Rattle.std.specs.Float.Ieee as Ieee
use Rattle.std.specs.Float.{binary64, fin, inf, nan}

infixl 60 ◌+d◌
infixl 70 ◌*d◌ ◌/d◌
abbrev pub ◌+d◌ : Float → Float → Float
x +d y = Ieee.add binary64 x y

abbrev pub ◌*d◌ : Float → Float → Float
x *d y = Ieee.mul binary64 x y

abbrev pub ◌/d◌ : Float → Float → Float
x /d y = Ieee.div binary64 x y

-- a whole number as a double
abbrev pub double : ℤ → Float
double z = Ieee.of_int binary64 z

abbrev pub zero_degrees : Float
zero_degrees = double (pos 0)

-- the double nearest to n over d
abbrev pub nearest : ℕ → ℕ → Float
nearest n d = Ieee.round binary64 false n d

-- by IEEE's comparison: +0.0 and -0.0, and no NaN
abbrev pub IsZero : Float → Type 0
IsZero x = Ieee.eq x zero_degrees ≡ true

-- neither NaN nor an infinity
abbrev pub IsFinite : Float → Type 0
IsFinite nan = ⊥
IsFinite (inf s) = ⊥
IsFinite (fin s m e) = Unit {0}
