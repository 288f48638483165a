-- Sidereal time (01, "Sidereal"), of UT.
use Rattle.std.specs.Prelude.{ℕ, ◌*◌, ℤ, pos, ◌+ℤ◌, ◌*ℤ◌}
use Rattle.arithmetic.specs.Floor.{⌊◌÷◌⌋}
use Rattle.number_rules.specs.Angle.{reduced}
use Rattle.number_rules.specs.Sine.{cosine}
use Rattle.sum_rules.specs.Instant.{day, p2, p3, minus}

-- a thousand days, since 36,098,564,736,629 is what the Earth turns in so many
abbrev pub sidereal_divisor : ℕ
sidereal_divisor = 1000 * day

-- 28,046,061,837 + ⌊36,098,564,736,629 UT / 86,400,000,000⌋ + ⌊387,933 p2 / 10⁷⌋ + ⌊-100 p3 / 38,710,000⌋, reduced
unfoldable pub mean : ℤ → ℕ
mean ut = reduced (pos 28_046_061_837 +ℤ ⌊ pos 36_098_564_736_629 *ℤ ut ÷ sidereal_divisor ⌋ +ℤ ⌊ pos 387_933 *ℤ p2 ut ÷ 10_000_000 ⌋
    +ℤ ⌊ minus 100 *ℤ p3 ut ÷ 38_710_000 ⌋)

-- add ⌊Δψ cos ε / 10⁹⌋
unfoldable pub apparent : ℤ → ℤ → ℤ → ℤ
apparent ut nutation obliquity = pos (mean ut) +ℤ ⌊ nutation *ℤ cosine obliquity ÷ 1_000_000_000 ⌋
