-- The covered share of the Sun's disk in millionths (02, Item 4; docs/ECLIPSE.md, section 4), by the two-circle area: the centres lie so far apart, and the radii are rs and rm, in 10⁻⁸
-- degree.
use Rattle.std.specs.Prelude.{◌&&◌, cond, ◌*◌, ◌+◌, ◌-◌, ◌/◌, ℕ, leb, ltb, ◌*ℤ◌, ◌+ℤ◌, ◌-ℤ◌, nat_abs, pos, ℤ}
use Rattle.std.specs.Int.Signed.{lt_z}
use Rattle.arithmetic.specs.Floor.{⌊◌÷◌⌋}
use Rattle.number_rules.specs.Sine.{sine}
use Rattle.numbers.specs.Root.{root}
use Rattle.overlap.specs.ShortArctangent.{short_arctangent}

-- ω, half the angle of a chord that cuts a piece of height k off a disk of radius r: the arctangent of (root(k (2r - k)), r - k)
unfoldable pub half_angle : ℕ → ℕ → ℕ
half_angle r k = short_arctangent (pos (root (k * (2 * r - k)))) (pos r -ℤ pos k)

-- that piece in 10⁻⁹ of the disk: ⌊ω / 18⌋ - ⌊159,154,943 sine(2ω) / 10⁹⌋
unfoldable pub piece : ℕ → ℕ → ℤ
piece r k = let ω = half_angle r k in pos (ω / 18) -ℤ ⌊ pos 159_154_943 *ℤ sine (pos (2 * ω)) ÷ 1_000_000_000 ⌋

-- the Sun's piece of the lens is ⌊(rs + rm - d)(d + rm - rs) / 2d⌋ high
unfoldable pub sun_height : ℕ → ℕ → ℕ → ℕ
sun_height apart rs rm = (rs + rm - apart) * (apart + rm - rs) / (2 * apart)

-- the Sun's piece, and the Moon's times rm / rs, twice, in 10⁻⁹ of the Sun's disk
unfoldable pub lens : ℕ → ℕ → ℕ → ℤ
lens apart rs rm =
    let k = sun_height apart rs rm in
    piece rs k +ℤ ⌊ ⌊ piece rm (rs + rm - apart - k) *ℤ pos rm ÷ rs ⌋ *ℤ pos rm ÷ rs ⌋

-- the whole of the Sun's disk
abbrev pub whole : ℕ
whole = 1_000_000

-- 10⁻⁹ to millionths, kept within 0 and the whole
unfoldable pub millionths : ℤ → ℕ
millionths part = cond (lt_z part (pos 0)) 0 (cond (ltb whole (nat_abs part / 1000)) whole (nat_abs part / 1000))

-- ⌊10⁶ rm² / rs²⌋
unfoldable pub ring : ℕ → ℕ → ℕ
ring rs rm = whole * (rm * rm) / (rs * rs)

-- nothing; the whole; the ring; any other overlap
unfoldable pub share : ℕ → ℕ → ℕ → ℕ
share apart rs rm =
    cond (leb (rs + rm) apart) 0
    (cond (leb rs rm && leb apart (rm - rs)) whole
    (cond (ltb rm rs && leb apart (rs - rm)) (ring rs rm)
    (millionths (lens apart rs rm))))
