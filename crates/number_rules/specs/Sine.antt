-- Sine and cosine (01, "Sine"): times 10⁹, of any angle in 10⁻⁸ degree.
use Rattle.std.specs.Prelude.{cond, ℕ, ◌+◌, ◌-◌, ◌*◌, ◌/◌, ◌%◌, leb, ltb, ℤ, pos, neg_ℤ, ◌+ℤ◌, get_or}
use Rattle.number_rules.specs.Angle.{half_turn, quarter_turn, reduced}
use Rattle.number_rules.specs.SineTable.{sines}

abbrev pub entry : ℕ → ℕ
entry k = get_or sines k 0

-- the rest h in radians, and its cosine and sine, times 10⁹
abbrev pub radians : ℕ → ℕ
radians h = 1_745_329_252 * h / 10_000_000_000

abbrev pub rest_cosine : ℕ → ℕ
rest_cosine r = 1_000_000_000 - r * r / 2_000_000_000

abbrev pub rest_sine : ℕ → ℕ
rest_sine r = r - r * r / 1_000_000_000 * r / 6_000_000_000

-- from 0 to 90 degrees: quarter k, rest h
unfoldable pub quarter_sine : ℕ → ℕ
quarter_sine y =
    let k = y / 25_000_000 in
    let r = radians (y % 25_000_000) in
    (entry k * rest_cosine r + entry (360 - k) * rest_sine r) / 1_000_000_000

-- fold: at or above 180 degrees subtract 180 (and negate the result); above 90 take 180 minus it
unfoldable pub half_fold : ℕ → ℕ
half_fold a = cond (ltb quarter_turn a) (half_turn - a) a

unfoldable pub fold : ℕ → ℕ
fold a = half_fold (cond (leb half_turn a) (a - half_turn) a)

unfoldable pub negated_from_half : ℕ → ℕ → ℤ
negated_from_half a s = cond (leb half_turn a) (neg_ℤ (pos s)) (pos s)

-- of a reduced angle
unfoldable pub sine_at : ℕ → ℤ
sine_at a = negated_from_half a (quarter_sine (fold a))

-- reduce, then fold
unfoldable pub sine : ℤ → ℤ
sine x = sine_at (reduced x)

-- cosine is sine a quarter turn on
unfoldable pub cosine : ℤ → ℤ
cosine x = sine (x +ℤ pos quarter_turn)
