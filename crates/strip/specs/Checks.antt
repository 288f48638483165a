-- The checks that reader and writer have in common (02, Item 6: refusals 23 to 25), and what an azimuth of a strip is.
use Rattle.std.specs.Prelude.{Bool, ◌&&◌, ◌||◌, true, List, [], ◌∷◌, ◌↔◌, ◌≡◌, ◌/◌, ℕ, eqb, ltb, nat_abs, pos, ℤ}
use Rattle.std.specs.Int.Signed.{le_z}
use Rattle.calendar.specs.Refusal.{◌unless◌}
use Rattle.day.specs.Curve.{minutes}
use Rattle.number_rules.specs.Calendar.{day_count}
use Rattle.numbers.specs.Whole.{between}
use Rattle.sky_vectors.specs.SkyRange.{latitude_limit, longitude_limit}
use Rattle.sum_rules.specs.Instant.{minus}
use Rattle.text.specs.Line.{all}
use Rattle.strip.specs.declared.header.Header.{Header}

-- where absent
abbrev pub absent : ℕ
absent = 4_294_967_295

-- a full turn, in 10⁻⁷ degree
abbrev pub full_turn : ℕ
full_turn = 3_600_000_000

-- 26: an azimuth at or above 3,600,000,000 that isn't the absent mark
abbrev pub is_azimuth : ℕ → Bool
is_azimuth n = ltb n full_turn || eqb n absent

-- each of a strip's numbers is one
unfoldable pub are_azimuths : List ℕ → Bool
are_azimuths azimuths = all is_azimuth azimuths

-- a date of document 01's
unfoldable pub is_date : Header → Bool
is_date header = eqb (day_count header.year header.month header.day).refusal 0

-- a longitude and a latitude of document 01's
unfoldable pub is_point : Header → Bool
is_point header =
    between (minus longitude_limit) header.longitude (pos longitude_limit) && between (minus latitude_limit) header.latitude (pos latitude_limit)

-- two whole numbers are the same where neither is above the other
abbrev pub same : ℤ → ℤ → Bool
same a b = le_z a b && le_z b a

abbrev pub SameTells : Type 0
SameTells = (a b : ℤ) → (same a b ≡ true) ↔ (a ≡ b)

-- a step in minutes: 1, 2, 5 or 10
unfoldable pub is_step : ℤ → Bool
is_step step = same step (pos 1) || (same step (pos 2) || (same step (pos 5) || same step (pos 10)))

-- how many a day has
abbrev pub steps : ℤ → ℕ
steps step = minutes / nat_abs step

-- 23 date, 24 point, 25 step
abbrev pub header_refusals : Header → List ℕ
header_refusals header =
    23 unless is_date header
    ∷ 24 unless is_point header
    ∷ 25 unless is_step header.step
    ∷ []
