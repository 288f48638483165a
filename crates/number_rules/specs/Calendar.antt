-- The day count (01, "Time", and refusals 1 to 3): d = days from 2000-01-01 in the Gregorian calendar.
use Rattle.std.specs.Prelude.{Bool, cond, not, ◌&&◌, ◌||◌, ℕ, zero, suc, ◌+◌, ◌%◌, eqb, ℤ, pos, nat_abs, ◌-ℤ◌}
use Rattle.std.specs.Int.Signed.{le_z}

unfoldable pub leap : ℕ → Bool
leap y = eqb (y % 400) 0 || (not (eqb (y % 100) 0) && eqb (y % 4) 0)

-- 31 days, but 30 in April, June, September and November, and 28 or 29 in February
unfoldable pub month_length : ℕ → ℕ → ℕ
month_length y m = cond (eqb m 2) (cond (leap y) 29 28) (cond (eqb m 4 || (eqb m 6 || (eqb m 9 || eqb m 11))) 30 31)

unfoldable pub year_length : ℕ → ℕ
year_length y = cond (leap y) 366 365

-- the days of the years from 0 on that lie before y
unfoldable pub days_to_year : ℕ → ℕ
days_to_year zero = 0
days_to_year (suc y) = days_to_year y + year_length y

-- the days of the months from 1 on that lie before m
unfoldable pub days_to_month : ℕ → ℕ → ℕ
days_to_month y zero = 0
days_to_month y (suc zero) = 0
days_to_month y (suc (suc m)) = days_to_month y (suc m) + month_length y (suc m)

unfoldable pub day_number : ℕ → ℕ → ℕ → ℕ
day_number y m d = days_to_year y + days_to_month y m + d

unfoldable pub days_from_2000 : ℕ → ℕ → ℕ → ℤ
days_from_2000 y m d = pos (day_number y m d) -ℤ pos (day_number 2000 1 1)

-- an answer in 01's numbers: the refusal, 0 where there is none, and d, 0 where refused
pub record DayAnswer : Type 0 where
  pub refusal : ℕ
  pub days : ℤ

-- the first refusal that applies: 1 year 1900 to 2100, 2 month 1 to 12, 3 the day exists in that month
unfoldable pub day_count : ℤ → ℤ → ℤ → DayAnswer
day_count y m d =
    cond (le_z (pos 1900) y && le_z y (pos 2100))
    (cond (le_z (pos 1) m && le_z m (pos 12))
    (cond (le_z (pos 1) d && le_z d (pos (month_length (nat_abs y) (nat_abs m))))
    (record { refusal = 0; days = days_from_2000 (nat_abs y) (nat_abs m) (nat_abs d) })
    (record { refusal = 3; days = pos 0 }))
    (record { refusal = 2; days = pos 0 }))
    (record { refusal = 1; days = pos 0 })
