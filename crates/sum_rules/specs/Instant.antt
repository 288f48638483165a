-- Time (01, "Time"): instants counted from noon of 2000-01-01 in a unit of time, their powers, and the polynomials in them.
use Rattle.std.specs.Prelude.{◌≡◌, ℕ, ◌*◌, ◌/◌, ◌^◌, ◌≤◌, ◌<◌, ℤ, pos, neg_ℤ, nat_abs, ◌+ℤ◌, ◌*ℤ◌, ◌-ℤ◌, ◌≤ℤ◌, ◌<ℤ◌}
use Rattle.arithmetic.specs.Floor.{⌊◌÷◌⌋}
use Rattle.number_rules.specs.Angle.{reduced}
use Rattle.number_rules.specs.Calendar.{days_from_2000}
use Rattle.sum_rules.specs.declared.instant.Polynomial.{Polynomial}
use Rattle.sum_rules.specs.declared.instant.Powers.{Powers}

-- THE UNIT OF TIME, a millisecond: so many to a second
abbrev pub second : ℕ
second = 1000

abbrev pub day : ℕ
day = 86_400 * second

-- a Julian century, and ten
abbrev pub century : ℕ
century = 36_525 * day

abbrev pub millennium : ℕ
millennium = 10 * century

-- UT = 86,400,000 d - 43,200,000 + milliseconds of the day + (UT1 minus UTC)
abbrev pub universal_time : ℤ → ℤ → ℤ → ℤ
universal_time d elapsed ut1 = pos day *ℤ d -ℤ pos (day / 2) +ℤ elapsed +ℤ ut1

-- TT = UT + delta-T
abbrev pub terrestrial_time : ℤ → ℤ → ℤ
terrestrial_time ut delta = ut +ℤ delta

-- 1900-01-01, and the day after 2100-12-31
abbrev pub first_day : ℤ
first_day = days_from_2000 1900 1 1

abbrev pub day_after_last : ℤ
day_after_last = days_from_2000 2101 1 1

-- an accepted instant: a day from 1900-01-01 to 2100-12-31 (1 to 3), a time of the day (4), UT1 minus UTC of at most 0.9 s (5) and delta-T of at most
-- 8,000 s (6) either way; with the offset of a batch it is not after the last instant of 2100 (13)
pub record Accepted (d elapsed ut1 delta : ℤ) : Type 0 where
  pub not_early : first_day ≤ℤ d
  pub from_midnight : pos 0 ≤ℤ elapsed
  pub not_late : (pos day *ℤ d +ℤ elapsed) <ℤ (pos day *ℤ day_after_last)
  pub ut1_small : 10 * nat_abs ut1 ≤ 9 * second
  pub delta_small : nat_abs delta ≤ 8_000 * second

-- no accepted instant lies further away than 1.011 centuries
abbrev pub furthest : ℕ
furthest = century * 1011 / 1000

-- from either, n: u, and the powers p2, p3, p4
unfoldable pub u : ℤ → ℤ
u n = ⌊ pos 1_000_000 *ℤ n ÷ century ⌋

unfoldable pub p2 : ℤ → ℤ
p2 n = ⌊ u n *ℤ u n ÷ 1_000_000 ⌋

unfoldable pub p3 : ℤ → ℤ
p3 n = ⌊ p2 n *ℤ u n ÷ 1_000_000 ⌋

unfoldable pub p4 : ℤ → ℤ
p4 n = ⌊ p2 n *ℤ p2 n ÷ 1_000_000 ⌋

abbrev pub powers : ℤ → Powers
powers n = record { n = n; u = u n; p2 = p2 n; p3 = p3 n; p4 = p4 n }

-- the powers of an instant that is no further away
pub record Reached (t : Powers) : Type 0 where
  pub is : t ≡ powers t.n
  pub near : nat_abs t.n ≤ furthest

-- c0 + c1 T + c2 T² + s3 T³/k3 + s4 T⁴/k4: c0, c1, c2 in 10⁻⁸ degree, s3 and s4 one degree, none, or one less
abbrev pub polynomial : ℤ → ℤ → ℤ → ℤ → ℕ → ℤ → ℕ → Polynomial
polynomial c0 c1 c2 s3 k3 s4 k4 = record { c0 = c0; c1 = c1; c2 = c2; s3 = s3; k3 = k3; s4 = s4; k4 = k4 }

-- coefficients small enough for 64 bits
pub record Suits (p : Polynomial) : Type 0 where
  pub c0_small : nat_abs p.c0 ≤ 2 ^ 36
  pub c1_small : nat_abs p.c1 ≤ 2 ^ 46
  pub c2_small : nat_abs p.c2 ≤ 2 ^ 20
  pub s3_small : nat_abs p.s3 ≤ 1
  pub k3_above : 0 < p.k3
  pub s4_small : nat_abs p.s4 ≤ 1
  pub k4_above : 0 < p.k4

-- c0 + ⌊c1 n / 3,155,760,000,000⌋ + ⌊c2 p2 / 10⁶⌋ + ⌊±100 p3 / k3⌋ + ⌊±100 p4 / k4⌋, reduced
unfoldable pub value : Polynomial → ℤ → ℕ
value p n = reduced (p.c0 +ℤ ⌊ p.c1 *ℤ n ÷ century ⌋ +ℤ ⌊ p.c2 *ℤ p2 n ÷ 1_000_000 ⌋
    +ℤ ⌊ pos 100 *ℤ p.s3 *ℤ p3 n ÷ p.k3 ⌋ +ℤ ⌊ pos 100 *ℤ p.s4 *ℤ p4 n ÷ p.k4 ⌋)

abbrev pub minus : ℕ → ℤ
minus n = neg_ℤ (pos n)
