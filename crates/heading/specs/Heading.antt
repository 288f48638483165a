-- The middle of two azimuths (01, "A request and its numbered refusals").
use Rattle.std.specs.Prelude.{Result, Ok, Err, Bool, cond, ◌&&◌, ℕ, ◌+◌, ◌-◌, ◌/◌, ◌%◌, eqb, ltb, ℤ, pos, nat_abs}
use Rattle.std.specs.Int.Signed.{le_z, lt_z}
use Rattle.number_rules.specs.Angle.{full_turn, half_turn}
use Rattle.calendar.specs.Refusal.{number}
use Rattle.calendar.specs.declared.refusal.Refusal.{Refusal}

-- an answer in 01's numbers: the refusal, 0 where there is none, and the azimuth, 0 where refused
pub record MiddleAnswer : Type 0 where
  pub refusal : ℕ
  pub azimuth : ℕ

abbrev pub middle_answer : Result ℕ Refusal → MiddleAnswer
middle_answer (Ok a) = record { refusal = 0; azimuth = a }
middle_answer (Err refusal) = record { refusal = number refusal; azimuth = 0 }

-- 0 to 35,999,999,999
unfoldable pub is_reduced : ℤ → Bool
is_reduced x = le_z (pos 0) x && lt_z x (pos full_turn)

-- the arc from a to b, clockwise
unfoldable pub clockwise : ℕ → ℕ → ℕ
clockwise a b = (b + full_turn - a) % full_turn

-- go floor(arc/2), and reduce
abbrev pub half_way : ℕ → ℕ → ℕ
half_way from arc = (from + arc / 2) % full_turn

-- 14 when they differ by exactly 18,000,000,000; otherwise from the end whose short way to the other runs clockwise
unfoldable pub middle_of : ℕ → ℕ → MiddleAnswer
middle_of a b =
    let arc = clockwise a b in
    cond (eqb arc half_turn) (record { refusal = 14; azimuth = 0 })
    (record { refusal = 0; azimuth = cond (ltb arc half_turn) (half_way a arc) (half_way b (full_turn - arc)) })

-- 15 when either is not reduced
unfoldable pub middle : ℤ → ℤ → MiddleAnswer
middle a b = cond (is_reduced a && is_reduced b) (middle_of (nat_abs a) (nat_abs b)) (record { refusal = 15; azimuth = 0 })
