-- The watch's verdict (02, Item 7: "accepts a well-formed proposal exactly when every minute's value is within the tolerance sent .. of the azimuth worked for it").
use Rattle.std.specs.Prelude.{Bool, Err, None, Ok, Option, Result, Some, ⊤, ◌≡◌, ◌<◌, cond, false, List, [], ◌++◌, ◌∷◌, ◌+◌, ◌-◌, ℕ, eqb, leb, ltb, ℤ, length}
use Rattle.arctangent.specs.Direction.{Direction}
use Rattle.calendar.specs.Refusal.{◌unless◌, first, number}
use Rattle.day.specs.Curve.{azimuth_on, minutes}
use Rattle.day.specs.Date.{day_refusals}
use Rattle.day.specs.Search.{first_where}
use Rattle.day.specs.declared.date.Date.{Date}
use Rattle.sky_vectors.specs.declared.geocentric.Body.{Body}
use Rattle.sky_vectors.specs.declared.station.Point.{Point}
use Rattle.turning_points.specs.Arc.{distance, value_on}
use Rattle.turning_points.specs.Points.{are_turned, at, is_formed, leg_at}
use Rattle.proposal.specs.declared.judge.Objection.{Objection}
use Rattle.proposal.specs.declared.judge.Objection.TheVariants.{Out, Refused}

-- ---- every minute's value

-- the leg on which minute m lies, by its earlier point: the first whose later point is not before m
unfoldable pub leg_of : List ℕ → ℕ → ℕ
leg_of list m = first_where (λ i. leb m (at list (i + 1))) (length list - 1)

unfoldable pub value_at : List ℕ → List ℤ → ℕ → ℕ
value_at list azimuths m = value_on (leg_at list azimuths (leg_of list m)) m

-- ---- within the tolerance of the azimuth worked

-- a minute without one isn't compared
unfoldable pub is_out : ℕ → Direction → ℕ → Bool
is_out tolerance (Some angle) value = ltb tolerance (distance value angle.units)
is_out tolerance None value = false

-- over a day by its minutes
module _ (tolerance : ℕ) (worked : ℕ → Direction) (list : List ℕ) (azimuths : List ℤ) where
  unfoldable pub out_at : ℕ → Bool
  out_at m = is_out tolerance (worked m) (value_at list azimuths m)

  -- the first minute out of tolerance, or 1440 where there is none
  unfoldable pub first_out : ℕ
  first_out = first_where out_at minutes

  -- the same as an answer: the minute, or none
  abbrev pub IsFirstOut : Option ℕ → Type 0
  IsFirstOut (Some minute) = (minute ≡ first_out) × (minute < minutes)
  IsFirstOut None = first_out ≡ minutes

-- ---- the refusals, in this order

-- 29, then 30
abbrev pub form_refusals : List ℕ → List ℤ → List ℕ
form_refusals list azimuths = 29 unless is_formed list azimuths ∷ 30 unless are_turned azimuths ∷ []

-- then 31, a minute out of tolerance
abbrev pub proposal_refusals : ℕ → (ℕ → Direction) → List ℕ → List ℤ → List ℕ
proposal_refusals tolerance worked list azimuths = form_refusals list azimuths ++ (31 unless eqb (first_out tolerance worked list azimuths) minutes ∷ [])

-- an answer in 02's numbers: the refusal, 0 where there is none; the minute, 0 but for 31
pub record JudgementAnswer : Type 0 where
  pub refusal : ℕ
  pub minute : ℕ

abbrev pub judgement_answer : Result ⊤ Objection → JudgementAnswer
judgement_answer (Ok _) = record { refusal = 0; minute = 0 }
judgement_answer (Err (Refused refusal)) = record { refusal = number refusal; minute = 0 }
judgement_answer (Err (Out minute)) = record { refusal = 31; minute = minute }

-- after 1 to 3 and 5 to 9; 31 with the first one
unfoldable pub judgement : Date → Body → Point → ℕ → List ℕ → List ℤ → JudgementAnswer
judgement date body point tolerance list azimuths =
    let worked = azimuth_on date body point in
    let refusal = first (day_refusals date point ++ proposal_refusals tolerance worked list azimuths) in
    record { refusal = refusal; minute = cond (eqb refusal 31) (first_out tolerance worked list azimuths) 0 }
