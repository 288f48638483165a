-- The answers to a request for a place (01, "A request and its numbered refusals"): a refused answer of any kind carries the number and zeros elsewhere.
use Rattle.std.specs.Prelude.{Bool, cond, false, Err, List, ◌++◌, Ok, Option, Result, ℕ, eqb, pos, ℤ}
use Rattle.arctangent.specs.Direction.{azimuth_numbers}
use Rattle.refraction.specs.Air.{air_refusals}
use Rattle.sky_vectors.specs.Place.{place_at}
use Rattle.calendar.specs.Refusal.{first, number}
use Rattle.request.specs.Request.{instant, point_refusals, start_refusals}
use Rattle.sky.specs.Shown.{ShownNumbers, nothing_shown, shown, shown_numbers}
use Rattle.refraction.specs.declared.air.Air.{Air}
use Rattle.calendar.specs.declared.refusal.Refusal.{Refusal}
use Rattle.sky_vectors.specs.declared.place.Place.{Place}
use Rattle.sky_vectors.specs.declared.geocentric.Body.{Body}
use Rattle.sky_vectors.specs.declared.station.Point.{Point}
use Rattle.request.specs.declared.start.Start.{Start}
use Rattle.sky.specs.declared.shown.Shown.{Shown}

-- an answer in 01's numbers: the refusal, 0 where there is none, and what is answered, zeros where refused
pub record Answer (A : Type 0) : Type 0 where
  pub refusal : ℕ
  pub value : A

-- a place: whether it has an azimuth, the azimuth, and the elevation
pub record PlaceNumbers : Type 0 where
  pub has_azimuth : Bool
  pub azimuth : ℤ
  pub elevation : ℤ

abbrev pub place_numbers : Place → PlaceNumbers
place_numbers place =
    let azimuth = azimuth_numbers place.azimuth in
    record { has_azimuth = azimuth.has; azimuth = azimuth.single; elevation = place.elevation }

abbrev pub nowhere : PlaceNumbers
nowhere = record { has_azimuth = false; azimuth = pos 0; elevation = pos 0 }

-- a result in 01's numbers: those of its value, or the refusal's with zeros elsewhere
abbrev pub answered : {A B : Type 0} → (A → B) → B → Result A Refusal → Answer B
answered numbers zeros (Ok value) = record { refusal = 0; value = numbers value }
answered numbers zeros (Err refusal) = record { refusal = number refusal; value = zeros }

abbrev pub place_answer : Result Place Refusal → Answer PlaceNumbers
place_answer = answered place_numbers nowhere

abbrev pub shown_answer : Result Shown Refusal → Answer ShownNumbers
shown_answer = answered shown_numbers nothing_shown

-- 1 to 11
abbrev pub request_refusals : Start → Point → Option Air → List ℕ
request_refusals start point air = start_refusals start ++ (point_refusals point ++ air_refusals air)

-- the first refusal with zeros, or the value
abbrev pub judged : {A : Type 0} → ℕ → A → A → Answer A
judged refusal zeros value = cond (eqb refusal 0) (record { refusal = 0; value = value }) (record { refusal = refusal; value = zeros })

unfoldable pub place : Start → Body → Point → Option Air → Answer PlaceNumbers
place start body point air = judged (first (request_refusals start point air)) nowhere (place_numbers (place_at body point (instant start)))

unfoldable pub shown_place : Start → Body → Point → Option Air → Answer ShownNumbers
shown_place start body point air =
    judged (first (request_refusals start point air)) nothing_shown (shown air (place_at body point (instant start)))
