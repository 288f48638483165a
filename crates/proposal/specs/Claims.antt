-- What a reader wants to know of a verdict (02, Item 7), beside the equations.
use Rattle.std.specs.Prelude.{List, Some, ◌↔◌, ◌≡◌, ◌<◌, ◌≤◌, ℕ, ℤ}
use Rattle.arctangent.specs.Direction.{Direction}
use Rattle.calendar.specs.Refusal.{first}
use Rattle.day.specs.Curve.{azimuth_on, minutes}
use Rattle.day.specs.Date.{day_refusals}
use Rattle.day.specs.declared.date.Date.{Date}
use Rattle.numbers.specs.declared.angle.Angle.{Angle}
use Rattle.sky_vectors.specs.declared.geocentric.Body.{Body}
use Rattle.sky_vectors.specs.declared.station.Point.{Point}
use Rattle.turning_points.specs.Arc.{distance}
use Rattle.turning_points.specs.Formed.{NeverOpposite, WellFormed}
use Rattle.proposal.specs.Verdict.{judgement, value_at}

-- a minute's value is within the tolerance, the short way round, of the azimuth worked for it, where there is one
abbrev pub Within : ℕ → (ℕ → Direction) → List ℕ → List ℤ → ℕ → Type 0
Within tolerance worked list azimuths m = (angle : Angle) → worked m ≡ Some angle → distance (value_at list azimuths m) angle.units ≤ tolerance

-- THE TWO CLAIMS, of every request and every two lists
module _ (date : Date) (body : Body) (point : Point) (tolerance : ℕ) (list : List ℕ) (azimuths : List ℤ) where
  -- what an accepted proposal is
  pub record Fits : Type 0 where
    pub day_passes : first (day_refusals date point) ≡ 0
    pub well_formed : WellFormed list azimuths
    pub never_opposite : NeverOpposite azimuths
    pub within : (m : ℕ) → m < minutes → Within tolerance (azimuth_on date body point) list azimuths m

  -- accepted exactly when every minute's value is within the tolerance
  abbrev pub AcceptedExactly : Type 0
  AcceptedExactly = ((judgement date body point tolerance list azimuths).refusal ≡ 0) ↔ Fits

  -- 31 names a minute that is not, and none before it is such
  pub record FirstNamed : Type 0 where
    pub in_day : (judgement date body point tolerance list azimuths).minute < minutes
    pub out : Within tolerance (azimuth_on date body point) list azimuths (judgement date body point tolerance list azimuths).minute → ⊥
    pub within_before : (k : ℕ) → k < (judgement date body point tolerance list azimuths).minute → Within tolerance (azimuth_on date body point) list azimuths k

abbrev pub EveryProposalJudged : Type 0
EveryProposalJudged =
    (date : Date) (body : Body) (point : Point) (tolerance : ℕ) (list : List ℕ) (azimuths : List ℤ)
    → AcceptedExactly date body point tolerance list azimuths

abbrev pub EveryFirstNamed : Type 0
EveryFirstNamed =
    (date : Date) (body : Body) (point : Point) (tolerance : ℕ) (list : List ℕ) (azimuths : List ℤ)
    → (judgement date body point tolerance list azimuths).refusal ≡ 31 → FirstNamed date body point tolerance list azimuths
