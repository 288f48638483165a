-- What 29 and 30 ask of turning points (02, Item 7), in plain words.
use Rattle.std.specs.Prelude.{true, List, ◌↔◌, ◌≡◌, ◌+◌, ◌-◌, ◌<◌, ◌≤◌, ℕ, ℤ, length}
use Rattle.day.specs.Curve.{last_minute, minutes}
use Rattle.heading.specs.Heading.{clockwise, is_reduced}
use Rattle.number_rules.specs.Angle.{half_turn}
use Rattle.turning_points.specs.Points.{are_turned, at, azimuth, is_formed, signed_at}

-- minutes, strictly rising, first 0 and last 1439, each with an azimuth; what 29 refuses is not this
pub record WellFormed (list : List ℕ) (azimuths : List ℤ) : Type 0 where
  pub each_with_azimuth : length list ≡ length azimuths
  pub at_least : 2 ≤ length list
  pub at_most : length list ≤ minutes
  pub starts : at list 0 ≡ 0
  pub ends : at list (length list - 1) ≡ last_minute
  pub rises : (i : ℕ) → i + 1 < length list → at list i < at list (i + 1)
  pub reduced : (i : ℕ) → i < length azimuths → is_reduced (signed_at azimuths i) ≡ true

-- no neighbours are exactly half a turn apart; what 30 refuses is not this
abbrev pub NeverOpposite : List ℤ → Type 0
NeverOpposite azimuths = (i : ℕ) → i + 1 < length azimuths → clockwise (azimuth azimuths i) (azimuth azimuths (i + 1)) ≡ half_turn → ⊥

-- THE CLAIMS, of every two lists: the tests say just this
abbrev pub EveryPointsFormed : Type 0
EveryPointsFormed = (list : List ℕ) (azimuths : List ℤ) → (is_formed list azimuths ≡ true) ↔ WellFormed list azimuths

abbrev pub EveryPointsTurned : Type 0
EveryPointsTurned = (azimuths : List ℤ) → (are_turned azimuths ≡ true) ↔ NeverOpposite azimuths
