-- The short way round, and the azimuth on a leg (02, Item 7: "Between them the watch goes the short way round in proportion, floored from the earlier point").
use Rattle.std.specs.Prelude.{Bool, cond, ◌-◌, ◌<◌, ◌≤◌, ℕ, eqb, leb, ltb, ◌*ℤ◌, ◌+ℤ◌, neg_ℤ, pos, ℤ}
use Rattle.arithmetic.specs.Floor.{⌊◌÷◌⌋}
use Rattle.day.specs.Curve.{minutes}
use Rattle.heading.specs.Heading.{clockwise}
use Rattle.number_rules.specs.Angle.{full_turn, half_turn, reduced}
use Rattle.turning_points.specs.declared.arc.Leg.{Leg}

-- exactly half a turn apart
unfoldable pub are_opposite : ℕ → ℕ → Bool
are_opposite a b = eqb (clockwise a b) half_turn

-- the short way from a to b, above zero where it runs clockwise; of two opposite azimuths it is never asked
unfoldable pub short_way : ℕ → ℕ → ℤ
short_way a b = let arc = clockwise a b in cond (ltb arc half_turn) (pos arc) (neg_ℤ (pos (full_turn - arc)))

-- how far a and b lie apart, the short way round
unfoldable pub distance : ℕ → ℕ → ℕ
distance a b = let arc = clockwise a b in cond (leb arc half_turn) arc (full_turn - arc)

-- the azimuth at minute m: from the earlier point the short way round in proportion, floored (01: also below zero), and reduced
unfoldable pub value_on : Leg → ℕ → ℕ
value_on leg m = reduced (pos leg.start +ℤ ⌊ short_way leg.start leg.end *ℤ pos (m - leg.first) ÷ (leg.last - leg.first) ⌋)

-- minute m of a day lies on a leg that rises, between reduced azimuths
pub record OnLeg (leg : Leg) (m : ℕ) : Type 0 where
  pub from : leg.first ≤ m
  pub to : m ≤ leg.last
  pub rising : leg.first < leg.last
  pub in_day : leg.last < minutes
  pub start_reduced : leg.start < full_turn
  pub end_reduced : leg.end < full_turn
