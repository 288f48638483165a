-- A direction in numbers (02, Item 5). Who asks for an angle says what "none" means to him.
use Rattle.std.specs.Prelude.{Option, Some, None, Bool, false, true, ◌≡◌, ◌-◌, ◌<◌, ◌^◌, pos, ℤ}
use Rattle.number_rules.specs.Angle.{full_turn}
use Rattle.numbers.specs.declared.angle.Angle.{Angle}

-- a reduced angle, or nowhere
abbrev pub Direction : Type 0
Direction = Option Angle

-- the largest signed 64-bit number
abbrev pub mark : ℤ
mark = pos (2 ^ 63 - 1)

-- its angle, or a number for none
abbrev pub angle_or : ℤ → Direction → ℤ
angle_or none (Some angle) = pos angle.units
angle_or none None = none

-- it has an angle
abbrev pub is_there : Direction → Bool
is_there (Some angle) = true
is_there None = false

-- THE NUMBERS OF AN AZIMUTH: on a single place a flag, and 0 where it is absent; in the entry of a batch the mark
pub record AzimuthNumbers : Type 0 where
  pub has : Bool
  pub single : ℤ
  pub entry : ℤ

abbrev pub azimuth_numbers : Direction → AzimuthNumbers
azimuth_numbers direction = record { has = is_there direction; single = angle_or (pos 0) direction; entry = angle_or mark direction }

-- one direction and no other has its flag and its number
abbrev pub DirectionsTold : Type 0
DirectionsTold = (c d : Direction) → (azimuth_numbers c).has ≡ (azimuth_numbers d).has → (azimuth_numbers c).single ≡ (azimuth_numbers d).single → c ≡ d

-- what every direction keeps to: its angle is below a full turn
abbrev pub Reduced : Direction → Type 0
Reduced (Some angle) = angle.units < full_turn
Reduced None = Unit {0}
