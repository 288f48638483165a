-- Refraction (01, "Refraction", as 02's Item 3 mends it), in degrees.
use Rattle.std.specs.Prelude.{Option, None, Some, cond, true, ◌≡◌, ◌≤◌, ◌+ℤ◌, nat_abs, neg_ℤ, pos, ℤ, Float, ◌≤ℤ◌}
use Rattle.std.specs.Int.Signed.{lt_z}
use Rattle.arithmetic.specs.Floor.{⌊◌÷◌⌋}
use Rattle.number_rules.specs.Angle.{quarter_turn}
use Rattle.numbers.specs.declared.sine.SineCosine.{SineCosine}
use Rattle.refraction.specs.Air.{air_refusals, temperature_passes}
use Rattle.refraction.specs.Double.{IsFinite, IsZero, ◌+d◌, ◌*d◌, ◌/d◌, double, nearest, zero_degrees}
use Rattle.numbers.specs.SineCosine.{sine_cosine}
use Rattle.calendar.specs.Refusal.{first}
use Rattle.refraction.specs.declared.air.Air.{Air}

-- worked at and above -83,337,000 units, for both bodies, and zero below (02, Item 3; 01 had 0)
abbrev pub lowest_refracted : ℤ
lowest_refracted = neg_ℤ (pos 83_337_000)

pub record IsRefracted (e : ℤ) : Type 0 where
  pub not_below : lowest_refracted ≤ℤ e
  pub size : nat_abs e ≤ quarter_turn

-- q = e + floor(103·10¹⁵/(e + 511,000,000))
unfoldable pub raised : ℤ → ℤ
raised e = e +ℤ ⌊ pos 103_000_000_000_000_000 ÷ nat_abs (e +ℤ pos 511_000_000) ⌋

-- ((P/1010)·(283/(273+T)))·((1.02·c)/(60·s)), each operation once in double; c, s the cosine and sine of q as doubles
unfoldable pub formula : Float → Float → SineCosine → Float
formula P T q =
    let c = double q.cosine in
    let s = double q.sine in
    ((P /d double (pos 1010)) *d (double (pos 283) /d (double (pos 273) +d T))) *d ((nearest 102 100 *d c) /d (double (pos 60) *d s))

unfoldable pub measured_refraction : Float → Float → ℤ → Float
measured_refraction P T e = formula P T (sine_cosine (raised e))

-- zero if there is no air
unfoldable pub refraction_in : Option Air → ℤ → Float
refraction_in None e = zero_degrees
refraction_in (Some air) e = measured_refraction air.pressure air.temperature e

unfoldable pub refraction : Option Air → ℤ → Float
refraction air e = cond (lt_z e lowest_refracted) zero_degrees (refraction_in air e)

-- at measured pressure 0 the refraction equals zero: where P is a zero of either sign and check 11 lets T pass
abbrev pub ZeroAtZeroPressure : Type 0
ZeroAtZeroPressure =
    (P T : Float) (e : ℤ) → IsZero P → temperature_passes T ≡ true → nat_abs e ≤ quarter_turn
    → IsZero (refraction (Some (record { pressure = P; temperature = T })) e)

-- an accepted refraction is a finite number: in every air that checks 10 and 11 let pass, at every elevation
abbrev pub FiniteWhereAccepted : Type 0
FiniteWhereAccepted = (air : Option Air) (e : ℤ) → first (air_refusals air) ≡ 0 → nat_abs e ≤ quarter_turn → IsFinite (refraction air e)
