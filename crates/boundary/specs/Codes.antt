-- The codes of a body and of an air, and the refusals outside 01's numbers: no request can be formed, so they are given before all others.
use Rattle.std.specs.Prelude.{◌||◌, cond, [], ◌∷◌, ◌≡◌, List, ℕ, eqb, leb, Float, nat_abs, None, Option, pos, Some, ℤ}
use Rattle.number_rules.specs.Angle.{half_turn, quarter_turn}
use Rattle.sum_rules.specs.Instant.{furthest, minus}
use Rattle.overlap.specs.DiskRange.{radius_most, sun_radius_least}
use Rattle.overlap.specs.declared.overlap.Disks.{Disks}
use Rattle.calendar.specs.Refusal.{◌else◌, ◌unless◌, first}
use Rattle.numbers.specs.Whole.{between}
use Rattle.refraction.specs.Air.{air_refusals}
use Rattle.refraction.specs.declared.air.Air.{Air}
use Rattle.refraction.specs.Double.{double}
use Rattle.sky_vectors.specs.declared.geocentric.Body.{Body}
use Rattle.sky_vectors.specs.declared.geocentric.Body.TheVariants.{Moon, Sun}
use Rattle.strip.specs.declared.air.StripAir.{StripAir}
use Rattle.strip.specs.declared.air.StripAir.TheVariants as Strips

abbrev pub unknown_body : ℕ
unknown_body = 101

abbrev pub unknown_air : ℕ
unknown_air = 102

abbrev pub no_elevation : ℕ
no_elevation = 103

abbrev pub out_of_reach : ℕ
out_of_reach = 104

abbrev pub no_disks : ℕ
no_disks = 105

abbrev pub no_step : ℕ
no_step = 106

-- there is no plan: an answer of the planner, and no refusal of 02's
abbrev pub no_plan : ℕ
no_plan = 107

-- the codes of a body
abbrev pub sun : ℕ
sun = 0

abbrev pub moon : ℕ
moon = 1

abbrev pub body_of : ℕ → Body
body_of code = cond (eqb code sun) Sun Moon

abbrev pub body_refusal : ℕ → ℕ
body_refusal code = unknown_body unless leb code moon

abbrev pub code_of : Body → ℕ
code_of Sun = sun
code_of Moon = moon

-- the kinds of a request's air; 1 was standard, and is unknown
abbrev pub none : ℕ
none = 0

abbrev pub measured : ℕ
measured = 2

abbrev pub air_of : ℕ → Float → Float → Option Air
air_of kind pressure temperature = cond (eqb kind none) None (Some (record { pressure = pressure; temperature = temperature }))

abbrev pub kind_refusal : ℕ → ℕ
kind_refusal kind = unknown_air unless (eqb kind none || eqb kind measured)

-- a strip's air may have been carried over too, which is no kind of a request's
abbrev pub carried_over_kind : ℕ
carried_over_kind = 3

abbrev pub strip_kind_of : StripAir → ℕ
strip_kind_of Strips.None = none
strip_kind_of (Strips.Measured air) = measured
strip_kind_of (Strips.CarriedOver air) = carried_over_kind

-- of measured air in a strip no pressure and no temperature is asked, since it is refused
abbrev pub strip_air_of : ℕ → StripAir
strip_air_of kind =
    let zeros : Air = record { pressure = double (pos 0); temperature = double (pos 0) } in
    cond (eqb kind none) Strips.None (cond (eqb kind measured) (Strips.Measured zeros) (Strips.CarriedOver zeros))

abbrev pub strip_kind_refusal : ℕ → ℕ
strip_kind_refusal kind = unknown_air unless (eqb kind carried_over_kind || (eqb kind none || eqb kind measured))

-- THE CLAIM (02, Item 9): new requests can't name standard air, whose kind was 1, nor what is carried over; nor does a strip name standard air
abbrev pub StandardUnnamed : Type 0
StandardUnnamed = (kind_refusal 1 ≡ 102) × (kind_refusal 3 ≡ 102) × (strip_kind_refusal 1 ≡ 102)

-- a code that is given in 64 bits: what is no number of 32 bits counts as the largest, which is no code
abbrev pub largest : ℕ
largest = 4_294_967_295

abbrev pub code_in : ℤ → ℕ
code_in number = cond (between (pos 0) number (pos largest)) (nat_abs number) largest

-- the body is judged first
abbrev pub code_refusal : ℕ → ℕ → ℕ
code_refusal body kind = body_refusal body else kind_refusal kind

-- within ±90 degrees
abbrev pub elevation_refusal : ℤ → ℕ
elevation_refusal e = no_elevation unless between (minus quarter_turn) e (pos quarter_turn)

-- an unknown air, an elevation beyond ±90 degrees, then 10 and 11
abbrev pub refraction_refusal : ℤ → ℕ → Float → Float → ℕ
refraction_refusal e air pressure temperature = first (kind_refusal air ∷ elevation_refusal e ∷ air_refusals (air_of air pressure temperature))

-- no further from 2000 than the sums reach
abbrev pub reach_refusal : ℤ → ℕ
reach_refusal n = out_of_reach unless leb (nat_abs n) furthest

-- a separation of at most 180 degrees, and radii that the Sun and the Moon can have
abbrev pub disks_refusal : ℤ → ℤ → ℤ → ℕ
disks_refusal apart rs rm =
    first
    (no_disks unless between (pos 0) apart (pos half_turn)
    ∷ no_disks unless between (pos sun_radius_least) rs (pos radius_most)
    ∷ no_disks unless between (pos 0) rm (pos radius_most)
    ∷ [])

-- the separation and the two radii as natural numbers, as they are given and as they are read
abbrev pub given_disks : ℤ → ℤ → ℤ → List ℕ
given_disks apart rs rm = nat_abs apart ∷ nat_abs rs ∷ nat_abs rm ∷ []

abbrev pub disks_numbers : Disks → List ℕ
disks_numbers disks = disks.apart ∷ disks.sun ∷ disks.moon ∷ []
