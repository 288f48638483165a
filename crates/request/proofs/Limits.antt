-- The limits of checks 4, 5 and 6 in milliseconds.
use mathlib.Core.Path.{refl}
use Rattle.request.specs.Request.{LimitsInMilliseconds}

pub limits_in_milliseconds : LimitsInMilliseconds
limits_in_milliseconds = record { fraction = refl; ut1 = refl; delta = refl }
