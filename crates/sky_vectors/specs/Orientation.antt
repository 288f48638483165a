-- How the sky is turned at a runner's longitude (01, "From the centre to the runner"), at UT and TT.
use Rattle.std.specs.Prelude.{◌+ℤ◌, ℤ}
use Rattle.sum_rules.specs.Instant.{powers}
use Rattle.sum_rules.specs.Nutation.{obliquity, Δψ}
use Rattle.sum_rules.specs.Sidereal.{apparent}
use Rattle.sum_rules.specs.declared.instant.Instant.{Instant}
use Rattle.sky_vectors.specs.declared.orientation.Moment.{Moment}
use Rattle.sky_vectors.specs.declared.orientation.Orientation.{Orientation}

-- θ = sidereal + longitude, and ε
unfoldable pub orientation : ℤ → ℤ → ℤ → Orientation
orientation longitude ut tt = record { sidereal = apparent ut (Δψ tt) (obliquity tt) +ℤ longitude; obliquity = obliquity tt }

-- what both bodies have in common at an instant
abbrev pub moment : ℤ → Instant → Moment
moment longitude instant =
    record { tt = powers instant.tt; nutation = Δψ instant.tt; orientation = orientation longitude instant.ut instant.tt }
