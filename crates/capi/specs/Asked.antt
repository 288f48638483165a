-- A request for a place as C hands it over: its codes read, its numbers in order.
use Rattle.std.specs.Prelude.{Float, List, ℕ, ℤ}
use Rattle.boundary.specs.Codes.{air_of, body_of}
use Rattle.request.specs.Request.{start_from}
use Rattle.sky_vectors.specs.Station.{point_from}
use Rattle.capi.specs.declared.place.Asked.{Asked}

-- an unknown code is read as the last one, and refused before that matters
abbrev pub asked_from : List ℤ → ℕ → List ℤ → ℕ → Float → Float → Asked
asked_from start body point air pressure temperature =
    record { start = start_from start; body = body_of body; point = point_from point; air = air_of air pressure temperature }
