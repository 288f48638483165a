-- A strip's header as C hands it over: its numbers in order.
use Rattle.std.specs.Prelude.{List, ℕ, ℤ}
use Rattle.sum_rules.specs.Table.{column}
use Rattle.strip.specs.declared.header.Header.{Header}
use Rattle.calendar.specs.Refusal.{◌else◌}
use Rattle.boundary.specs.Codes.{body_of, body_refusal, code_in, strip_air_of, strip_kind_refusal}

-- air and body by their codes, year, month, day, longitude, latitude and step
unfoldable pub header_from : List ℤ → Header
header_from numbers =
    record {
      air = strip_air_of (code_in (column numbers 0));
      body = body_of (code_in (column numbers 1));
      year = column numbers 2;
      month = column numbers 3;
      day = column numbers 4;
      longitude = column numbers 5;
      latitude = column numbers 6;
      step = column numbers 7;
    }

-- an unknown body, then an unknown air
abbrev pub header_code_refusal : List ℤ → ℕ
header_code_refusal numbers = body_refusal (code_in (column numbers 1)) else strip_kind_refusal (code_in (column numbers 0))
