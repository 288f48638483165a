-- The export over a day: 02's answers, as C is handed them.
use Rattle.std.specs.Prelude.{List, ℕ, ℤ}
use Rattle.boundary.specs.Codes.{body_of, body_refusal}
use Rattle.sky_vectors.specs.Station.{point_from}
use Rattle.day.specs.Date.{date_from}
use Rattle.rise_set.specs.Answer.{RiseSetNumbers, neither, rise_and_set}
use Rattle.sky.specs.Answer.{Answer}
use Rattle.capi.specs.Answers.{formed}

abbrev pub coded_rise_set : List ℤ → ℕ → List ℤ → Answer RiseSetNumbers
coded_rise_set date body point = formed (body_refusal body) neither (rise_and_set (date_from date) (body_of body) (point_from point))
