-- The answer to a day's request (02, Item 1): the curve, its rise and its set.
use Rattle.std.specs.Prelude.{Result, cond, List, eqb, ℤ}
use Rattle.calendar.specs.Refusal.{first}
use Rattle.calendar.specs.declared.refusal.Refusal.{Refusal}
use Rattle.day.specs.Date.{day_refusals}
use Rattle.day.specs.declared.date.Date.{Date}
use Rattle.sky.specs.Answer.{Answer, answered, judged}
use Rattle.sky_vectors.specs.declared.geocentric.Body.{Body}
use Rattle.sky_vectors.specs.declared.station.Point.{Point}
use Rattle.rise_set.specs.Crossing.{CrossingNumbers, at_none, crossing_numbers, first_minute, is_at}
use Rattle.rise_set.specs.declared.answer.RiseSet.{RiseSet}
use Rattle.rise_set.specs.declared.crossing.Event.TheVariants.{Rise, Set}

-- rise and set, in numbers
pub record RiseSetNumbers : Type 0 where
  pub rise : CrossingNumbers
  pub set : CrossingNumbers

abbrev pub rise_set_numbers : RiseSet → RiseSetNumbers
rise_set_numbers seen = record { rise = crossing_numbers seen.rise; set = crossing_numbers seen.set }

abbrev pub neither : RiseSetNumbers
neither = record { rise = at_none; set = at_none }

abbrev pub rise_set_answer : Result RiseSet Refusal → Answer RiseSetNumbers
rise_set_answer = answered rise_set_numbers neither

-- the first minute that is a rise, and the first that is a set
abbrev pub crossings : Date → Body → Point → RiseSetNumbers
crossings date body point = record { rise = first_minute (is_at Rise date body point); set = first_minute (is_at Set date body point) }

-- or the first refusal, with zeros
unfoldable pub rise_and_set : Date → Body → Point → Answer RiseSetNumbers
rise_and_set date body point = judged (first (day_refusals date point)) neither (crossings date body point)

-- what a lent curve holds afterwards: as it was where the request is refused
abbrev pub left_in : Answer RiseSetNumbers → List ℤ → List ℤ → List ℤ
left_in answer worked before = cond (eqb answer.refusal 0) worked before
