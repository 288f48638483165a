-- An answer is told from any other by its numbers.
use mathlib.Core.Path.{◌≡◌, ap}
use Rattle.std.specs.Prelude.{Result}
use Rattle.calendar.specs.Refusal.{OneAnswer}
use Rattle.calendar.specs.declared.refusal.Refusal.{Refusal}
use Rattle.sky.proofs.AnswerLaws.{one_answered}
use Rattle.sky.specs.Answer.{Answer}
use Rattle.rise_set.specs.Answer.{RiseSetNumbers, rise_set_answer, rise_set_numbers}
use Rattle.rise_set.specs.declared.answer.RiseSet.{RiseSet}
use Rattle.rise_set.proofs.CrossingLaws.{crossing_tells}

seen_tells : (x y : RiseSet) → rise_set_numbers x ≡ rise_set_numbers y → x ≡ y
seen_tells x y same =
    let rise = crossing_tells x.rise y.rise (ap (λ (n : RiseSetNumbers). n.rise) same) in
    let set = crossing_tells x.set y.set (ap (λ (n : RiseSetNumbers). n.set) same) in
    λ i. record { rise = rise i; set = set i }

pub one_rise_set : {found : Result RiseSet Refusal} {rule : Answer RiseSetNumbers} → rise_set_answer found ≡ rule → OneAnswer rise_set_answer rule found
one_rise_set = one_answered seen_tells
