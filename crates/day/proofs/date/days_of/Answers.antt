-- `date::days_of` meets its contract.
use mathlib.Core.Path.{◌∙◌, ap}
use Rattle.number_rules.specs.Calendar.{DayAnswer}
use Rattle.numbers.proofs.Machine.{passed}
use Rattle.request.specs.Request.{date}
use Rattle.day.proofs.date.days_of.Goals as goal

pub returns : goal.returns
returns c =
    let counted = c.date_of.ensures.equal ∙ ap date c.midnight.ensures in
    passed c.days_in.type_inv (c.days_in.ensures ∙ ap (λ (a : DayAnswer). a.days) counted)
