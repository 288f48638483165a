-- `checks::is_date` meets its contract.
use mathlib.Core.Path.{◌∙◌, ◌≡◌, ap, refl, sym}
use lib.Dec.{eqb}
use lib.IntN.{ℤ}
use borrow.Author.Rules.{rules}
use borrow.Author.Tests.{ne_eqb}
use mir.Syntax.{w64}
use mir.Val.{SFits}
use Rattle.std.specs.Prelude.{Err, Ok, Result}
use Rattle.std.specs.Result.{is_ok}
use Rattle.calendar.proofs.RefusalLaws.{never_none}
use Rattle.calendar.specs.DayCount.{count_answer}
use Rattle.calendar.specs.Refusal.{number}
use Rattle.calendar.specs.declared.refusal.Refusal.{Refusal}
use Rattle.number_rules.specs.Calendar.{DayAnswer, day_count}
use Rattle.numbers.proofs.Machine.{any}
use Rattle.strip.specs.Checks.{is_date}
use Rattle.strip.proofs.checks.is_date.Goals as goal

-- days are counted where nothing refuses them
counted : (r : Result ℤ Refusal) → is_ok r ≡ eqb (count_answer r).refusal 0
counted (Ok days) = refl
counted (Err refusal) = sym (ne_eqb (number refusal) 0 (never_none refusal))

pub returns : goal.returns
unfolding is_date
returns c =
    let year : SFits w64 c.args.header.year = search rules in
    let month : SFits w64 c.args.header.month = search rules in
    let day : SFits w64 c.args.header.day = search rules in
    c.is_ok.ensures.value ∙ counted c.day_count.result
    ∙ ap (λ (a : DayAnswer). eqb a.refusal 0) (c.day_count.ensures.equal ∙ (λ i. day_count ((any year).same i) ((any month).same i) ((any day).same i)))
