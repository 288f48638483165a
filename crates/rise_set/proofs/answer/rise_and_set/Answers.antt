-- `answer::rise_and_set` meets its contract.
use mathlib.Core.Path.{◌∙◌, ap, sym}
use Rattle.calendar.proofs.RefusalLaws.{handed_up, never_none}
use Rattle.day.proofs.Demand3.{every_day_near}
use Rattle.sky.proofs.AnswerLaws.{answered_with, refused_with}
use Rattle.rise_set.specs.Answer.{crossings, neither, rise_and_set, rise_set_answer}
use Rattle.rise_set.proofs.AnswerLaws.{one_rise_set}
use Rattle.rise_set.proofs.ClaimsHold.{every_day_told}
use Rattle.rise_set.proofs.answer.rise_and_set.Goals as goal

pub returns-in_err-day_verdict-clause-one_answer : goal.returns-in_err-day_verdict-clause-one_answer
unfolding rise_and_set
returns-in_err-day_verdict-clause-one_answer c =
    let a = c.args in
    one_rise_set (ap rise_set_answer (handed_up c.from_residual.ensures)
    ∙ refused_with neither (crossings a.date a.body a.point) (sym c.in_err-day_verdict.ensures) (never_none c.in_err-day_verdict.field-0.0))

pub returns-in_err-day_verdict-clause-told : goal.returns-in_err-day_verdict-clause-told
returns-in_err-day_verdict-clause-told c = every_day_told c.args.date c.args.body c.args.point

pub returns-clause-one_answer : goal.returns-clause-one_answer
unfolding rise_and_set
returns-clause-one_answer c =
    let a = c.args in
    one_rise_set (answered_with neither (crossings a.date a.body a.point) (sym c.in_ok-day_verdict.ensures) c.work.ensures.result_value)

pub returns-clause-day_near : goal.returns-clause-day_near
returns-clause-day_near c = every_day_near c.args.date c.args.point

pub returns-clause-told : goal.returns-clause-told
returns-clause-told c = every_day_told c.args.date c.args.body c.args.point
