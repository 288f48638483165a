-- `day_lines::days_answer` meets its contract.
use mathlib.Core.Path.{◌∙◌, ◌≡◌, ap, sym}
use Prim.Native.Nat.{◌-◌, ◌<◌, ◌≤◌, ℕ}
use native.Mathlib.Omega.{arith}
use lib.ListN.{drop, length}
use Rattle.std.specs.Array.{IsFirstChunk, IsWholeChunk}
use Rattle.std.proofs.lemmas.Option.{MatchOption-at_some}
use Rattle.calendar.proofs.RefusalLaws.{handed_up}
use Rattle.day.specs.Date.{date_from}
use Rattle.rise_set.proofs.AnswerLaws.{one_rise_set}
use Rattle.rise_set.specs.Answer.{rise_and_set, rise_set_answer}
use Rattle.sky_vectors.specs.Station as Station
use Rattle.line_answers.proofs.PlacesLineLaws.{point_is}
use Rattle.day_lines.proofs.DaysLineLaws.{answer_to, days_are, date_is}
use Rattle.day_lines.proofs.days_answer.Goals as goal

pub returns-in_err-body : goal.returns-in_err-body
returns-in_err-body c =
    one_rise_set (ap rise_set_answer (handed_up c.from_residual.ensures) ∙ sym (days_are c.args.line.now ∙ ap answer_to (sym c.in_err-body.ensures)))

pub returns : goal.returns
returns c =
    let numbers = c.in_ok-body.numbers in
    let behind : length numbers - 3 ≡ 5 = omega arith in
    let first = MatchOption-at_some (length numbers < 5) (λ y. IsFirstChunk numbers y.now 5) c.unwrap.result c.unwrap.ensures c.first_chunk.ensures.cases in
    let last =
    MatchOption-at_some (length numbers < 3) (λ y. (3 ≤ length numbers) × IsWholeChunk (drop (length numbers - 3) numbers) y.now 3) c.unwrap-2.result c.unwrap-2.ensures
    c.last_chunk.ensures.cases in
    let date = c.from-date.ensures ∙ ap date_from first.same ∙ date_is numbers in
    let point = c.from-point.ensures ∙ ap Station.point_from (last.1.same ∙ ap (λ (n : ℕ). drop n numbers) behind) ∙ point_is 5 numbers in
    one_rise_set (c.risen.ensures.equal ∙ (λ i. rise_and_set (date i) c.in_ok-body.body (point i))
    ∙ sym (days_are c.args.line.now ∙ ap answer_to (sym c.in_ok-body.ensures)))
