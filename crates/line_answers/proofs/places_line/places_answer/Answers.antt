-- `line_answers::places_line::places_answer` meets its contract.
use mathlib.Core.Path.{◌∙◌, ◌≡◌, ap, sym}
use Prim.Native.Nat.{◌-◌, ◌<◌, ◌≤◌, ℕ}
use native.Mathlib.Omega.{arith}
use lib.ListN.{drop, length}
use Rattle.std.specs.Array.{IsFirstChunk, IsWholeChunk}
use Rattle.std.specs.Prelude.{None}
use Rattle.std.proofs.lemmas.Option.{MatchOption-at_some}
use Rattle.calendar.proofs.RefusalLaws.{handed_up}
use Rattle.request.specs.Request.{start_from}
use Rattle.sky.proofs.AnswerLaws.{one_place}
use Rattle.sky.specs.Answer.{place, place_answer}
use Rattle.sky_vectors.specs.Station as Station
use Rattle.line_answers.proofs.PlacesLineLaws.{answer_to, places_are, point_is, start_is}
use Rattle.line_answers.proofs.places_line.places_answer.Goals as goal

pub returns-in_err-body : goal.returns-in_err-body
returns-in_err-body c =
    one_place (ap place_answer (handed_up c.from_residual.ensures) ∙ sym (places_are c.args.line.now ∙ ap answer_to (sym c.in_err-body.ensures)))

pub returns : goal.returns
returns c =
    let numbers = c.in_ok-body.numbers in
    let behind : length numbers - 3 ≡ 9 = omega arith in
    let first = MatchOption-at_some (length numbers < 9) (λ y. IsFirstChunk numbers y.now 9) c.unwrap.result c.unwrap.ensures c.first_chunk.ensures.cases in
    let last =
    MatchOption-at_some (length numbers < 3) (λ y. (3 ≤ length numbers) × IsWholeChunk (drop (length numbers - 3) numbers) y.now 3) c.unwrap-2.result c.unwrap-2.ensures
    c.last_chunk.ensures.cases in
    let start = c.from-start.ensures ∙ ap start_from first.same ∙ start_is numbers in
    let point = c.from-point.ensures ∙ ap Station.point_from (last.1.same ∙ ap (λ (n : ℕ). drop n numbers) behind) ∙ point_is 9 numbers in
    one_place (c.place.ensures.one_answer.equal ∙ (λ i. place (start i) c.in_ok-body.body (point i) None)
    ∙ sym (places_are c.args.line.now ∙ ap answer_to (sym c.in_ok-body.ensures)))
