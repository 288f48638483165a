-- `line_answers::body_line::body_request` meets its contract.
use mathlib.Core.List.{List}
use mathlib.Core.Path.{◌∙◌, ◌≡◌, ap, sym}
use Prim.Native.Nat.{ℕ}
use lib.ListN.{drop}
use Rattle.std.specs.Prelude.{Err, Option as Found, Some}
use Rattle.calendar.proofs.RefusalLaws.{handed_up}
use Rattle.calendar.specs.declared.refusal.Refusal.TheVariants.{NotALine}
use Rattle.text.proofs.LineLaws.{to_end}
use Rattle.text.specs.Line.{answer}
use Rattle.sky_vectors.specs.declared.geocentric.Body.{Body}
use Rattle.line_answers.proofs.BodyLineLaws.{asked_none, asked_some, start_within}
use Rattle.line_answers.proofs.PrintedLaws.{none_found, was_found}
use Rattle.line_answers.specs.BodyLine.{asked, body_line, body_numbers, body_request, by_body}
use Rattle.line_answers.proofs.body_line.body_request.Goals as goal
use Rattle.line_answers.proofs.body_line.body_request.Goals.{After-body_numbers, In_ok-body}

-- the body of the line
body_is : {g : _} (c : In_ok-body g) → body_line c.args.line.now ≡ Some (c.in_ok-body.body, c.in_ok-body.start)
body_is c = sym c.body_line.ensures ∙ was_found c.body_line.result NotALine c.in_ok-body.ensures.value

request_is : {g : _} (c : In_ok-body g)
    → body_request c.args.short g.row.COUNT c.args.line.now ≡ asked c.in_ok-body.body (body_numbers c.args.short g.row.COUNT (drop c.in_ok-body.start c.args.line.now))
unfolding body_request
request_is {g} c =
    let line = c.args.line.now in
    ap (λ (of : Found (Body × ℕ)). by_body (λ body words. asked body (body_numbers c.args.short g.row.COUNT words)) (Err NotALine) of line) (body_is c)

-- the numbers behind it
numbers_are : {g : _} (c : After-body_numbers g) → c.body_numbers.result ≡ answer (body_numbers c.args.short g.row.COUNT (drop c.in_ok-body.start c.args.line.now))
numbers_are {g} c = c.body_numbers.ensures ∙ ap (λ (words : List ℕ). answer (body_numbers c.args.short g.row.COUNT words)) (to_end c.args.line.now c.in_ok-body.start)

pub returns-in_err-body : goal.returns-in_err-body
unfolding body_request
returns-in_err-body g c =
    let line = c.args.line.now in
    let none = none_found c.body_line.result NotALine c.in_err-body.ensures.value in
    handed_up c.from_residual.ensures ∙ ap Err none.1
    ∙ sym (ap (λ (of : Found (Body × ℕ)). by_body (λ body words. asked body (body_numbers c.args.short g.row.COUNT words)) (Err NotALine) of line) (sym c.body_line.ensures ∙ none.0))

pub slice_bounds-body_numbers-count : goal.slice_bounds-body_numbers-count
slice_bounds-body_numbers-count g c = start_within c.args.line.now (body_is c)

pub slice_bounds-body_numbers-start : goal.slice_bounds-body_numbers-start
slice_bounds-body_numbers-start g c = start_within c.args.line.now (body_is c)

pub returns-in_err-numbers : goal.returns-in_err-numbers
returns-in_err-numbers g c =
    let k = (goal.at.returns-in_err-numbers g c).After-body_numbers in
    let none = none_found c.body_numbers.result NotALine c.in_err-numbers.ensures.value in
    handed_up c.from_residual-in_err-numbers.ensures ∙ ap Err none.1
    ∙ sym (request_is (goal.at.After-body_numbers g k).In_ok-body ∙ asked_none c.in_ok-body.body _ (sym none.0 ∙ numbers_are k))

pub returns : goal.returns
returns g c =
    let k = (goal.at.returns g c).After-body_numbers in
    sym (request_is (goal.at.After-body_numbers g k).In_ok-body
    ∙ asked_some c.in_ok-body.body _ (sym (was_found c.body_numbers.result NotALine c.in_ok-numbers.ensures.value) ∙ numbers_are k))
