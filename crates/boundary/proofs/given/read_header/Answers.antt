-- `boundary::given::read_header` meets its contract: a code that is known is judged, and the header is formed of the same numbers.
use mathlib.Core.List.{List}
use mathlib.Core.Path.{◌∙◌, ◌≡◌, ap}
use lib.IntN.{ℤ}
use Prim.Native.Nat.{ℕ}
use borrow.Author.Rules.{rules}
use mir.Syntax.{w64}
use mir.Val.{of_z, to_z}
use Rattle.sum_rules.specs.Table.{column}
use Rattle.boundary.specs.Codes.{body_refusal, code_in, strip_kind_refusal}
use Rattle.boundary.proofs.FaultLaws.{handed_up, passed_else, refused_else}
use Rattle.boundary.proofs.given.read_header.Goals as goal

-- entry i as it is handed on
abbrev Same : List ℤ → ℕ → Type 0
Same numbers i = to_z w64 (of_z w64 (column numbers i)) ≡ column numbers i

pub returns-in_err-read_body : goal.returns-in_err-read_body
returns-in_err-read_body c =
    let body : Same c.args.numbers 1 = search rules in
    rw (handed_up c.from_residual.ensures) (refused_else _ _ (c.in_err-read_body.ensures ∙ ap body_refusal (c.code_in.ensures ∙ ap code_in body)))

pub returns-in_err-read_strip_air : goal.returns-in_err-read_strip_air
returns-in_err-read_strip_air c =
    let air : Same c.args.numbers 0 = search rules in
    let body : Same c.args.numbers 1 = search rules in
    rw (handed_up c.from_residual-in_err-read_strip_air.ensures)
    (passed_else (c.in_ok-read_body.ensures.0 ∙ ap body_refusal (c.code_in.ensures ∙ ap code_in body))
    (c.in_err-read_strip_air.ensures ∙ ap strip_kind_refusal (c.code_in-2.ensures ∙ ap code_in air)))

pub returns : goal.returns
returns c =
    let air : Same c.args.numbers 0 = search rules in
    let body : Same c.args.numbers 1 = search rules in (
      passed_else (c.in_ok-read_body.ensures.0 ∙ ap body_refusal (c.code_in.ensures ∙ ap code_in body))
          (c.in_ok-read_strip_air.ensures.0 ∙ ap strip_kind_refusal (c.code_in-2.ensures ∙ ap code_in air)),
      c.header_of.ensures,
    )
