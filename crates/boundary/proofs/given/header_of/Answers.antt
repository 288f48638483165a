-- `boundary::given::header_of` meets its contract: each number is handed on as it is.
use mathlib.Core.List.{List}
use mathlib.Core.Path.{◌∙◌, ◌≡◌, ap}
use lib.IntN.{ℤ}
use Prim.Native.Nat.{ℕ}
use borrow.Author.Rules.{rules}
use mir.Syntax.{w64}
use mir.Val.{of_z, to_z}
use Rattle.sum_rules.specs.Table.{column}
use Rattle.boundary.specs.Codes.{body_of, code_in, strip_air_of}
use Rattle.boundary.specs.Given.{header_from}
use Rattle.boundary.proofs.given.header_of.Goals as goal

-- entry i as it is handed on
abbrev Same : List ℤ → ℕ → Type 0
Same numbers i = to_z w64 (of_z w64 (column numbers i)) ≡ column numbers i

pub returns : goal.returns
unfolding header_from
returns c =
    let numbers = c.args.numbers.now in
    let air : Same numbers 0 = search rules in
    let body : Same numbers 1 = search rules in
    let year : Same numbers 2 = search rules in
    let month : Same numbers 3 = search rules in
    let day : Same numbers 4 = search rules in
    let longitude : Same numbers 5 = search rules in
    let latitude : Same numbers 6 = search rules in
    let step : Same numbers 7 = search rules in
    λ i. record {
      air = (c.strip_air_of.ensures ∙ ap strip_air_of (c.code_in.ensures ∙ ap code_in air)) i;
      body = (c.body_of.ensures ∙ ap body_of (c.code_in-2.ensures ∙ ap code_in body)) i;
      year = year i;
      month = month i;
      day = day i;
      longitude = longitude i;
      latitude = latitude i;
      step = step i;
    }
