-- `line_answers::sheet::arguments_text` meets its contract.
use mathlib.Core.List.{List, [], ◌∷◌, ◌++◌}
use mathlib.Core.Path.{◌∙◌, ap}
use Prim.Native.Nat.{ℕ}
use mir.Syntax.{w64}
use mir.Val.{SFits}
use Rattle.numbers.proofs.Machine.{any}
use Rattle.text.specs.Decimal.{decimal}
use Rattle.text.specs.Line.{space}
use Rattle.line_answers.proofs.SheetLaws.{fields_line}
use Rattle.line_answers.specs.Printed.{newline}
use borrow.Author.Rules.{rules}
use Rattle.line_answers.proofs.sheet.arguments_text.Goals as goal
use Rattle.line_answers.proofs.sheet.arguments_text.Goals.{Start}

module _ (s : Start) where
  tt_fits : SFits w64 s.args.found.tt
  tt_fits = search rules

  longitude_fits : SFits w64 s.args.found.longitude
  longitude_fits = search rules

  sidereal_fits : SFits w64 s.args.found.sidereal
  sidereal_fits = search rules

pub returns : goal.returns
returns c =
    let s = (goal.at.returns c).Start in
    let one = c.push_number.ensures.bytes ∙ (λ i. c.new-text.ensures i ++ decimal ((any (tt_fits s)).same i)) in
    let two = c.push_number-2.ensures.bytes ∙ (λ i. (c.push.ensures.bytes ∙ ap (λ (t : List ℕ). t ++ (space ∷ [])) one) i ++ decimal ((any (longitude_fits s)).same i)) in
    let three = c.push_number-3.ensures.bytes ∙ (λ i. (c.push-2.ensures.bytes ∙ ap (λ (t : List ℕ). t ++ (space ∷ [])) two) i ++ decimal ((any (sidereal_fits s)).same i)) in
    c.push-3.ensures.bytes ∙ ap (λ (t : List ℕ). t ++ (newline ∷ [])) three ∙ fields_line s.args.found
