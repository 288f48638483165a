-- `line_answers::refused::refusal_text` meets its contract.
use mathlib.Core.List.{List, [], ◌∷◌, ◌++◌}
use mathlib.Core.Path.{◌∙◌, ap}
use Prim.Native.Nat.{ℕ}
use lib.IntN.{pos}
use Rattle.numbers.proofs.Machine.{passed}
use Rattle.text.specs.Cases.{bytes}
use Rattle.text.specs.Decimal.{decimal}
use Rattle.line_answers.specs.Printed.{newline, refusal_line}
use Rattle.line_answers.proofs.refused.refusal_text.Goals as goal

pub returns : goal.returns
unfolding refusal_line bytes
returns c =
    let word = c.extend_from_slice.ensures.bytes ∙ ap (λ (t : List ℕ). t ++ bytes "refused ") c.new-text.ensures in
    let number = c.push_number.ensures.bytes ∙ (λ i. word i ++ decimal (passed c.from.type_inv (c.from.ensures ∙ ap pos c.number.ensures) i)) in
    c.push.ensures.bytes ∙ ap (λ (t : List ℕ). t ++ (newline ∷ [])) number
