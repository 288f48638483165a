-- `day_lines::rise_set_text` meets its contract.
use mathlib.Core.List.{List, [], ◌∷◌, ◌++◌}
use mathlib.Core.Path.{◌∙◌, ap}
use Prim.Native.Nat.{ℕ}
use Rattle.rise_set.specs.Answer.{rise_set_numbers}
use Rattle.text.specs.Line.{space}
use Rattle.line_answers.specs.Printed.{newline}
use Rattle.day_lines.proofs.DaysLineLaws.{times_line}
use Rattle.day_lines.specs.DaysLine.{crossing_text}
use Rattle.day_lines.proofs.rise_set_text.Goals as goal

pub returns : goal.returns
returns c =
    let seen = rise_set_numbers c.args.seen in
    let rise = c.push_crossing.ensures.bytes ∙ ap (λ (t : List ℕ). t ++ crossing_text seen.rise) c.new-text.ensures in
    let set = c.push_crossing-2.ensures.bytes ∙ ap (λ (t : List ℕ). t ++ crossing_text seen.set) (c.push.ensures.bytes ∙ ap (λ (t : List ℕ). t ++ (space ∷ [])) rise) in
    c.push-2.ensures.bytes ∙ ap (λ (t : List ℕ). t ++ (newline ∷ [])) set ∙ times_line seen
