-- `day_lines::push_time` meets its contract.
use mathlib.Core.List.{List, [], ◌∷◌, ◌++◌, append_assoc}
use mathlib.Core.Path.{◌∙◌, ap}
use Prim.Native.Nat.{◌%◌, ◌/◌, ℕ}
use Rattle.text.specs.Cases.{bytes}
use Rattle.text.specs.Decimal.{padded}
use Rattle.day_lines.specs.DaysLine.{time_text}
use Rattle.day_lines.proofs.push_time.Goals as goal

pub returns-clause-bytes : goal.returns-clause-bytes
unfolding time_text bytes
returns-clause-bytes c =
    let text = c.args.text.now in
    let hours = padded 2 (c.args.minute / 60) in
    let minutes = padded 2 (c.args.minute % 60) in
    let first = c.push_padded.ensures.bytes ∙ ap (λ (n : ℕ). text ++ padded 2 n) c.from.ensures in
    let colon = c.push.ensures.bytes ∙ ap (λ (t : List ℕ). t ++ (58 ∷ [])) first in
    c.push_padded-2.ensures.bytes ∙ (λ i. colon i ++ padded 2 (c.from-2.ensures i)) ∙ ap (λ (t : List ℕ). t ++ minutes) (append_assoc text hours (58 ∷ []))
    ∙ append_assoc text (hours ++ (58 ∷ [])) minutes
