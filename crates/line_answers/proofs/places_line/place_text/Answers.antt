-- `line_answers::places_line::place_text` meets its contract.
use mathlib.Core.List.{List, [], ◌∷◌, ◌++◌}
use mathlib.Core.Path.{◌∙◌, ap}
use Prim.Native.Nat.{ℕ}
use mir.Syntax.{w64}
use mir.Val.{SFits}
use Rattle.numbers.proofs.Machine.{any}
use Rattle.text.specs.Decimal.{decimals}
use Rattle.text.specs.Line.{space}
use Rattle.sky.specs.Answer.{place_numbers}
use Rattle.line_answers.proofs.PlacesLineLaws.{angles_line}
use Rattle.line_answers.specs.PlacesLine.{azimuth_text}
use Rattle.line_answers.specs.Printed.{newline}
use borrow.Author.Rules.{rules}
use Rattle.line_answers.proofs.places_line.place_text.Goals as goal
use Rattle.line_answers.proofs.places_line.place_text.Goals.{Start}

elevation_fits : (s : Start) → SFits w64 s.args.place.elevation
elevation_fits s = search rules

pub returns : goal.returns
returns c =
    let s = (goal.at.returns c).Start in
    let seen = place_numbers s.args.place in
    let azimuth = c.push_azimuth.ensures.bytes ∙ ap (λ (t : List ℕ). t ++ azimuth_text seen.has_azimuth seen.azimuth) c.new-text.ensures in
    let elevation = c.push_decimals.ensures.bytes ∙ (λ i. (c.push.ensures.bytes ∙ ap (λ (t : List ℕ). t ++ (space ∷ [])) azimuth) i ++ decimals ((any (elevation_fits s)).same i)) in
    c.push-2.ensures.bytes ∙ ap (λ (t : List ℕ). t ++ (newline ∷ [])) elevation ∙ angles_line seen
