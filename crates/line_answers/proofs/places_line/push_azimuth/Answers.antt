-- `line_answers::places_line::push_azimuth` meets its contract.
use mathlib.Core.List.{List, ◌++◌}
use mathlib.Core.Path.{◌∙◌, ap, sym}
use Prim.Native.Nat.{ℕ}
use Rattle.std.specs.Prelude.{Option}
use Rattle.arctangent.specs.Direction.{azimuth_numbers}
use Rattle.numbers.specs.declared.angle.Angle.{Angle}
use Rattle.text.specs.Cases.{bytes}
use Rattle.text.specs.Decimal.{signed}
use Rattle.line_answers.specs.PlacesLine.{azimuth_text}
use Rattle.line_answers.proofs.places_line.push_azimuth.Goals as goal

-- the text of a direction that is known
abbrev text_of : Option Angle → List ℕ
text_of azimuth = azimuth_text (azimuth_numbers azimuth).has (azimuth_numbers azimuth).single

pub returns-in-Some-clause-bytes : goal.returns-in-Some-clause-bytes
unfolding azimuth_text signed
returns-in-Some-clause-bytes c = c.push_units.ensures.bytes ∙ ap (λ (azimuth : Option Angle). c.args.text.now ++ text_of azimuth) (sym c.in-Some.is)

pub returns-in-None-clause-bytes : goal.returns-in-None-clause-bytes
unfolding azimuth_text bytes
returns-in-None-clause-bytes c = c.extend_from_slice.ensures.bytes ∙ ap (λ (azimuth : Option Angle). c.args.text.now ++ text_of azimuth) (sym c.in-None.is)
