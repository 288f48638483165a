-- `day_lines::push_crossing` meets its contract.
use mathlib.Core.List.{◌++◌}
use mathlib.Core.Path.{◌∙◌, ap, sym}
use Prim.Native.Nat.{ℕ}
use Rattle.std.specs.Prelude.{Option}
use Rattle.rise_set.specs.Crossing.{crossing_numbers}
use Rattle.text.specs.Cases.{bytes}
use Rattle.day_lines.specs.DaysLine.{crossing_text}
use Rattle.day_lines.proofs.push_crossing.Goals as goal

pub returns-in-Some-clause-bytes : goal.returns-in-Some-clause-bytes
unfolding crossing_text
returns-in-Some-clause-bytes c = c.push_time.ensures.bytes ∙ ap (λ (crossing : Option ℕ). c.args.text.now ++ crossing_text (crossing_numbers crossing)) (sym c.in-Some.is)

pub returns-in-None-clause-bytes : goal.returns-in-None-clause-bytes
unfolding crossing_text bytes
returns-in-None-clause-bytes c = c.push.ensures.bytes ∙ ap (λ (crossing : Option ℕ). c.args.text.now ++ crossing_text (crossing_numbers crossing)) (sym c.in-None.is)
