-- `text::line::line_numbers` meets its contract: the places are as many as the numbers.
use mathlib.Core.Option.{none, some}
use mathlib.Core.Path.{◌∙◌, ◌≡◌, ap, subst, sym}
use Prim.Native.Nat.{ℕ}
use lib.IntN.{pos}
use lib.ListN.{length-replicate}
use Rattle.text.specs.Line.{answer, line_numbers}
use Rattle.text.proofs.line.line_numbers.Goals as goal

pub returns-in_err-fill : goal.returns-in_err-fill
unfolding answer
returns-in_err-fill g c =
    c.from_residual.ensures
    ∙ ap answer (sym (subst (λ (n : ℕ). line_numbers n c.args.most c.args.line.now ≡ none) (length-replicate g.row.COUNT (pos 0)) c.in_err-fill.ensures))

pub returns : goal.returns
unfolding answer
returns g c =
    ap answer (sym (subst (λ (n : ℕ). line_numbers n c.args.most c.args.line.now ≡ some c.fill.new.values) (length-replicate g.row.COUNT (pos 0)) c.in_ok-fill.ensures))
