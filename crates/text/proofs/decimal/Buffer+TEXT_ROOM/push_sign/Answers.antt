-- `push_sign` of a text meets its contract.
use mathlib.Core.List.{List, ◌++◌, append-nil}
use mathlib.Core.Path.{◌∙◌, ap, sym}
use Prim.Native.Nat.{ℕ}
use lib.IntN.{pos}
use Rattle.numbers.proofs.Machine.{any, less, lit, not_less}
use Rattle.text.proofs.DecimalLaws.{no_sign, sign_below}
use Rattle.text.proofs.decimal.Buffer+TEXT_ROOM.push_sign.Goals as goal

pub returns-then-value-lt0-clause-bytes : goal.returns-then-value-lt0-clause-bytes
returns-then-value-lt0-clause-bytes c =
    c.push.ensures.bytes ∙ ap (λ (s : List ℕ). c.args.self.now ++ s) (sym (sign_below (less (any c.ranges.value) (lit (pos 0)) c.if-value-lt0.true)))

pub returns-else-value-lt0-clause-bytes : goal.returns-else-value-lt0-clause-bytes
returns-else-value-lt0-clause-bytes c =
    sym (append-nil c.args.self.now) ∙ ap (λ (s : List ℕ). c.args.self.now ++ s) (sym (no_sign (not_less (any c.ranges.value) (lit (pos 0)) c.if-value-lt0.false)))
