-- `lines::answers::step` meets its contract.
use mathlib.Core.List.{List, ◌++◌, append-nil}
use mathlib.Core.Path.{◌∙◌, ap, refl, sym}
use Prim.Native.Nat.{ℕ}
use native.Mathlib.Omega.{arith}
use lib.ListN.{take}
use Rattle.lines.specs.Lines.{kept, line_answer}
use Rattle.lines.proofs.AnswerLaws.{at_newline, at_other}
use Rattle.lines.proofs.answers.step.Goals as goal

pub returns-then-byte-eq-NEWLINE : goal.returns-then-byte-eq-NEWLINE
returns-then-byte-eq-NEWLINE c =
    let turn = c.args.turn in
    let new = at_newline c.args.form turn.line c.if-byte-eq-NEWLINE.true in
    let answer = c.answer.ensures ∙ ap (line_answer c.args.form) c.as_slice.ensures.value ∙ sym new.0 in
    record {
      used_within = c.put-next.ensures.within;
      same_room = c.put-next.ensures.out_len_unchanged;
      printed = c.put-next.ensures.value.1 ∙ ap (λ (r : List ℕ). take turn.used c.args.out.now ++ r) answer;
      line = c.new.ensures ∙ ap kept (sym new.1);
    }

pub returns : goal.returns
returns c =
    let turn = c.args.turn in
    let other = at_other c.args.form turn.line c.if-byte-eq-NEWLINE.false in
    record {
      used_within = omega arith;
      same_room = refl;
      printed = sym (append-nil (take turn.used c.args.out.now)) ∙ ap (λ (r : List ℕ). take turn.used c.args.out.now ++ r) (sym other.0);
      line = c.push_if_room.ensures ∙ ap kept (sym other.1);
    }
