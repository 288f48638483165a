-- `lines::answers::answer_last` meets its contract.
use mathlib.Core.Path.{◌∙◌, ap, sym}
use native.Mathlib.Omega.{arith}
use Rattle.lines.specs.Lines.{last_answer}
use Rattle.lines.proofs.AnswerLaws.{kept_last, no_bytes, some_bytes, some_last}
use Rattle.lines.proofs.answers.answer_last.Goals as goal

pub returns-then-is_empty : goal.returns-then-is_empty
unfolding last_answer
returns-then-is_empty c =
    let form = c.args.form in
    let empty = sym c.as_slice-bytes.ensures.value ∙ no_bytes c.as_slice-bytes.result.now (sym c.is_empty.ensures ∙ c.if-is_empty.true) in
    record {
      used_within = omega arith;
      printed = λ whole e. sym (sym (kept_last form whole) ∙ ap (last_answer form) (sym e ∙ empty));
    }

pub returns : goal.returns
returns c =
    let form = c.args.form in
    let line = c.args.line.now in
    let bytes = c.as_slice-bytes in
    let some = some_bytes bytes.result.now (sym c.is_empty.ensures ∙ c.if-is_empty.false) in
    record {
      used_within = c.put.ensures.within;
      printed =
          λ whole e.
          c.put.ensures.value.1 ∙ c.answer.ensures ∙ some_last form bytes.result.now some ∙ ap (last_answer form) (bytes.ensures.value ∙ e) ∙ kept_last form whole;
    }
