-- `lookup::which` meets its contract.
use mathlib.Core.Bool.{Bool}
use mathlib.Core.List.{List}
use mathlib.Core.Path.{◌∙◌, ◌≡◌, ap, sym}
use Prim.Native.Nat.{ℕ}
use Rattle.calendar.proofs.RefusalLaws.{handed_up}
use Rattle.calendar.specs.Refusal.{first}
use Rattle.strip.specs.Format.{fields, header_in}
use Rattle.strip.specs.declared.header.Header.{Header}
use Rattle.strip_reader.specs.Lookup.{bears, bears_in, found_answer}
use Rattle.strip_reader.specs.Reading.{read_answer, read_refusals}
use Rattle.strip_reader.proofs.LookupLaws.{by_first, by_second, is_first, is_neither, is_second, one_found}
use Rattle.strip_reader.proofs.ReadLaws.{read_passed, read_refused}
use Rattle.strip_reader.proofs.lookup.which.Goals as goal
use Rattle.strip_reader.proofs.lookup.which.Goals.{After-bears}

pub returns-in_err-one : goal.returns-in_err-one
returns-in_err-one c =
    let a = c.args in
    let refusal = c.in_err-one.field-0.0 in
    one_found (ap found_answer (handed_up c.from_residual.ensures) ∙ by_first a.first.now a.second.now a.date.year a.date.month a.date.day refusal
    (read_refused a.first.now refusal (sym (ap read_answer c.in_err-one.was) ∙ c.read.ensures.equal)))

pub returns-in_err-two : goal.returns-in_err-two
returns-in_err-two c =
    let a = c.args in
    let refusal = c.in_err-two.field-0.0 in
    let one = read_passed a.first.now (sym (ap read_answer c.in_ok-one.was) ∙ c.read.ensures.equal) in
    one_found (ap found_answer (handed_up c.from_residual-in_err-two.ensures) ∙ by_second a.first.now a.second.now a.date.year a.date.month a.date.day one.0 refusal
    (read_refused a.second.now refusal (sym (ap read_answer c.in_err-two.was) ∙ c.read-2.ensures.equal)))

-- both strips are read
module _ (k : After-bears) where
  one_read : (first (read_refusals k.args.first.now) ≡ 0) × (k.in_ok-one.one ≡ header_in (fields k.args.first.now))
  one_read = read_passed k.args.first.now (sym (ap read_answer k.in_ok-one.was) ∙ k.read.ensures.equal)

  two_read : (first (read_refusals k.args.second.now) ≡ 0) × (k.in_ok-two.two ≡ header_in (fields k.args.second.now))
  two_read = read_passed k.args.second.now (sym (ap read_answer k.in_ok-two.was) ∙ k.read-2.ensures.equal)

  asked : (octets : List ℕ) {header : Header} {r : Bool} → header ≡ header_in (fields octets) → r ≡ bears header k.args.date.year k.args.date.month k.args.date.day
      → bears_in octets k.args.date.year k.args.date.month k.args.date.day ≡ r
  asked octets same told = sym (told ∙ ap (λ (h : Header). bears h k.args.date.year k.args.date.month k.args.date.day) same)

  in_first : bears_in k.args.first.now k.args.date.year k.args.date.month k.args.date.day ≡ k.bears.result
  in_first = asked k.args.first.now one_read.1 k.bears.ensures

pub returns-then-bears : goal.returns-then-bears
returns-then-bears c =
    let k = (goal.at.returns-then-bears c).After-bears in
    let a = c.args in
    one_found (is_first a.first.now a.second.now a.date.year a.date.month a.date.day (one_read k).0 (two_read k).0 (in_first k ∙ c.if-bears.true))

pub returns-then-bears-2 : goal.returns-then-bears-2
returns-then-bears-2 c =
    let k = (goal.at.returns-then-bears-2 c).After-bears in
    let a = c.args in
    one_found (is_second a.first.now a.second.now a.date.year a.date.month a.date.day (one_read k).0 (two_read k).0 (in_first k ∙ c.if-bears.false)
    (asked k a.second.now (two_read k).1 c.bears-2.ensures ∙ c.if-bears-2.true))

pub returns : goal.returns
returns c =
    let k = (goal.at.returns c).After-bears in
    let a = c.args in
    one_found (is_neither a.first.now a.second.now a.date.year a.date.month a.date.day (one_read k).0 (two_read k).0 (in_first k ∙ c.if-bears.false)
    (asked k a.second.now (two_read k).1 c.bears-2.ensures ∙ c.if-bears-2.false))
