-- `reader::read` meets its contract.
use mathlib.Core.Path.{◌∙◌, ◌≡◌, ap, refl, sym}
use native.Mathlib.Omega.{arith}
use Rattle.calendar.proofs.RefusalLaws.{handed_up, never_none}
use Rattle.calendar.specs.Refusal.{first, verdict_number}
use Rattle.sky.proofs.AnswerLaws.{answered_with, refused_with}
use Rattle.strip.specs.Format.{fields, header_in}
use Rattle.strip_reader.specs.Reading.{no_header, read, read_answer, read_refusals}
use Rattle.strip_reader.proofs.ReadLaws.{one_reading, too_few}
use Rattle.strip_reader.proofs.reader.read.Goals as goal
use Rattle.strip_reader.proofs.reader.read.Goals.{After-from-header}

-- what the header is read from
module _ (c : After-from-header) where
  numbers_are : c.fields_in-numbers.result ≡ fields c.args.strip.now
  numbers_are = c.fields_in-numbers.ensures

  header_is : c.from-header.result ≡ header_in (fields c.args.strip.now)
  header_is = c.from-header.ensures ∙ ap header_in numbers_are

pub returns-then-strip-lt-HEADER : goal.returns-then-strip-lt-HEADER
unfolding read
returns-then-strip-lt-HEADER c =
    let octets = c.args.strip.now in
    let is : first (read_refusals octets) ≡ 20 = unfold first in rw (too_few octets c.if-strip-lt-HEADER.true) refl in
    one_reading (refused_with no_header (header_in (fields octets)) is (λ e. omega (arith, e)))

pub read_verdict-requires : goal.read_verdict-requires
read_verdict-requires c =
    let k = (goal.at.read_verdict-requires c).After-from-header in record {
      header_size_in_bounds = c.if-strip-lt-HEADER.false;
      numbers_value = (numbers_are k, header_is k);
    }

pub returns-in_err-read_verdict : goal.returns-in_err-read_verdict
unfolding read
returns-in_err-read_verdict c =
    let octets = c.args.strip.now in
    let refusal = c.in_err-read_verdict.field-0.0 in
    let is = sym c.read_verdict.ensures ∙ ap verdict_number c.in_err-read_verdict.was in
    one_reading (ap read_answer (handed_up c.from_residual.ensures) ∙ refused_with no_header (header_in (fields octets)) is (never_none refusal))

pub returns : goal.returns
unfolding read
returns c =
    let k = (goal.at.returns c).After-from-header in
    let octets = c.args.strip.now in
    one_reading (answered_with no_header (header_in (fields octets)) (sym c.read_verdict.ensures ∙ ap verdict_number c.in_ok-read_verdict.was) (header_is k))
