-- `writer::write` meets its contract: the header's octets, then the azimuths', where all checks pass.
use mathlib.Core.List.{List}
use mathlib.Core.Path.{◌∙◌, ◌≡◌, ap, subst, sym}
use Prim.Native.Nat.{ℕ}
use native.Mathlib.Omega.{arith}
use lib.ListN.{length}
use Rattle.calendar.proofs.RefusalLaws.{handed_up, never_none}
use Rattle.calendar.specs.Refusal.{first, verdict_number}
use Rattle.octets.proofs.PutLaws.{put_length}
use Rattle.octets.specs.Octets.{joined, total}
use Rattle.octets.specs.Put.{Put}
use Rattle.sky.proofs.AnswerLaws.{answered_with, refused_with}
use Rattle.strip.specs.Format.{Strip, header_numbers, header_widths, strip_of, strip_size}
use Rattle.strip_writer.specs.Writing.{write, write_answer, write_refusals}
use Rattle.strip_writer.proofs.WriteLaws.{all_written, few, has_room, head_length, header_none, nothing_written, one_writing, strip_passes}
use Rattle.strip_writer.proofs.writer.write.Goals as goal
use Rattle.strip_writer.proofs.writer.write.Goals.{After-put_fields-next, In_ok-write_verdict}

-- a strip that is let pass
module _ (k : In_ok-write_verdict) where
  abbrev strip : Strip
  strip = strip_of k.args.header k.args.azimuths.now

  abbrev before : List ℕ
  before = k.args.out.now

  passes : first (write_refusals strip (length before)) ≡ 0
  passes = sym k.write_verdict.ensures ∙ ap verdict_number k.in_ok-write_verdict.was

-- its header is stored
module _ (c : After-put_fields-next) where
  abbrev told : In_ok-write_verdict
  told = (goal.at.After-put_fields-next c).In_ok-write_verdict

  stored : Put (before told) 0 (joined header_widths (header_numbers c.args.header (length c.args.azimuths.now))) c.put_fields-next.new.out c.put_fields-next.result
  stored = subst (λ (list : List ℕ). Put (before told) 0 (joined header_widths list) c.put_fields-next.new.out c.put_fields-next.result) c.numbers-numbers.ensures c.put_fields-next.ensures

pub returns-in_err-write_verdict : goal.returns-in_err-write_verdict
unfolding write
returns-in_err-write_verdict c =
    let strip = strip_of c.args.header c.args.azimuths.now in
    let refusal = c.in_err-write_verdict.field-0.0 in
    let is = sym c.write_verdict.ensures ∙ ap verdict_number c.in_err-write_verdict.was in record {
      one_answer = one_writing (ap write_answer (handed_up c.from_residual.ensures) ∙ refused_with 0 (strip_size (length strip.azimuths)) is (never_none refusal));
      out_after = nothing_written strip c.args.out.now is (never_none refusal);
    }

pub numbers-numbers-requires : goal.numbers-numbers-requires
numbers-numbers-requires c =
    let k = (goal.at.numbers-numbers-requires c).In_ok-write_verdict in
    let passed = strip_passes (strip k) (length (before k)) (passes k) in
    (header_none (strip k) passed, few (strip k) passed)

pub put_fields-next-requires : goal.put_fields-next-requires
unfolding total header_numbers
put_fields-next-requires c =
    let k = (goal.at.put_fields-next-requires c).In_ok-write_verdict in
    (omega (arith, has_room (strip k) (length (before k)) (passes k)), ap length c.numbers-numbers.ensures)

pub put_alike-requires : goal.put_alike-requires
put_alike-requires c =
    let p = (goal.at.put_alike-requires c).After-put_fields-next in
    let k = told p in
    omega (arith, (stored p).behind, put_length (stored p), head_length (strip k), has_room (strip k) (length (before k)) (passes k))

pub returns : goal.returns
unfolding write
returns c =
    let p = (goal.at.returns c).After-put_fields-next in
    let k = told p in
    let all = all_written (strip k) (before k) (passes k) (stored p) c.put_alike.ensures in record {
      one_answer = one_writing (answered_with 0 (strip_size (length (strip k).azimuths)) (passes k) all.0);
      out_after = all.1;
    }
