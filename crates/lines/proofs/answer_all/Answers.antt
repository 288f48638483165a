use Rattle.std.proofs.Common.{◌∙◌, arith}
use Rattle.lines.proofs.StreamLaws.{appends_as, at_first, end_failed, ended, failed, header_failed, if_some, on_err, on_err_more, on_ok, one_more, reads_of_whole, start_as}
use Rattle.lines.proofs.answer_all.Goals as goal

-- no header, or a part of it
pub returns-in_err-write_out-clause-start : goal.returns-in_err-write_out-clause-start
returns-in_err-write_out-clause-start g c =
    let old = g.W.Write.contents c.args.writer.now in
    let new = g.W.Write.contents c.write_out.new.writer in
    on_err c.from_residual.result
    (if_some (g.R.Read.remaining c.args.reader.now) (λ whole e. header_failed c.args.form whole old new (start_as old new c.header.ensures c.in_err-write_out.ensures.start)))

pub loop-init : goal.loop-init
loop-init g c =
    λ whole e.
    let old = g.W.Write.contents c.args.writer.now in
    let new = g.W.Write.contents c.write_out.new.writer in
    at_first c.args.form whole (g.R.Read.remaining c.args.reader.now) old new c.new-line.result e c.new-line.ensures (appends_as old new c.header.ensures c.in_ok-write_out.ensures.all)

pub loop-preserved : goal.loop-preserved
loop-preserved g c =
    let answered = rw c.in-Continue.is at c.in_ok-next.ensures in
    λ whole e.
    one_more c.args.form whole (c.loop.invariant whole e) (g.R.Read.remaining c.read_once.new.reader) (g.W.Write.contents c.read_once.new.writer) c.in-Continue.next answered

pub returns-in_err-next-clause-start : goal.returns-in_err-next-clause-start
returns-in_err-next-clause-start g c =
    on_err c.from_residual-in_err-next.result
    (if_some (g.R.Read.remaining c.args.reader.now)
    (λ whole e.
    failed c.args.form whole (c.loop.invariant whole e) (g.R.Read.remaining c.read_once.new.reader) (g.W.Write.contents c.read_once.new.writer) c.in_err-next.ensures))

pub returns-in-Break-clause-whole : goal.returns-in-Break-clause-whole
returns-in-Break-clause-whole g c =
    let at_end = rw c.in-Break.is at c.in_ok-next.ensures in
    on_ok c.finish.result
    (λ written.
    if_some (g.R.Read.remaining c.args.reader.now)
    (λ whole e _.
    ended c.args.form whole (c.loop.invariant whole e) (g.W.Write.contents c.read_once.new.writer) (g.W.Write.contents c.finish.new.writer) at_end.1 (λ line k. written line (at_end.0 ∙ k))))
    c.finish.ensures.all

pub returns-in-Break-clause-start : goal.returns-in-Break-clause-start
returns-in-Break-clause-start g c =
    let at_end = rw c.in-Break.is at c.in_ok-next.ensures in
    on_err_more c.finish.result
    (λ written.
    if_some (g.R.Read.remaining c.args.reader.now)
    (λ whole e.
    end_failed c.args.form whole (c.loop.invariant whole e) (g.W.Write.contents c.read_once.new.writer) (g.W.Write.contents c.finish.new.writer) at_end.1 (λ line k. written line (at_end.0 ∙ k))))
    c.finish.ensures.start

-- no input has so many bytes
pub returns-clause-whole : goal.returns-clause-whole
returns-clause-whole g c =
    if_some (g.R.Read.remaining c.args.reader.now)
    (λ whole e short. absurd (omega (arith, short, c.loop-test.false, reads_of_whole c.args.form whole (c.loop.invariant whole e))))
