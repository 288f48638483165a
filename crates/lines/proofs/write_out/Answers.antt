use Rattle.lines.proofs.StreamLaws.{none_written, written_on}
use Rattle.lines.proofs.write_out.Goals as goal

pub loop-rest-init : goal.loop-rest-init
loop-rest-init g c = none_written (g.W.Write.contents c.args.writer.now) c.args.bytes.now

pub loop-rest-preserved : goal.loop-rest-preserved
loop-rest-preserved g c =
    let contents = g.W.Write.contents in
    let l = c.loop-rest in
    written_on (contents c.args.writer.now) (contents l.writer) (contents c.write.new.self) c.args.bytes.now l.rest.now c.in-Ok.count l.invariant.0 l.invariant.1 c.in-Ok.ensures.bytes
