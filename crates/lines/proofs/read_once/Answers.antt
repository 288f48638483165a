use Rattle.lines.proofs.StreamLaws.{read_failed}
use Rattle.lines.proofs.read_once.Goals as goal

pub returns-in_err-count : goal.returns-in_err-count
returns-in_err-count g c =
    read_failed c.args.form c.args.line (g.R.Read.remaining c.args.reader.now) (g.R.Read.remaining c.read.new.self) (g.W.Write.contents c.args.writer.now) c.read.result c.read.new.buf
    c.from_residual.result c.in_err-count.ensures.variant c.read.ensures.bytes c.from_residual.ensures.0
