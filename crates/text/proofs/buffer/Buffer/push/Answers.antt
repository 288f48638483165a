-- `push` keeps the zeros behind the bytes in use.
use Rattle.std.proofs.Common.{ap, arith, length, length-take-le}
use Rattle.text.proofs.BufferLaws.{padded_after}
use Rattle.text.proofs.buffer.Buffer.push.Goals as goal

pub invariant_of-self : goal.invariant_of-self
invariant_of-self g c =
    let padded = c.self.invariant in
    padded_after g.row.ROOM c.self.inside.used c.self.inside.bytes c.args.byte padded
    (omega (arith, c.requires, ap length c.self.view_is, length-take-le c.self.inside.used c.self.inside.bytes padded.within))
