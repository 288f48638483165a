-- `boundary::lent::shown_parts` meets its contract.
use Rattle.boundary.proofs.LentLaws.{shown_is}
use Rattle.boundary.proofs.lent.shown_parts.Goals as goal

pub returns : goal.returns
returns c =
    rw (c.from.ensures, c.is_some.ensures, c.unwrap_or.ensures)
    (shown_is c.args.seen.azimuth c.args.seen.elevation c.args.seen.refraction)
