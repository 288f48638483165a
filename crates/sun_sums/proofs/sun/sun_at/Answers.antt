-- `sun_sums::sun::sun_at` meets its contract.
use Rattle.numbers.proofs.Machine.{passed}
use Rattle.sum_rules.proofs.Accurate.{sun_near}
use Rattle.sun_sums.proofs.sun.sun_at.Goals as goal

pub returns : goal.returns
returns c = (
  passed c.heliocentric_longitude-longitude.type_inv c.heliocentric_longitude-longitude.ensures,
  (
    passed c.heliocentric_latitude-latitude.type_inv c.heliocentric_latitude-latitude.ensures,
    (passed c.heliocentric_radius-radius.type_inv c.heliocentric_radius-radius.ensures, sun_near c.args.t.n c.requires.near),
  ),
)
