-- `writer::are_azimuths` meets its contract.
use mathlib.Core.Path.{◌∙◌}
use Rattle.std.proofs.Common.{rules, tests}
use Rattle.std.proofs.lemmas.Iterator.{YieldsList-from_slice}
use Rattle.std.proofs.lemmas.Iterator.Search.{all_from_yields_List}
use Rattle.strip.proofs.AzimuthLaws.{judged}
use Rattle.strip.specs.Checks.{is_azimuth}
use Rattle.strip_writer.proofs.writer.are_azimuths.Goals as goal

pub returns : goal.returns
returns c =
    let list = c.args.azimuths.now in
    all_from_yields_List is_azimuth _ _ c.all.result c.all.ensures.ran (YieldsList-from_slice list cc) (λ x b q k. search (rules, tests)) ∙ judged list
