-- `capi::place::seen` meets its contract: a place that is answered is in turns.
use Rattle.sky.proofs.AnswerLaws.{found_in_turns}
use Rattle.capi.proofs.place.seen.Goals as goal

pub place_parts-requires : goal.place_parts-requires
place_parts-requires c = let a = c.in_ok-asked.asked in found_in_turns a.start a.body a.point a.air c.in_ok-seen.seen c.in_ok-seen.ensures.one_answer.equal
