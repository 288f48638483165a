-- `sky::answer::shown_place` meets its contract.
use mathlib.Core.Path.{◌∙◌, ◌≡◌, ap, sym}
use Rattle.calendar.specs.Refusal.{first}
use Rattle.calendar.proofs.RefusalLaws.{handed_up, never_none}
use Rattle.request.specs.Request.{instant}
use Rattle.sky_vectors.specs.Place.{place_at}
use Rattle.sky.proofs.AnswerLaws.{answered_with, found_in_turns, judged_refusal, one_shown, place_found, place_passes, refused_with}
use Rattle.sky.specs.Answer.{Answer, PlaceNumbers, nowhere, place, place_answer, place_numbers, request_refusals, shown_answer, shown_place}
use Rattle.sky.specs.Shown.{nothing_shown, shown}
use Rattle.sky.proofs.answer.shown_place.Goals as goal
use Rattle.sky.proofs.answer.shown_place.Goals.{In_ok-seen}

-- a place that is answered
module _ (c : In_ok-seen) where
  abbrev found : record { refusal = 0; value = place_numbers c.in_ok-seen.seen } ≡ place c.args.start c.args.body c.args.point c.args.air
  found = sym (ap place_answer c.in_ok-seen.was) ∙ c.place.ensures.one_answer.equal

pub shown_at-requires : goal.shown_at-requires
shown_at-requires c = let a = c.args in found_in_turns a.start a.body a.point a.air c.in_ok-seen.seen (found (goal.at.shown_at-requires c).In_ok-seen)

pub returns-in_err-seen-clause-one_answer : goal.returns-in_err-seen-clause-one_answer
unfolding place shown_place
returns-in_err-seen-clause-one_answer c =
    let a = c.args in
    let seen = place_at a.body a.point (instant a.start) in
    let refusal = first (request_refusals a.start a.point a.air) in
    one_shown (ap shown_answer (handed_up c.from_residual.ensures)
    ∙ refused_with nothing_shown (shown a.air seen)
    (sym (judged_refusal refusal nowhere (place_numbers seen))
    ∙ ap (λ (x : Answer PlaceNumbers). x.refusal) (sym c.place.ensures.one_answer.equal ∙ ap place_answer c.in_err-seen.was))
    (never_none c.in_err-seen.field-0.0))

pub returns-clause-one_answer : goal.returns-clause-one_answer
unfolding shown_place
returns-clause-one_answer c =
    let a = c.args in
    let is = found (goal.at.returns-clause-one_answer c).In_ok-seen in
    one_shown (answered_with nothing_shown (shown a.air (place_at a.body a.point (instant a.start))) (place_passes a.start a.body a.point a.air c.in_ok-seen.seen is)
    (c.shown_at.ensures.equal ∙ ap (shown a.air) (place_found a.start a.body a.point a.air c.in_ok-seen.seen is)))
