-- `answer::is_up_before` meets its contract.
use mathlib.Core.Path.{◌∙◌, ap, subst⁻¹}
use borrow.Author.Rules.{rules}
use lib.Dec.{lit<}
use lib.IntN.{◌-ℤ◌, negsuc, pos, ℤ}
use lib.Signed.{◌<ℤ◌, ◌≤ℤ◌}
use mir.Syntax.{w64}
use mir.Val.{SFits}
use Rattle.day.proofs.DateLaws.{day_before}
use Rattle.day.specs.Curve.{AcceptedDay, elevation_from, last_minute}
use Rattle.number_rules.proofs.CalendarLaws.{first_day_is}
use Rattle.numbers.proofs.Machine.{Mirror, ◌⊖◌, any, bounded, is_lt, kept, less, lit, not_less, not_lt, passed}
use Rattle.sum_rules.proofs.AcceptedInstants.{days_small}
use Rattle.sum_rules.specs.Instant.{first_day}
use Rattle.rise_set.specs.Crossing.{is_up}
use Rattle.rise_set.proofs.answer.is_up_before.Goals as goal
use Rattle.rise_set.proofs.answer.is_up_before.Goals.{Start, Then-course-gt-FIRST_DAY}

fits_at : (s : Start) → SFits w64 s.args.course.days
fits_at s = search rules

-- a day after the first
module _ (c : Then-course-gt-FIRST_DAY) where
  abbrev s : Start
  s = (goal.at.Then-course-gt-FIRST_DAY c).Start

  after : first_day <ℤ s.args.course.days
  after = subst⁻¹ (λ (z : ℤ). z <ℤ s.args.course.days) first_day_is (less (lit (negsuc 36_523)) (any (fits_at s)) c.if-course-gt-FIRST_DAY.true)

  yesterday : AcceptedDay s.args.course.date (s.args.course.days -ℤ pos 1)
  yesterday = (day_before s.args.course.accepted).accepted after

  abbrev less_one : Mirror
  less_one = bounded (any (fits_at s) ⊖ lit (pos 1)) (days_small (yesterday.each 0 (lit< tt)))

pub invariant_of-yesterday : goal.invariant_of-yesterday
invariant_of-yesterday c =
    let k = (goal.at.invariant_of-yesterday c).Then-course-gt-FIRST_DAY in
    let course = c.args.course in record {
      stands = course.stands;
      accepted = subst⁻¹ (AcceptedDay course.date) (kept (less_one k) tt).same (yesterday k);
    }

pub returns-then-course-gt-FIRST_DAY : goal.returns-then-course-gt-FIRST_DAY
returns-then-course-gt-FIRST_DAY c =
    let k = (goal.at.returns-then-course-gt-FIRST_DAY c).Then-course-gt-FIRST_DAY in
    let course = c.args.course in
    let worked = passed c.elevation.type_inv (c.elevation.ensures ∙ ap (λ (d : ℤ). elevation_from course.body course.runner course.date d last_minute) (kept (less_one k) tt).same) in
    rw (is_lt (after k)) (c.is_up.ensures ∙ ap is_up worked)

pub returns : goal.returns
returns c =
    let days = c.args.course.days in
    let first : days ≤ℤ first_day = subst⁻¹ (λ (z : ℤ). days ≤ℤ z) first_day_is (not_less (lit (negsuc 36_523)) (any (fits_at (goal.at.returns c).Start)) c.if-course-gt-FIRST_DAY.false) in
    rw (not_lt first) (c.is_up-2.ensures ∙ ap is_up (any c.ranges.first).same)
