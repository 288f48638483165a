-- `answer::work` meets its contract. The curve is the rule's, and its entries then decide both events.
use borrow.Author.Rules.{rules}
use mathlib.Core.Path.{◌∙◌, ◌≡◌, ap}
use lib.Dec.{lit<}
use Rattle.day.proofs.CurveLaws.{curve_is}
use Rattle.day.specs.Curve.{curve, each_below, elevation_from, minutes}
use mir.Syntax.{w64}
use mir.Val.{SFits}
use Rattle.numbers.proofs.Machine.{any}
use Rattle.sky_vectors.specs.Place.{place_at}
use Rattle.rise_set.specs.Crossing.{first_minute}
use Rattle.rise_set.specs.Worked.{crosses_in, entry, up_before_day}
use Rattle.rise_set.specs.declared.crossing.Event.TheVariants.{Rise, Set}
use Rattle.rise_set.proofs.CrossingLaws.{curve_decides, entry_is, side_before}
use Rattle.rise_set.proofs.answer.work.Goals as goal
use Rattle.rise_set.proofs.answer.work.Goals.{After-fill, After-is_up_before-up_before}

filled : (c : After-fill) → c.fill.new.curve ≡ curve c.args.date c.args.body c.args.point
unfolding curve place_at
filled c =
    let course = c.new-course.result in
    let begun = c.new-course.ensures in
    curve_is (elevation_from course.body course.runner course.date course.days) (λ m z h k. search rules) c.fill.ensures
    ∙ (λ i. each_below (elevation_from (begun.body_is i) (begun.runner_is i) (begun.date_is i) (begun.days_is i)) minutes)

side_is : (c : After-is_up_before-up_before) → c.is_up_before-up_before.result ≡ side_before c.args.date c.args.body c.args.point
unfolding place_at
side_is c =
    let a = c.args in
    let begun = c.new-course.ensures in
    let fits : SFits w64 (entry c.fill.new.curve 0) = search rules in
    let first = (any fits).same ∙ ap (λ l. entry l 0) (filled (goal.at.After-is_up_before-up_before c).After-fill) ∙ entry_is a.date a.body a.point 0 (lit< tt) in
    c.is_up_before-up_before.ensures
    ∙ (λ i. up_before_day (begun.body_is i) (begun.runner_is i) (begun.date_is i) (begun.days_is i) (first i))

pub returns : goal.returns
returns c =
    let a = c.args in
    let side = side_is (goal.at.returns c).After-is_up_before-up_before in
    let entries = filled (goal.at.returns c).After-fill in
    let rise = c.first_crossing-rise.ensures.equal ∙ ((λ i. first_minute (crosses_in Rise (side i) (entries i))) ∙ curve_decides a.date a.body a.point Rise) in
    let set = c.first_crossing-set.ensures.equal ∙ ((λ i. first_minute (crosses_in Set (side i) (entries i))) ∙ curve_decides a.date a.body a.point Set) in record {
      result_value = (λ i. record { rise = rise i; set = set i });
      elevations_after = entries;
    }
