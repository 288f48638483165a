-- `answer::work` meets its contract.
use borrow.Author.Rules.{rules}
use mathlib.Core.Path.{◌∙◌}
use Prim.Native.Nat.{ℕ}
use Rattle.arctangent.specs.Direction.{angle_or, mark}
use Rattle.day.proofs.CurveLaws.{curve_is}
use Rattle.day.specs.Curve.{azimuth_from, each_below, minutes}
use Rattle.sky_vectors.specs.Place.{place_at}
use Rattle.plan.specs.Plan.{day_azimuths}
use Rattle.plan.proofs.answer.work.Goals as goal

pub returns : goal.returns
unfolding day_azimuths place_at
returns c =
    let course = c.new-course.result in
    let begun = c.new-course.ensures in
    curve_is (λ (m : ℕ). angle_or mark (azimuth_from course.body course.runner course.date course.days m)) (λ m z h k. search rules) c.fill.ensures
    ∙ (λ i. each_below (λ (m : ℕ). angle_or mark (azimuth_from (begun.body_is i) (begun.runner_is i) (begun.date_is i) (begun.days_is i) m)) minutes)
