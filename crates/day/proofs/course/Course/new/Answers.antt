-- `course::Course::new` meets its contract.
use Rattle.numbers.proofs.Machine.{passed}
use Rattle.day.proofs.DateLaws.{point_on_earth, standing, today}
use Rattle.day.proofs.course.Course.new.Goals as goal

pub runner_at-requires : goal.runner_at-requires
runner_at-requires c = point_on_earth c.args.date c.args.point c.requires

pub invariant_of-result : goal.invariant_of-result
invariant_of-result c = record {
  stands = standing c.args.date c.args.point c.requires c.runner_at.ensures;
  accepted = today c.args.date c.args.point c.requires (passed c.days_of.type_inv c.days_of.ensures);
}
