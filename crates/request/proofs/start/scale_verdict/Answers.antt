-- `request::start::scale_verdict` meets its contract.
use mathlib.Core.List.{[], ◌∷◌}
use mathlib.Core.Path.{◌≡◌}
use lib.IntN.{pos}
use Rattle.calendar.proofs.RefusalLaws.{alone, exit, passed, refused}
use Rattle.calendar.specs.Refusal.{◌unless◌, verdict_number}
use Rattle.numbers.specs.Whole.{between}
use Rattle.sum_rules.specs.Instant.{minus}
use Rattle.request.specs.Request.{delta_limit, ut1_limit}
use Rattle.request.proofs.RequestLaws.{judged_between}
use Rattle.request.proofs.start.scale_verdict.Goals as goal
use Rattle.request.proofs.start.scale_verdict.Goals.{After-unless}

-- 5
by_ut1 : (c : After-unless) → verdict_number c.unless.result ≡ 5 unless between (minus ut1_limit) c.args.ut1 (pos ut1_limit)
by_ut1 c = judged_between 5 (minus ut1_limit) c.args.ut1 (pos ut1_limit) c.ranges.ut1 c.unless.ensures c.is_between.ensures

pub returns-in_err-unless : goal.returns-in_err-unless
returns-in_err-unless c =
    exit c.from_residual.result c.in_err-unless.field-0.0 c.from_residual.ensures
    (refused (6 unless between (minus delta_limit) c.args.delta_t (pos delta_limit) ∷ []) c.in_err-unless.was (by_ut1 (goal.at.returns-in_err-unless c).After-unless))

pub returns : goal.returns
returns c =
    passed (6 unless between (minus delta_limit) c.args.delta_t (pos delta_limit) ∷ []) c.in_ok-unless.was (by_ut1 (goal.at.returns c).After-unless)
    (alone (judged_between 6 (minus delta_limit) c.args.delta_t (pos delta_limit) c.ranges.delta_t c.unless-2.ensures c.is_between-2.ensures))
