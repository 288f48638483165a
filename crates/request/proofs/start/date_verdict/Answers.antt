-- `request::start::date_verdict` meets its contract.
use mathlib.Core.Path.{◌≡◌, ap, refl}
use lib.IntN.{ℤ}
use Rattle.std.specs.Prelude.{Err, MatchResult, Ok, Result}
use Rattle.std.specs.Result.{is_ok}
use Rattle.calendar.proofs.RefusalLaws.{alone}
use Rattle.calendar.specs.DayCount.{count_answer}
use Rattle.calendar.specs.Refusal.{Verdict, first, verdict_number}
use Rattle.calendar.specs.declared.refusal.Refusal.{Refusal}
use Rattle.request.specs.Request.{date_refusals}
use Rattle.request.proofs.start.date_verdict.Goals as goal

pub returns : goal.returns
returns c = go _ c.args.date c.map.result c.map.ensures.cases c.map.ensures.variant
  where
    go : (P : ℤ → Type 0) (date : Result ℤ Refusal) (verdict : Verdict) → MatchResult date P (λ refusal. verdict ≡ Err refusal) → is_ok verdict ≡ is_ok date
        → verdict_number verdict ≡ first (date_refusals (count_answer date))
    go P (Ok days) (Ok _) cases same = alone refl
    go P (Ok days) (Err refusal) cases same = cc
    go P (Err refusal) verdict cases same = alone (ap verdict_number cases)
