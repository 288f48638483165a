-- An eclipse is told from any other answer by its numbers, and a request that 1 to 9 let pass has a start and a point that they let pass.
use mathlib.Core.List.{List, ◌++◌}
use mathlib.Core.Path.{◌≡◌, refl}
use Prim.Native.Nat.{ℕ}
use Rattle.std.specs.Prelude.{Err, Ok, Result}
use Rattle.std.specs.Result.{result_and}
use Rattle.calendar.specs.Refusal.{OneAnswer, Verdict, first, verdict_number}
use Rattle.calendar.specs.declared.refusal.Refusal.{Refusal}
use Rattle.calendar.proofs.RefusalLaws.{none_append, passed_all, refused_among}
use Rattle.request.specs.Request.{point_refusals, start_refusals}
use Rattle.request.specs.declared.start.Start.{Start}
use Rattle.sky.proofs.AnswerLaws.{one_answered}
use Rattle.sky.specs.Answer.{Answer}
use Rattle.sky_vectors.specs.declared.station.Point.{Point}
use Rattle.eclipse.specs.Answer.{eclipse_answer, eclipse_refusals}
use Rattle.eclipse.specs.declared.disks.Eclipse.{Eclipse}

pub one_eclipse : {found : Result Eclipse Refusal} {rule : Answer Eclipse} → eclipse_answer found ≡ rule → OneAnswer eclipse_answer rule found
one_eclipse = one_answered (λ x y same. same)

-- two verdicts, the second where the first passes
pub both : (v w : Verdict) (xs ys : List ℕ) → verdict_number v ≡ first xs → verdict_number w ≡ first ys → verdict_number (result_and v w) ≡ first (xs ++ ys)
both (Ok done) w xs ys e f = passed_all {v = Ok done} xs ys refl e f
both (Err refusal) w xs ys e f = refused_among {v = Err refusal} xs ys refl e

pub start_passes : (start : Start) (point : Point) → first (eclipse_refusals start point) ≡ 0 → first (start_refusals start) ≡ 0
start_passes start point e = (none_append (start_refusals start) (point_refusals point) e).0

pub point_passes : (start : Start) (point : Point) → first (eclipse_refusals start point) ≡ 0 → first (point_refusals point) ≡ 0
point_passes start point e = (none_append (start_refusals start) (point_refusals point) e).1
