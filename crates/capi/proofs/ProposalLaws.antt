-- What a plan leaves behind the references of its export.
use mathlib.Core.Path.{◌≡◌, refl, sym}
use Prim.Native.Nat.{ℕ}
use borrow.Author.Tests.{ne_eqb}
use Rattle.std.specs.Prelude.{Err, None, Ok, Option, Result, Some, cond}
use Rattle.calendar.proofs.RefusalLaws.{never_none}
use Rattle.calendar.specs.Refusal.{number}
use Rattle.calendar.specs.declared.refusal.Refusal.{Refusal}
use Rattle.plan.specs.Answer.{planning_answer}
use Rattle.capi.specs.Answers.{written_one}
use Rattle.capi.specs.Proposals.{plan_refusal}

-- the planner leaves a buffer by whether there is a plan, the export by its number
pub left_alike : {A : Type 0} (x : Result (Option ℕ) Refusal) (points before : A)
    → cond (planning_answer x).value.has points before ≡ written_one (plan_refusal (planning_answer x)) points before
left_alike (Ok (Some n)) points before = refl
left_alike (Ok None) points before = refl
left_alike (Err refusal) points before = sym (rw (ne_eqb (number refusal) 0 (never_none refusal), ne_eqb (number refusal) 0 (never_none refusal)) refl)
