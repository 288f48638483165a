-- A day count is told from any other by its numbers.
use mathlib.Core.Path.{◌≡◌, ap, refl}
use lib.IntN.{ℤ}
use Rattle.std.specs.Prelude.{Result}
use Rattle.number_rules.specs.Calendar.{DayAnswer}
use Rattle.calendar.specs.DayCount.{count_answer}
use Rattle.calendar.specs.Refusal.{OneAnswer}
use Rattle.calendar.specs.declared.refusal.Refusal.{Refusal}
use Rattle.calendar.proofs.RefusalLaws.{one_answer, result_tells}

pub one_count : {count : Result ℤ Refusal} {rule : DayAnswer} → count_answer count ≡ rule → OneAnswer count_answer rule count
one_count = one_answer (result_tells count_answer (λ a. a.refusal) (λ x. refl) (λ x. refl) (λ x y same. ap (λ (a : DayAnswer). a.days) same))
