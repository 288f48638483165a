-- `capi::strips::found` meets its contract: a strip that bears the date has a header.
use mathlib.Core.Path.{ap, sym}
use Prim.Native.Nat.{ℕ}
use Rattle.sky.specs.Answer.{Answer}
use Rattle.strip_reader.proofs.LookupLaws.{first_there, second_there}
use Rattle.capi.proofs.strips.found.Goals as goal

pub part_of-requires : goal.part_of-requires
part_of-requires c = first_there _ _ _ _ _ (sym (ap (λ (a : Answer ℕ). a.refusal) c.in_ok-which.ensures.equal))

pub part_of-requires-in-Second : goal.part_of-requires-in-Second
part_of-requires-in-Second c = second_there _ _ _ _ _ (sym (ap (λ (a : Answer ℕ). a.refusal) c.in_ok-which.ensures.equal))
