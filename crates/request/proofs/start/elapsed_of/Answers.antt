-- `request::start::elapsed_of` meets its contract.
use Prim.Native.Nat.{zero-le}
use lib.IntN.{pos}
use Rattle.numbers.proofs.Machine.{Mirror, ◌⊕◌, ◌⊗◌, field, fits, kept, lit}
use Rattle.request.proofs.RequestLaws.{Clock, between_size, clock}
use Rattle.request.specs.Request.{elapsed, fraction_limit}
use Rattle.request.specs.declared.start.Start.{Start}
use Rattle.sum_rules.specs.Instant as Unit
use Rattle.request.proofs.start.elapsed_of.Goals as goal
use Rattle.request.proofs.start.elapsed_of.Goals.{Start as Begun}

module _ (s : Begun) where
  abbrev start : Start
  start = s.args.start

  ticks : Clock start
  ticks = clock start s.requires

  abbrev hour : Mirror
  hour = field start.hour (between_size 0 23 start.hour zero-le ticks.hour) tt

  abbrev minute : Mirror
  minute = field start.minute (between_size 0 59 start.minute zero-le ticks.minute) tt

  abbrev second : Mirror
  second = field start.second (between_size 0 59 start.second zero-le ticks.second) tt

  abbrev fraction : Mirror
  fraction = field start.fraction (between_size 0 fraction_limit start.fraction zero-le ticks.fraction) tt

  abbrev minutes : Mirror
  minutes = kept (kept (hour ⊗ lit (pos 60)) tt ⊕ minute) tt

  abbrev seconds : Mirror
  seconds = kept (kept (minutes ⊗ lit (pos 60)) tt ⊕ second) tt

  abbrev units : Mirror
  units = kept (seconds ⊗ lit (pos Unit.second)) tt ⊕ fraction

pub overflow_mul-result : goal.overflow_mul-result
overflow_mul-result c = fits (hour (goal.at.overflow_mul-result c).Start ⊗ lit (pos 60)) tt

pub overflow_add-result : goal.overflow_add-result
overflow_add-result c = let s = (goal.at.overflow_add-result c).Start in fits (kept (hour s ⊗ lit (pos 60)) tt ⊕ minute s) tt

pub overflow_mul-result-2 : goal.overflow_mul-result-2
overflow_mul-result-2 c = fits (minutes (goal.at.overflow_mul-result-2 c).Start ⊗ lit (pos 60)) tt

pub overflow_add-result-2 : goal.overflow_add-result-2
overflow_add-result-2 c = let s = (goal.at.overflow_add-result-2 c).Start in fits (kept (minutes s ⊗ lit (pos 60)) tt ⊕ second s) tt

pub overflow_mul-result-3 : goal.overflow_mul-result-3
overflow_mul-result-3 c = fits (seconds (goal.at.overflow_mul-result-3 c).Start ⊗ lit (pos Unit.second)) tt

pub overflow_add-result-3 : goal.overflow_add-result-3
overflow_add-result-3 c = fits (units (goal.at.overflow_add-result-3 c).Start) tt

pub returns : goal.returns
unfolding elapsed
returns c = (kept (units (goal.at.returns c).Start) tt).same
