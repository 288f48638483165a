-- Faults by their numbers, and an answer that may be one.
use Rattle.std.specs.Prelude.{◌≡◌, ℕ, Result, Ok, Err}
use Rattle.std.specs.Result.{MatchResult}
use Rattle.batch.specs.declared.samples.BatchRefusal.{BatchRefusal}
use Rattle.batch.specs.declared.samples.BatchRefusal.TheVariants as Batches
use Rattle.calendar.specs.Refusal.{number}
use Rattle.calendar.specs.declared.refusal.Refusal.TheVariants.{Strip}
use Rattle.calendar.specs.declared.refusal.StripRefusal.TheVariants.{Azimuth}
use Rattle.proposal.specs.declared.judge.Objection.{Objection}
use Rattle.proposal.specs.declared.judge.Objection.TheVariants as Objections
use Rattle.strip_reader.specs.declared.reader.StepRefusal.{StepRefusal}
use Rattle.strip_reader.specs.declared.reader.StepRefusal.TheVariants as Steps
use Rattle.boundary.specs.Codes.{no_disks, no_elevation, no_plan, no_step, out_of_reach, unknown_air, unknown_body}
use Rattle.boundary.specs.declared.fault.Fault.{Fault}
use Rattle.boundary.specs.declared.fault.Fault.TheVariants as Of

-- 13 carries an index, and 31 a minute
abbrev pub fault_number : Fault → ℕ
fault_number Of.UnknownBody = unknown_body
fault_number Of.UnknownAir = unknown_air
fault_number Of.NoElevation = no_elevation
fault_number Of.OutOfReach = out_of_reach
fault_number Of.NoDisks = no_disks
fault_number Of.NoStep = no_step
fault_number Of.NoPlan = no_plan
fault_number (Of.Late index) = 13
fault_number (Of.Out minute) = 31
fault_number (Of.Refused refusal) = number refusal

-- a batch's refusal, a judge's objection and a step's refusal as faults
abbrev pub batch_fault : BatchRefusal → Fault
batch_fault (Batches.Request refusal) = Of.Refused refusal
batch_fault (Batches.Late index) = Of.Late index

abbrev pub judge_fault : Objection → Fault
judge_fault (Objections.Refused refusal) = Of.Refused refusal
judge_fault (Objections.Out minute) = Of.Out minute

abbrev pub step_fault : StepRefusal → Fault
step_fault Steps.NoStep = Of.NoStep
step_fault Steps.NoAzimuth = Of.Refused (Strip Azimuth)

-- 0 where there is a value
abbrev pub fault_of : {A : Type 0} → Result A Fault → ℕ
fault_of (Ok value) = 0
fault_of (Err fault) = fault_number fault

-- what an answer leaves behind the reference that it is written through: the value, or what stood there
abbrev pub left_by : {A : Type 0} → Result A Fault → A → A
left_by (Ok value) before = value
left_by (Err fault) before = before

-- the same of a part of the value
abbrev pub left_as : {A B : Type 0} → (A → B) → Result A Fault → B → B
left_as told (Ok value) before = told value
left_as told (Err fault) before = before

-- an answer as it is told: the value by its numbers where the refusal is 0, and otherwise a fault with that number
abbrev pub Told : {A B : Type 0} → (A → B) → ℕ → B → Result A Fault → Type 0
Told numbers refusal value answer = MatchResult answer (λ found. (0 ≡ refusal) × (numbers found ≡ value)) (λ fault. fault_number fault ≡ refusal)
