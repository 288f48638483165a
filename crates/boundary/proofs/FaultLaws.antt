-- Answers that may be faults: what a `?` hands up, and checks in a row.
use mathlib.Core.Bool.{Bool, cond}
use mathlib.Core.List.{List, ◌∷◌}
use mathlib.Core.Path.{◌∙◌, ◌≡◌, ap, sym}
use Prim.Native.Nat.{◌<◌, ℕ}
use native.Mathlib.Omega.{arith}
use lib.Dec.{lit<}
use borrow.Author.Tests.{eq-eqb, ne_eqb}
use Rattle.std.specs.Prelude.{Err, IsErr, IsErrAnd, Result}
use Rattle.std.proofs.lemmas.Result.{err_from_is_err_and}
use Rattle.calendar.specs.Refusal.{◌else◌, first}
use Rattle.calendar.proofs.RefusalLaws.{number_above}
use Rattle.boundary.specs.Fault.{fault_number}
use Rattle.boundary.specs.declared.fault.Fault.{Fault}
use Rattle.boundary.specs.declared.fault.Fault.TheVariants as Of

-- no fault has the number of none
pub fault_above : (fault : Fault) → 0 < fault_number fault
fault_above Of.UnknownBody = lit< tt
fault_above Of.UnknownAir = lit< tt
fault_above Of.NoElevation = lit< tt
fault_above Of.OutOfReach = lit< tt
fault_above Of.NoDisks = lit< tt
fault_above Of.NoStep = lit< tt
fault_above Of.NoPlan = lit< tt
fault_above (Of.Late index) = lit< tt
fault_above (Of.Out minute) = lit< tt
fault_above (Of.Refused refusal) = number_above refusal

pub never_none : (fault : Fault) → fault_number fault ≡ 0 → ⊥
never_none fault e = omega (arith, fault_above fault)

-- what the exit of a `?` hands up
pub handed_up : {A : Type 0} {r : Result A Fault} {fault : Fault} → IsErr r × IsErrAnd r (λ other. other ≡ fault) → r ≡ Err fault
handed_up {r = r} h = let p = err_from_is_err_and r h.1 in p.1 ∙ ap Err p.2

-- checks in a row: one refused, and one passed
pub refused : (fault : Fault) {n : ℕ} (rest : List ℕ) → fault_number fault ≡ n → fault_number fault ≡ first (n ∷ rest)
unfolding first
refused fault {n} rest e = e ∙ sym (ap (λ (b : Bool). cond b (first rest) n) (ne_eqb n 0 (λ none. never_none fault (e ∙ none))))

pub passed : {n m : ℕ} (rest : List ℕ) → 0 ≡ n → m ≡ first rest → m ≡ first (n ∷ rest)
unfolding first
passed {n} rest none next = next ∙ sym (ap (λ (b : Bool). cond b (first rest) n) (eq-eqb n 0 (sym none)))

-- and of two
pub refused_else : (fault : Fault) {n : ℕ} (m : ℕ) → fault_number fault ≡ n → fault_number fault ≡ n else m
refused_else fault {n} m e = e ∙ sym (ap (λ (b : Bool). cond b m n) (ne_eqb n 0 (λ none. never_none fault (e ∙ none))))

pub passed_else : {n m k : ℕ} → 0 ≡ n → k ≡ m → k ≡ n else m
passed_else {n} {m} none next = next ∙ sym (ap (λ (b : Bool). cond b m n) (eq-eqb n 0 (sym none)))
