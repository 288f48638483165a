-- The line of an answer that is known.
use mathlib.Core.List.{List}
use mathlib.Core.Path.{◌∙◌, ◌≡◌, refl}
use Prim.Native.Nat.{ℕ}
use borrow.Author.Tests.{ne_eqb}
use Rattle.std.specs.Prelude.{Err, MatchResult, None, Ok, Option, Result, Some}
use Rattle.std.specs.Option.{ok_or}
use Rattle.calendar.proofs.RefusalLaws.{never_none}
use Rattle.calendar.specs.Refusal.{number}
use Rattle.calendar.specs.declared.refusal.Refusal.{Refusal}
use Rattle.sky.specs.Answer.{answered}
use Rattle.line_answers.specs.Printed.{answer_line, refusal_line}

-- what is printed for a value or a refusal is the line of the answer
module _ {A B : Type 0} (numbers : A → B) (zeros : B) (line : B → List ℕ) where
  pub value_line : (value : A) → line (numbers value) ≡ answer_line line (answered numbers zeros (Ok value))
  unfolding answer_line
  value_line value = refl

  pub refused_line : (refusal : Refusal) → refusal_line (number refusal) ≡ answer_line line (answered numbers zeros (Err refusal))
  unfolding answer_line
  refused_line refusal = simp (ne_eqb (number refusal) 0 (never_none refusal))

-- what is printed for either
pub printed : {A B : Type 0} (numbers : A → B) (zeros : B) (line : B → List ℕ) (answer : Result A Refusal) (text : List ℕ)
    → MatchResult answer (λ value. text ≡ line (numbers value)) (λ refusal. text ≡ refusal_line (number refusal)) → text ≡ answer_line line (answered numbers zeros answer)
printed numbers zeros line (Ok value) text e = e ∙ value_line numbers zeros line value
printed numbers zeros line (Err refusal) text e = e ∙ refused_line numbers zeros line refusal

-- ---- `ok_or`, either way
pub none_found : {A E : Type 0} (o : Option A) (e : E) {f : E} → Err f ≡ ok_or o e → (o ≡ None) × (f ≡ e)
none_found None e h = (refl, cc)
none_found (Some x) e h = absurd (cc)

pub was_found : {A E : Type 0} (o : Option A) (e : E) {x : A} → Ok x ≡ ok_or o e → o ≡ Some x
was_found None e h = absurd (cc)
was_found (Some y) e h = cc
