-- What is printed for an answer to a line (01, "The argument sheet").
use Rattle.std.specs.Prelude.{cond, List, [], ◌∷◌, ◌++◌, ℕ, eqb, pos}
use Rattle.text.specs.Cases.{bytes}
use Rattle.text.specs.Decimal.{decimal}
use Rattle.sky.specs.Answer.{Answer}

-- what ends a line
abbrev pub newline : ℕ
newline = 10

-- `refused 16` and the like
unfoldable pub refusal_line : ℕ → List ℕ
refusal_line refusal = bytes "refused " ++ decimal (pos refusal) ++ newline ∷ []

-- the line of what is answered, or of the refusal
unfoldable pub answer_line : {A : Type 0} → (A → List ℕ) → Answer A → List ℕ
answer_line line answer = cond (eqb answer.refusal 0) (line answer.value) (refusal_line answer.refusal)
