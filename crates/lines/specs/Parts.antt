-- However an input is cut into parts, what is written for them is the output of the whole: the claim, which proofs/Parts.antt proves.
use mathlib.Core.List.{List, [], ◌∷◌, ◌++◌, flatten}
use Rattle.std.specs.Prelude.{◌≡◌, ℕ, take}
use Rattle.lines.specs.Lines.{Answered, Ended, header, output}
use Rattle.lines.specs.declared.answers.Turn.{Turn}
use Rattle.lines.specs.declared.line.Form.{Form}

-- what is handed to be written for the parts of an input in turn, from a line so far
pub data Handed (form : Form) : List ℕ → List (List ℕ) → List ℕ → Type 0 where
  -- a part, as `answer_chunk` promises; the next goes on from the line that it leaves
  part : {line : List ℕ} {chunk out : List ℕ} {turn : Turn} {rest : List (List ℕ)} {bytes : List ℕ} → Answered form line chunk out turn → Handed form turn.line rest bytes
      → Handed form line (chunk ∷ rest) (take turn.used out ++ bytes)
  -- the end of the input, as `answer_last` promises
  end : {line : List ℕ} {out : List ℕ} {used : ℕ} → Ended form line out used → Handed form line [] (take used out)

-- the first part starts from an empty line
abbrev pub WholeOutput : Type 0
WholeOutput =
    (form : Form) (line : List ℕ) (parts : List (List ℕ)) (bytes : List ℕ) → line ≡ [] → Handed form line parts bytes
    → header form ++ bytes ≡ output form (flatten parts)
