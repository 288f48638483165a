-- What is handed to be written for the parts of an input is the output of the whole.
-- From the end of the parts backwards: the bytes of a part are the answers to it, and the line that it leaves is the one the rest starts from,
-- so the answers to a part and to the rest of the input join to those of both (`answers-parts`, `left-parts`).
use mathlib.Core.List.{List, [], ◌∷◌, ◌++◌, append_assoc, flatten}
use mathlib.Core.Path.{◌∙◌, ◌≡◌, ap, ap₂, sym}
use Prim.Native.Nat.{ℕ}
use Rattle.lines.specs.Lines.{answers, header, kept, last_answer, left, output}
use Rattle.lines.specs.Parts.{Handed, WholeOutput}
use Rattle.lines.specs.Parts.Handed.{end, part}
use Rattle.lines.specs.declared.line.Form.{Form}
use Rattle.lines.proofs.AnswerLaws.{answers_parts, left_parts}

-- what is printed for an input that goes on after the start of a line
abbrev from_line : Form → List ℕ → List ℕ → List ℕ
from_line form whole input = answers form whole input ++ last_answer form (left whole input)

from_parts : (form : Form) (whole first rest : List ℕ) → from_line form whole (first ++ rest) ≡ answers form whole first ++ from_line form (left whole first) rest
from_parts form whole first rest =
    ap₂ (λ (before : List ℕ) (line : List ℕ). before ++ last_answer form line) (answers_parts form whole first rest) (left_parts whole first rest)
    ∙ append_assoc (answers form whole first) (answers form (left whole first) rest) (last_answer form (left (left whole first) rest))

handed : {form : Form} {line : List ℕ} {parts : List (List ℕ)} {bytes : List ℕ} → Handed form line parts bytes
    → (whole : List ℕ) → line ≡ kept whole → bytes ≡ from_line form whole (flatten parts)
unfolding answers left flatten
handed (end e) whole same = e.printed whole same
handed {form} {parts = chunk ∷ rest} (part a h) whole same =
    ap₂ ◌++◌ (a.printed whole same) (handed h (left whole chunk) (a.line whole same)) ∙ sym (from_parts form whole chunk (flatten rest))

pub whole_output : WholeOutput
unfolding output
whole_output form line parts bytes empty h =
    let input = flatten parts in
    ap (λ (rest : List ℕ). header form ++ rest) (handed h [] empty) ∙ sym (append_assoc (header form) (answers form [] input) (last_answer form (left [] input)))
