-- What is written over a reader and a writer whose bytes are known.
use Rattle.std.specs.Prelude.{◌≡◌, ℕ, ◌<◌, List, ◌++◌, length, Option, Result, MatchResult}
use Rattle.std.specs.ControlFlow.{MatchControlFlow}
use Rattle.std.specs.declared.ops.ControlFlow.{ControlFlow}
use Rattle.std.specs.Io.KnownBytes.{Appends, Consumes, IsAtEnd}
use Rattle.lines.specs.Lines.{answers, kept, left}
use Rattle.lines.specs.declared.line.Form.{Form}

-- the writer's known bytes grew by a start of these: nothing is missing in it
pub record StartWritten (old new : Option (List ℕ)) (bytes : List ℕ) : Type 0 where
  pub part : List ℕ
  pub rest : List ℕ
  pub cut : bytes ≡ part ++ rest
  pub appended : Appends old new part

-- a part of the input was read and answered, whatever stood before it on its first line
pub record PartAnswered (form : Form) (line : List ℕ) (input_old input_new output_old output_new : Option (List ℕ)) (next : List ℕ) : Type 0 where
  pub chunk : List ℕ
  pub some : 0 < length chunk
  pub consumed : Consumes input_old input_new chunk
  pub line_left : (whole : List ℕ) → line ≡ kept whole → next ≡ kept (left whole chunk)
  pub appended : (whole : List ℕ) → line ≡ kept whole → Appends output_old output_new (answers form whole chunk)

-- a read failed, and no part was read, or a write of its answers did
pub record PartFailed (form : Form) (line : List ℕ) (input_old input_new output_old output_new : Option (List ℕ)) : Type 0 where
  pub chunk : List ℕ
  pub consumed : Consumes input_old input_new chunk
  pub start : (whole : List ℕ) → line ≡ kept whole → StartWritten output_old output_new (answers form whole chunk)

-- nothing was left to read, and nothing is written
pub record InputEnded (input_old output_old output_new : Option (List ℕ)) : Type 0 where
  pub at_end : IsAtEnd input_old
  pub same_output : output_new ≡ output_old

-- a part was read and answered, or the input ended with the line as it was, or a read or a write failed
abbrev pub OneRead : {E : Type 0} → Form → List ℕ → Option (List ℕ) → Option (List ℕ) → Option (List ℕ) → Option (List ℕ) → Result (ControlFlow (List ℕ) (List ℕ)) E → Type 0
OneRead form line input_old input_new output_old output_new result =
    MatchResult result
    (λ flow.
    MatchControlFlow flow (λ next. PartAnswered form line input_old input_new output_old output_new next) (λ last. (last ≡ line) × InputEnded input_old output_old output_new))
    (λ _. PartFailed form line input_old input_new output_old output_new)
