-- The lines of an input (01, "The argument sheet"), and what is printed for them, by the sheet, by `places` or by `days`.
use Rattle.std.specs.Prelude.{cond, List, [], ◌∷◌, ◌++◌, ◌≡◌, ℕ, ◌*◌, ◌+◌, ◌≤◌, eqb, length, take}
use Rattle.text.specs.Cases.{bytes}
use Rattle.text.specs.Decimal.{text_room}
use Rattle.day_lines.specs.DaysLine.{days_line}
use Rattle.line_answers.specs.BodyLine.{longest_request}
use Rattle.line_answers.specs.PlacesLine.{places_line}
use Rattle.line_answers.specs.Printed.{newline}
use Rattle.line_answers.specs.Sheet.{sheet_line}
use Rattle.lines.specs.declared.answers.Turn.{Turn}
use Rattle.lines.specs.declared.line.Form.{Form}
use Rattle.lines.specs.declared.line.Form.TheVariants as Forms

-- `places` and `days` have no header
unfoldable pub header : Form → List ℕ
header Forms.Sheet = bytes "TT LPRIME GMST\n"
header Forms.Places = []
header Forms.Days = []

unfoldable pub line_answer : Form → List ℕ → List ℕ
line_answer Forms.Sheet line = sheet_line line
line_answer Forms.Places line = places_line line
line_answer Forms.Days line = days_line line

-- a line ends at a newline: what is printed at a byte, and the line after it
unfoldable pub printed_at : Form → List ℕ → ℕ → List ℕ
printed_at form line byte = cond (eqb byte newline) (line_answer form line) []

unfoldable pub line_after : List ℕ → ℕ → List ℕ
line_after line byte = cond (eqb byte newline) [] (line ++ byte ∷ [])

-- what is printed for the lines that end in a part of the input, and the line after it
unfoldable pub answers : Form → List ℕ → List ℕ → List ℕ
answers form line [] = []
answers form line (byte ∷ rest) = printed_at form line byte ++ answers form (line_after line byte) rest

unfoldable pub left : List ℕ → List ℕ → List ℕ
left line [] = line
left line (byte ∷ rest) = left (line_after line byte) rest

-- or at the end of input; nothing follows a final newline
unfoldable pub last_answer : Form → List ℕ → List ℕ
last_answer form [] = []
last_answer form (byte ∷ rest) = line_answer form (byte ∷ rest)

-- the whole output; empty input: the header
unfoldable pub output : Form → List ℕ → List ℕ
output form input = header form ++ answers form [] input ++ last_answer form (left [] input)

-- ---- what the program holds of a line

-- the bytes of a line that are held: a line that fills them is refused, whatever follows
abbrev pub line_room : ℕ
line_room = longest_request + 1

abbrev pub kept : List ℕ → List ℕ
kept line = take line_room line

-- one byte: the answer stands behind the bytes in use
pub record Stepped (form : Form) (turn : Turn) (byte : ℕ) (entry exit : List ℕ) (next : Turn) : Type 0 where
  pub used_within : next.used ≤ turn.used + text_room
  pub same_room : length exit ≡ length entry
  pub printed : take next.used exit ≡ take turn.used entry ++ printed_at form turn.line byte
  pub line : next.line ≡ kept (line_after turn.line byte)

-- a part of the input, whatever stood before it on its first line
pub record Answered (form : Form) (before : List ℕ) (chunk out : List ℕ) (next : Turn) : Type 0 where
  pub used_within : next.used ≤ text_room * length chunk
  pub printed : (whole : List ℕ) → before ≡ kept whole → take next.used out ≡ answers form whole chunk
  pub line : (whole : List ℕ) → before ≡ kept whole → next.line ≡ kept (left whole chunk)

-- the end of the input
pub record Ended (form : Form) (before : List ℕ) (out : List ℕ) (used : ℕ) : Type 0 where
  pub used_within : used ≤ text_room
  pub printed : (whole : List ℕ) → before ≡ kept whole → take used out ≡ last_answer form whole
