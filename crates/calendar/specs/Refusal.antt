-- Numbered refusals (01, "A request and its numbered refusals"; 02, Items 6, 7 and 9): 0 stands for none.
use Rattle.std.specs.Prelude.{Bool, cond, List, [], ◌∷◌, ◌≡◌, ℕ, eqb, Result, Ok, Err, ⊤}
use Rattle.calendar.specs.declared.refusal.ProposalRefusal.{ProposalRefusal}
use Rattle.calendar.specs.declared.refusal.ProposalRefusal.TheVariants as Proposals
use Rattle.calendar.specs.declared.refusal.Refusal.{Refusal}
use Rattle.calendar.specs.declared.refusal.Refusal.TheVariants as Of
use Rattle.calendar.specs.declared.refusal.StripRefusal.{StripRefusal}
use Rattle.calendar.specs.declared.refusal.StripRefusal.TheVariants as Strips

-- the refusals of a day strip
abbrev pub strip_number : StripRefusal → ℕ
strip_number Strips.Length = 20
strip_number Strips.Version = 21
strip_number Strips.AirOrBody = 22
strip_number Strips.Date = 23
strip_number Strips.Point = 24
strip_number Strips.Step = 25
strip_number Strips.Azimuth = 26
strip_number Strips.NotFound = 27
strip_number Strips.Buffer = 28
strip_number Strips.MeasuredAir = 32

-- the refusals of a proposal
abbrev pub proposal_number : ProposalRefusal → ℕ
proposal_number Proposals.Points = 29
proposal_number Proposals.Opposite = 30

-- the paper's number for each case; 13 carries an index and 31 a minute, and are cases of the batch's and of the judge's answer
abbrev pub number : Refusal → ℕ
number Of.Year = 1
number Of.Month = 2
number Of.Day = 3
number Of.Clock = 4
number Of.Ut1 = 5
number Of.DeltaT = 6
number Of.Longitude = 7
number Of.Latitude = 8
number Of.Height = 9
number Of.Pressure = 10
number Of.Temperature = 11
number Of.ShortBuffer = 12
number Of.Opposite = 14
number Of.NotReduced = 15
number Of.NotALine = 16
number (Of.Strip refusal) = strip_number refusal
number (Of.Proposal refusal) = proposal_number refusal

-- what a check says: passed, or the refusal
abbrev pub Verdict : Type 0
Verdict = Result ⊤ Refusal

abbrev pub verdict_number : Verdict → ℕ
verdict_number (Ok _) = 0
verdict_number (Err refusal) = number refusal

-- one verdict and no other has a number, so that an equation with it nails the verdict
abbrev pub VerdictsTold : Type 0
VerdictsTold = (x y : Verdict) → verdict_number x ≡ verdict_number y → x ≡ y

-- n is given when not: 0 where the check passes
infix 68 ◌unless◌
abbrev pub ◌unless◌ : ℕ → Bool → ℕ
n unless passes = cond passes 0 n

-- one refusal, or the next where there is none
infixr 30 ◌else◌
abbrev pub ◌else◌ : ℕ → ℕ → ℕ
n else m = cond (eqb n 0) m n

-- checked in this order; the first that applies is given, and none is given otherwise
unfoldable pub first : List ℕ → ℕ
first [] = 0
first (n ∷ rest) = n else first rest

-- ONE ANSWER AND NO OTHER, what the contract of every answer that is an enum says: its numbers are the rule's, and no other case has these numbers
pub record OneAnswer {A B : Type 0} (numbers : A → B) (rule : B) (answer : A) : Type 0 where
  pub equal : numbers answer ≡ rule
  pub only : (other : A) → numbers other ≡ rule → other ≡ answer
