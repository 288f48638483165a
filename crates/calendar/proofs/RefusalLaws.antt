-- No two refusals have one number, and none has 0. A number is read back as its refusal; two refusals with one number are read back from the same number.
use mathlib.Core.Bool.{Bool, ◌&&◌, cond, false, true}
use mathlib.Core.List.{List, [], ◌++◌, ◌∷◌}
use mathlib.Core.Path.{◌∙◌, ◌≡◌, ap, refl, sym}
use Prim.Native.Nat.{◌<◌, suc, ℕ}
use native.Mathlib.Omega.{arith}
use lib.Dec.{eqb, lit<, ltb}
use borrow.Author.Tests.{eqb-false, eqb-true, ne_eqb}
use Rattle.std.specs.Prelude.{Err, IsErr, IsErrAnd, Ok, Result}
use Rattle.std.proofs.lemmas.Result.{err_from_is_err_and}
use Rattle.calendar.specs.Refusal.{OneAnswer, Verdict, VerdictsTold, ◌else◌, ◌unless◌, first, number, proposal_number, strip_number, verdict_number}
use Rattle.calendar.specs.declared.refusal.ProposalRefusal.{ProposalRefusal}
use Rattle.calendar.specs.declared.refusal.ProposalRefusal.TheVariants as Proposals
use Rattle.calendar.specs.declared.refusal.Refusal.{Refusal}
use Rattle.calendar.specs.declared.refusal.Refusal.TheVariants as Of
use Rattle.calendar.specs.declared.refusal.StripRefusal.{StripRefusal}
use Rattle.calendar.specs.declared.refusal.StripRefusal.TheVariants as Strips

-- what is told apart by its numbers is one answer
pub one_answer : {A B : Type 0} {numbers : A → B} → ((x y : A) → numbers x ≡ numbers y → x ≡ y) → {answer : A} {rule : B} → numbers answer ≡ rule → OneAnswer numbers rule answer
one_answer tells {answer} e = record { equal = e; only = λ other f. tells other answer (f ∙ sym e) }

strip_numbered : ℕ → StripRefusal
strip_numbered n =
    cond (eqb n 20) Strips.Length (cond (eqb n 21) Strips.Version (cond (eqb n 22) Strips.AirOrBody (cond (eqb n 23) Strips.Date (cond (eqb n 24) Strips.Point
    (cond (eqb n 25) Strips.Step (cond (eqb n 26) Strips.Azimuth (cond (eqb n 27) Strips.NotFound (cond (eqb n 28) Strips.Buffer Strips.MeasuredAir))))))))

strip_above : (refusal : StripRefusal) → 19 < strip_number refusal
strip_above Strips.Length = lit< tt
strip_above Strips.Version = lit< tt
strip_above Strips.AirOrBody = lit< tt
strip_above Strips.Date = lit< tt
strip_above Strips.Point = lit< tt
strip_above Strips.Step = lit< tt
strip_above Strips.Azimuth = lit< tt
strip_above Strips.NotFound = lit< tt
strip_above Strips.Buffer = lit< tt
strip_above Strips.MeasuredAir = lit< tt

proposal_numbered : ℕ → ProposalRefusal
proposal_numbered n = cond (eqb n 29) Proposals.Points Proposals.Opposite

proposal_above : (refusal : ProposalRefusal) → 28 < proposal_number refusal
proposal_above Proposals.Points = lit< tt
proposal_above Proposals.Opposite = lit< tt

-- the refusal that has a number
pub numbered : ℕ → Refusal
numbered n =
    cond (eqb n 1) Of.Year (cond (eqb n 2) Of.Month (cond (eqb n 3) Of.Day (cond (eqb n 4) Of.Clock (cond (eqb n 5) Of.Ut1 (cond (eqb n 6) Of.DeltaT
    (cond (eqb n 7) Of.Longitude (cond (eqb n 8) Of.Latitude (cond (eqb n 9) Of.Height (cond (eqb n 10) Of.Pressure (cond (eqb n 11) Of.Temperature
    (cond (eqb n 12) Of.ShortBuffer (cond (eqb n 14) Of.Opposite (cond (eqb n 15) Of.NotReduced (cond (ltb 28 n && ltb n 32) (Of.Proposal (proposal_numbered n))
    (cond (ltb 19 n) (Of.Strip (strip_numbered n)) Of.NotALine)))))))))))))))

read_strip : (refusal : StripRefusal) → numbered (strip_number refusal) ≡ Of.Strip refusal
unfolding numbered strip_numbered
read_strip Strips.Length = refl
read_strip Strips.Version = refl
read_strip Strips.AirOrBody = refl
read_strip Strips.Date = refl
read_strip Strips.Point = refl
read_strip Strips.Step = refl
read_strip Strips.Azimuth = refl
read_strip Strips.NotFound = refl
read_strip Strips.Buffer = refl
read_strip Strips.MeasuredAir = refl

read_proposal : (refusal : ProposalRefusal) → numbered (proposal_number refusal) ≡ Of.Proposal refusal
unfolding numbered proposal_numbered
read_proposal Proposals.Points = refl
read_proposal Proposals.Opposite = refl

pub read_back : (refusal : Refusal) → numbered (number refusal) ≡ refusal
unfolding numbered
read_back Of.Year = refl
read_back Of.Month = refl
read_back Of.Day = refl
read_back Of.Clock = refl
read_back Of.Ut1 = refl
read_back Of.DeltaT = refl
read_back Of.Longitude = refl
read_back Of.Latitude = refl
read_back Of.Height = refl
read_back Of.Pressure = refl
read_back Of.Temperature = refl
read_back Of.ShortBuffer = refl
read_back Of.Opposite = refl
read_back Of.NotReduced = refl
read_back Of.NotALine = refl
read_back (Of.Strip refusal) = read_strip refusal
read_back (Of.Proposal refusal) = read_proposal refusal

pub number_tells : (x y : Refusal) → number x ≡ number y → x ≡ y
number_tells x y e = sym (read_back x) ∙ ap numbered e ∙ read_back y

pub number_above : (refusal : Refusal) → 0 < number refusal
number_above Of.Year = lit< tt
number_above Of.Month = lit< tt
number_above Of.Day = lit< tt
number_above Of.Clock = lit< tt
number_above Of.Ut1 = lit< tt
number_above Of.DeltaT = lit< tt
number_above Of.Longitude = lit< tt
number_above Of.Latitude = lit< tt
number_above Of.Height = lit< tt
number_above Of.Pressure = lit< tt
number_above Of.Temperature = lit< tt
number_above Of.ShortBuffer = lit< tt
number_above Of.Opposite = lit< tt
number_above Of.NotReduced = lit< tt
number_above Of.NotALine = lit< tt
number_above (Of.Strip refusal) = omega (arith, strip_above refusal)
number_above (Of.Proposal refusal) = omega (arith, proposal_above refusal)

-- an answer that is not refused is no refusal
pub never_none : (refusal : Refusal) → number refusal ≡ 0 → ⊥
never_none refusal e = omega (arith, number_above refusal)

-- what is told of a result: an answer that is not refused has the number 0, and its value is read back; a refusal has its own
pub result_tells : {A B : Type 0} (numbers : Result A Refusal → B) (refusal : B → ℕ) →
    ((x : A) → refusal (numbers (Ok x)) ≡ 0) → ((x : Refusal) → refusal (numbers (Err x)) ≡ number x) →
    ((x y : A) → numbers (Ok x) ≡ numbers (Ok y) → x ≡ y) →
    (x y : Result A Refusal) → numbers x ≡ numbers y → x ≡ y
result_tells numbers refusal none refused tells (Ok x) (Ok y) same = ap Ok (tells x y same)
result_tells numbers refusal none refused tells (Ok x) (Err y) same = absurd (never_none y (sym (refused y) ∙ ap refusal (sym same) ∙ none x))
result_tells numbers refusal none refused tells (Err x) (Ok y) same = absurd (never_none x (sym (refused x) ∙ ap refusal same ∙ none y))
result_tells numbers refusal none refused tells (Err x) (Err y) same = ap Err (number_tells x y (sym (refused x) ∙ ap refusal same ∙ refused y))

pub verdicts_told : VerdictsTold
verdicts_told = result_tells verdict_number (λ n. n) (λ x. refl) (λ x. refl) (λ x y same. refl)

-- a number that is read as another's is none of them
unread : (n : ℕ) → (number (numbered n) ≡ n → ⊥) → (refusal : Refusal) → number refusal ≡ n → ⊥
unread n other refusal e = other (ap (λ (k : ℕ). number (numbered k)) (sym e) ∙ ap number (read_back refusal) ∙ e)

-- 13 is read as 16
pub never_late : (refusal : Refusal) → number refusal ≡ 13 → ⊥
unfolding numbered
never_late = unread 13 (λ same. omega (arith, same))

-- 31 is read as 30
pub never_out : (refusal : Refusal) → number refusal ≡ 31 → ⊥
unfolding numbered proposal_numbered
never_out = unread 31 (λ same. omega (arith, same))

-- ---- a check, and a list of checks
pub passes : (n : ℕ) (b : Bool) → suc n unless b ≡ 0 → b ≡ true
passes n true e = refl
passes n false e = absurd (omega arith)

else_none : (n m : ℕ) → n else m ≡ 0 → (n ≡ 0) × (m ≡ 0)
else_none n m e = go (eqb n 0) (eqb-true n 0) (eqb-false n 0) e
  where
    go : (b : Bool) → (b ≡ true → n ≡ 0) → (b ≡ false → n ≡ 0 → ⊥) → cond b m n ≡ 0 → (n ≡ 0) × (m ≡ 0)
    go true is isn't e = (is refl, e)
    go false is isn't e = absurd (isn't refl e)

pub none : (n : ℕ) (rest : List ℕ) → first (n ∷ rest) ≡ 0 → (n ≡ 0) × (first rest ≡ 0)
unfolding first
none n rest e = else_none n (first rest) e

pub first_append : (xs ys : List ℕ) → first (xs ++ ys) ≡ first xs else first ys
unfolding first
first_append [] ys = refl
first_append (n ∷ xs) ys = go (eqb n 0) refl (first_append xs ys)
  where
    go : (b : Bool) → eqb n 0 ≡ b → first (xs ++ ys) ≡ first xs else first ys → n else first (xs ++ ys) ≡ (n else first xs) else first ys
    go true e rest = rw e rest
    go false e rest = rw (e, e) refl

pub none_append : (xs ys : List ℕ) → first (xs ++ ys) ≡ 0 → (first xs ≡ 0) × (first ys ≡ 0)
none_append xs ys e = else_none (first xs) (first ys) (sym (first_append xs ys) ∙ e)

pub first_one : (n : ℕ) → first (n ∷ []) ≡ n
unfolding first
first_one n = go (eqb n 0) (eqb-true n 0)
  where
    go : (b : Bool) → (b ≡ true → n ≡ 0) → cond b 0 n ≡ n
    go true none = sym (none refl)
    go false none = refl

-- what `or_else` gave of two lists of checks, and what one check gave
pub joined : {r v w : ℕ} (xs ys : List ℕ) → r ≡ v else w → v ≡ first xs → w ≡ first ys → r ≡ first (xs ++ ys)
joined xs ys e f g = e ∙ (λ i. f i else g i) ∙ sym (first_append xs ys)

pub alone : {r n : ℕ} → r ≡ n → r ≡ first (n ∷ [])
alone {r} {n} e = e ∙ sym (first_one n)

-- a check by itself, from what its test told
pub check : (n : ℕ) {v : ℕ} {found rule : Bool} → v ≡ n unless found → found ≡ rule → v ≡ first (n unless rule ∷ [])
check n e f = alone (e ∙ ap (λ (p : Bool). n unless p) f)

-- checks, and those that are made where they pass
module _ (xs ys : List ℕ) where
  pub last_passed : first ys ≡ 0 → first (xs ++ ys) ≡ first xs
  unfolding first
  last_passed e = first_append xs ys ∙ ap (λ (n : ℕ). first xs else n) e ∙ first_one (first xs)

  pub passed_first : first xs ≡ 0 → first (xs ++ ys) ≡ first ys
  passed_first e = first_append xs ys ∙ ap (λ (n : ℕ). n else first ys) e

  pub refused_first : {n : ℕ} → first xs ≡ n → (n ≡ 0 → ⊥) → first (xs ++ ys) ≡ n
  refused_first {n} e refuses = first_append xs ys ∙ ap (λ (m : ℕ). m else first ys) e ∙ simp (ne_eqb n 0 refuses)

-- ---- a list of checks with a `?` behind each: where one refuses its refusal is handed up, and where it passes the next is made
-- what the exit of a `?` hands up
abbrev pub HandsUp : {A : Type 0} → Result A Refusal → Refusal → Type 0
HandsUp r refusal = IsErr r × IsErrAnd r (λ other. other ≡ refusal)

pub handed_up : {A : Type 0} {r : Result A Refusal} {refusal : Refusal} → HandsUp r refusal → r ≡ Err refusal
handed_up {r = r} h = let p = err_from_is_err_and r h.1 in p.1 ∙ ap Err p.2

pub exit : (r : Verdict) (refusal : Refusal) {m : ℕ} → HandsUp r refusal → number refusal ≡ m → verdict_number r ≡ m
exit r refusal h e = ap verdict_number (handed_up h) ∙ e

-- one check refused
pub refused : {v : Verdict} {refusal : Refusal} {n : ℕ} (rest : List ℕ) → v ≡ Err refusal → verdict_number v ≡ n → number refusal ≡ first (n ∷ rest)
unfolding first
refused {refusal = refusal} {n = n} rest is e =
    let same : number refusal ≡ n = ap verdict_number (sym is) ∙ e in
    same ∙ sym (ap (λ (b : Bool). cond b (first rest) n) (ne_eqb n 0 (λ none. never_none refusal (same ∙ none))))

-- one of several checks refused
pub refused_among : {v : Verdict} {refusal : Refusal} (xs ys : List ℕ) → v ≡ Err refusal → verdict_number v ≡ first xs → number refusal ≡ first (xs ++ ys)
refused_among {refusal = refusal} xs ys is e = sym (refused_first xs ys (sym e ∙ ap verdict_number is) (never_none refusal))

-- one check passed
pub passed : {v : Verdict} {n m : ℕ} (rest : List ℕ) → v ≡ Ok tt → verdict_number v ≡ n → m ≡ first rest → m ≡ first (n ∷ rest)
unfolding first
passed {n = n} rest is e next =
    let none : n ≡ 0 = sym e ∙ ap verdict_number is in
    next ∙ ap (λ (k : ℕ). cond (eqb k 0) (first rest) n) (sym none)

-- several checks passed
pub passed_all : {v : Verdict} {m : ℕ} (xs ys : List ℕ) → v ≡ Ok tt → verdict_number v ≡ first xs → m ≡ first ys → m ≡ first (xs ++ ys)
passed_all xs ys is e next = next ∙ sym (passed_first xs ys (sym e ∙ ap verdict_number is))
