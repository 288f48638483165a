-- The verdict by its cases: which answer each has, that it is the only one, and what one that refuses nothing says.
use mathlib.Core.Bool.{Bool, ◌&&◌, cond, false, true}
use mathlib.Core.List.{List, [], ◌++◌, ◌∷◌, append_assoc}
use mathlib.Core.Logic.{◌⊎◌, inl, inr}
use mathlib.Core.Path.{◌∙◌, ◌≡◌, ap, refl, sym}
use Prim.Native.Nat.{◌<◌, ◌≤◌, ℕ}
use native.Mathlib.Omega.{arith}
use lib.Dec.{eqb, lit<}
use lib.IntN.{nat_abs, pos, ℤ}
use lib.Signed.{le_z}
use borrow.Author.Tests.{eq-eqb, eqb-true, ne_eqb}
use Rattle.arithmetic.specs.Each.{Each, more, none as no_more}
use Rattle.arctangent.specs.Direction.{Direction}
use Rattle.calendar.proofs.RefusalLaws.{first_append, first_one, never_none, never_out, none, none_append, numbered, one_answer, passed_first, passes, read_back}
use Rattle.calendar.specs.Refusal.{OneAnswer, ◌else◌, ◌unless◌, first, number}
use Rattle.calendar.specs.declared.refusal.Refusal.{Refusal}
use Rattle.day.proofs.SearchLaws.{before, is_first, most, there}
use Rattle.day.specs.Curve.{azimuth_on, minutes}
use Rattle.day.specs.Date.{day_refusals}
use Rattle.day.specs.declared.date.Date.{Date}
use Rattle.number_rules.specs.Calendar.{DayAnswer, day_count, days_from_2000, month_length}
use Rattle.numbers.specs.Whole.{between}
use Rattle.sky_vectors.specs.SkyRange.{highest_height, latitude_limit, longitude_limit, lowest_height}
use Rattle.request.specs.Request.{delta_limit, ut1_limit}
use Rattle.sum_rules.specs.Instant.{minus}
use Rattle.sky_vectors.specs.declared.geocentric.Body.{Body}
use Rattle.sky_vectors.specs.declared.station.Point.{Point}
use Rattle.turning_points.proofs.SearchLaws.{by_cases}
use Rattle.turning_points.specs.Points.{are_turned, is_formed}
use Rattle.proposal.specs.Verdict.{JudgementAnswer, first_out, form_refusals, judgement, judgement_answer, out_at, proposal_refusals}
use Rattle.std.specs.Prelude.{Err, Ok, Result, ⊤}
use Rattle.proposal.specs.declared.judge.Objection.{Objection}
use Rattle.proposal.specs.declared.judge.Objection.TheVariants.{Out, Refused}

-- ---- one answer and no other: each is read back from its numbers
from_numbers : JudgementAnswer → Result ⊤ Objection
from_numbers a = cond (eqb a.refusal 0) (Ok tt) (cond (eqb a.refusal 31) (Err (Out a.minute)) (Err (Refused (numbered a.refusal))))

read_judgement : (x : Result ⊤ Objection) → from_numbers (judgement_answer x) ≡ x
unfolding from_numbers
read_judgement (Ok tt) = refl
read_judgement (Err (Out minute)) = refl
read_judgement (Err (Refused refusal)) =
    rw (ne_eqb (number refusal) 0 (never_none refusal), ne_eqb (number refusal) 31 (never_out refusal)) (ap (λ (r : Refusal). Err (Refused r)) (read_back refusal))

pub one_judgement : {found : Result ⊤ Objection} {rule : JudgementAnswer} → judgement_answer found ≡ rule → OneAnswer judgement_answer rule found
one_judgement = one_answer (λ x y same. sym (read_judgement x) ∙ ap from_numbers same ∙ read_judgement y)

-- ---- 29 and 30
module _ (list : List ℕ) (azimuths : List ℤ) (passed : first (form_refusals list azimuths) ≡ 0) where
  abbrev by_form : (29 unless is_formed list azimuths ≡ 0) × (first (30 unless are_turned azimuths ∷ []) ≡ 0)
  by_form = none (29 unless is_formed list azimuths) (30 unless are_turned azimuths ∷ []) passed

  pub formed_passes : is_formed list azimuths ≡ true
  formed_passes = passes 28 (is_formed list azimuths) by_form.0

  pub turned_passes : are_turned azimuths ≡ true
  turned_passes = passes 29 (are_turned azimuths) (none (30 unless are_turned azimuths) [] by_form.1).0

-- ---- 31, over a day by its minutes
module _ (tolerance : ℕ) (worked : ℕ → Direction) (list : List ℕ) (azimuths : List ℤ) where
  abbrev out : ℕ
  out = first_out tolerance worked list azimuths

  -- nothing refuses the points
  pub record Unrefused : Type 0 where
    pub formed : is_formed list azimuths ≡ true
    pub turned : are_turned azimuths ≡ true
    pub within : (m : ℕ) → m < minutes → out_at tolerance worked list azimuths m ≡ false

  pub out_most : out ≤ minutes
  unfolding first_out
  out_most = most (out_at tolerance worked list azimuths) minutes

  pub fails_before : (m : ℕ) → m < out → out_at tolerance worked list azimuths m ≡ false
  unfolding first_out
  fails_before = before (out_at tolerance worked list azimuths) minutes

  pub holds_there : out < minutes → out_at tolerance worked list azimuths out ≡ true
  unfolding first_out
  holds_there = there (out_at tolerance worked list azimuths) minutes

  pub none_out : ((m : ℕ) → m < minutes → out_at tolerance worked list azimuths m ≡ false) → out ≡ minutes
  unfolding first_out
  none_out f = is_first (out_at tolerance worked list azimuths) minutes minutes (omega arith) f (λ h. absurd (omega (arith, h)))

  pub unrefused : first (proposal_refusals tolerance worked list azimuths) ≡ 0 → Unrefused
  unrefused e =
      let parts = none_append (form_refusals list azimuths) (31 unless eqb out minutes ∷ []) e in
      let all : out ≡ minutes = eqb-true out minutes (passes 30 (eqb out minutes) (none (31 unless eqb out minutes) [] parts.1).0) in
      record {
        formed = formed_passes list azimuths parts.0;
        turned = turned_passes list azimuths parts.0;
        within = λ m h. fails_before m (omega (arith, h, all));
      }

  pub refuses_nothing : Unrefused → first (proposal_refusals tolerance worked list azimuths) ≡ 0
  refuses_nothing u = unfold first in (rw (u.formed, u.turned, eq-eqb out minutes (none_out u.within)) refl)

  -- points that are well formed and refused all the same
  pub refused_later : is_formed list azimuths ≡ true → (first (proposal_refusals tolerance worked list azimuths) ≡ 0 → ⊥)
      → (first (proposal_refusals tolerance worked list azimuths) ≡ 30) ⊎ (first (proposal_refusals tolerance worked list azimuths) ≡ 31)
  unfolding first
  refused_later formed isn't =
      by_cases (are_turned azimuths)
      (λ turned. by_cases (eqb out minutes) (λ all. absurd (isn't (rw (formed, turned, all) refl))) (λ some. inr (rw (formed, turned, some) refl)))
      (λ turned. inl (rw (formed, turned) refl))

-- ---- no check before 31 has its number
unless_below : (n : ℕ) (b : Bool) → n < 31 → n unless b < 31
unless_below n true h = omega arith
unless_below n false h = h

first_below : (list : List ℕ) → Each (λ (n : ℕ). n < 31) list → first list < 31
unfolding first
first_below [] no_more = omega arith
first_below (n ∷ rest) (more h hs) = go (eqb n 0) (first_below rest hs)
  where
    go : (b : Bool) → first rest < 31 → cond b (first rest) n < 31
    go true l = l
    go false l = h

count_below : (year month day : ℤ) → (day_count year month day).refusal < 31
unfolding day_count
count_below year month day =
    go (le_z (pos 1900) year && le_z year (pos 2100)) (le_z (pos 1) month && le_z month (pos 12)) (le_z (pos 1) day && le_z day (pos (month_length (nat_abs year) (nat_abs month))))
    (days_from_2000 (nat_abs year) (nat_abs month) (nat_abs day))
  where
    go : (a b c : Bool) (d : ℤ)
        → (cond {A = DayAnswer} a (cond b (cond c (record { refusal = 0; days = d }) (record { refusal = 3; days = pos 0 })) (record { refusal = 2; days = pos 0 })) (record { refusal = 1; days = pos 0 })).refusal < 31
    go true true true d = lit< tt
    go true true false d = lit< tt
    go true false c d = lit< tt
    go false b c d = lit< tt

pub before_31_below : (date : Date) (point : Point) (list : List ℕ) (azimuths : List ℤ) → first (day_refusals date point ++ form_refusals list azimuths) < 31
before_31_below date point list azimuths =
    first_below (day_refusals date point ++ form_refusals list azimuths)
    (more (count_below date.year date.month date.day)
    (more (unless_below 5 (between (minus ut1_limit) date.ut1 (pos ut1_limit)) (lit< tt))
    (more (unless_below 6 (between (minus delta_limit) date.delta_t (pos delta_limit)) (lit< tt))
    (more (unless_below 7 (between (minus longitude_limit) point.longitude (pos longitude_limit)) (lit< tt))
    (more (unless_below 8 (between (minus latitude_limit) point.latitude (pos latitude_limit)) (lit< tt))
    (more (unless_below 9 (between lowest_height point.height (pos highest_height)) (lit< tt))
    (more (unless_below 29 (is_formed list azimuths) (lit< tt)) (more (unless_below 30 (are_turned azimuths) (lit< tt)) no_more))))))))

-- ---- the answer
module _ (date : Date) (body : Body) (point : Point) (tolerance : ℕ) (list : List ℕ) (azimuths : List ℤ) where
  abbrev sky : ℕ → Direction
  sky = azimuth_on date body point

  abbrev first_bad : ℕ
  first_bad = first_out tolerance sky list azimuths

  abbrev before_31 : List ℕ
  before_31 = day_refusals date point ++ form_refusals list azimuths

  whole : (judgement date body point tolerance list azimuths).refusal ≡ first before_31 else (31 unless eqb first_bad minutes)
  unfolding judgement
  whole =
      let last = 31 unless eqb first_bad minutes in
      ap first (sym (append_assoc (day_refusals date point) (form_refusals list azimuths) (last ∷ [])))
      ∙ first_append before_31 (last ∷ [])
      ∙ ap (λ (n : ℕ). first before_31 else n) (first_one last)

  -- the minute is told by the refusal
  told : (n : ℕ) → (judgement date body point tolerance list azimuths).refusal ≡ n
      → judgement date body point tolerance list azimuths ≡ record { refusal = n; minute = cond (eqb n 31) first_bad 0 }
  unfolding judgement
  told n e = λ i. record { refusal = e i; minute = cond (eqb (e i) 31) first_bad 0 }

  -- on a day that passes, by the points alone
  pub by_points : first (day_refusals date point) ≡ 0 → (judgement date body point tolerance list azimuths).refusal ≡ first (proposal_refusals tolerance sky list azimuths)
  unfolding judgement
  by_points e = passed_first (day_refusals date point) (proposal_refusals tolerance sky list azimuths) e

  pub accepted_when : first (day_refusals date point) ≡ 0 → Unrefused tolerance sky list azimuths → judgement date body point tolerance list azimuths ≡ record { refusal = 0; minute = 0 }
  accepted_when e u = told 0 (by_points e ∙ refuses_nothing tolerance sky list azimuths u)

  pub refused_is : {n : ℕ} → first before_31 ≡ n → (n ≡ 0 → ⊥) → (n ≡ 31 → ⊥) → judgement date body point tolerance list azimuths ≡ record { refusal = n; minute = 0 }
  refused_is {n} e some other =
      told n (whole ∙ (rw (e, ne_eqb n 0 some) refl)) ∙ (rw (ne_eqb n 31 other) refl)

  pub out_is : first before_31 ≡ 0 → first_bad < minutes → judgement date body point tolerance list azimuths ≡ record { refusal = 31; minute = first_bad }
  out_is e h = told 31 (whole ∙ (rw (e, ne_eqb first_bad minutes (λ same. omega (arith, h, same))) refl))

  pub accepted_is : first before_31 ≡ 0 → first_bad ≡ minutes → judgement date body point tolerance list azimuths ≡ record { refusal = 0; minute = 0 }
  accepted_is e all = told 0 (whole ∙ (rw (e, eq-eqb first_bad minutes all) refl))

  pub all_passed : first_bad ≡ minutes → (judgement date body point tolerance list azimuths).refusal ≡ first before_31
  all_passed all = whole ∙ (rw (eq-eqb first_bad minutes all) (nothing (first before_31)))
    where
      nothing : (n : ℕ) → n else 0 ≡ n
      nothing n = by_cases (eqb n 0) (λ e. (rw e (sym (eqb-true n 0 e)))) (λ e. rw e refl)
