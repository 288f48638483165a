-- How known bytes grow and are read, step by step.
use Rattle.std.specs.Prelude.{Option, None, Some, Result, Ok, Err, OnOk, OnErr, IfSome}
use Rattle.std.proofs.Common.{◌≡◌, ℕ, ◌+◌, ◌-◌, ◌≤◌, List, [], ◌++◌, length, take, drop, refl, sym, ap, ◌∙◌, subst, append_assoc, arith, length-append, length-drop, ControlFlow}
use Rattle.std.proofs.lemmas.Bool.{false≢true}
use Rattle.std.specs.Prelude.{false}
use Rattle.std.proofs.lemmas.List.{append-nil, take-append-drop, take_all}
use Rattle.std.specs.Io.KnownBytes.{Appends, Consumes, Keeps, IsAtEnd, ReadConsumes}
use Rattle.std.specs.Result.{IsErr, is_ok}
use Rattle.lines.specs.Lines.{answers, header, kept, last_answer, left, output}
use Rattle.lines.specs.Streams.{InputEnded, OneRead, PartAnswered, PartFailed, StartWritten}
use Rattle.lines.specs.declared.line.Form.{Form}
use Rattle.lines.proofs.AnswerLaws.{answers_parts, left_parts}

-- ---- a writer's bytes

pub appends_more : (a b c : Option (List ℕ)) (xs ys : List ℕ) → Appends a b xs → Appends b c ys → Appends a c (xs ++ ys)
appends_more None b c xs ys h k = tt
appends_more (Some p) None c xs ys h k = absurd h
appends_more (Some p) (Some q) None xs ys h k = absurd k
appends_more (Some p) (Some q) (Some r) xs ys h k = k ∙ ap (λ (l : List ℕ). l ++ ys) h ∙ append_assoc p xs ys

pub appends_kept : (a b c : Option (List ℕ)) (xs : List ℕ) → Appends a b xs → Keeps b c → Appends a c xs
appends_kept None b c xs h k = tt
appends_kept (Some p) None c xs h k = absurd h
appends_kept (Some p) (Some q) None xs h k = absurd k
appends_kept (Some p) (Some q) (Some r) xs h k = k ∙ h

pub appends_as : (a b : Option (List ℕ)) {xs ys : List ℕ} → xs ≡ ys → Appends a b xs → Appends a b ys
appends_as a b {xs} {ys} e h = let P : List ℕ → Type 0 = λ l. Appends a b l in subst P e h

pub keeps_same : (a : Option (List ℕ)) → Keeps a a
keeps_same None = tt
keeps_same (Some xs) = refl

appends_nothing : (a b : Option (List ℕ)) → Keeps a b → Appends a b []
appends_nothing None b h = tt
appends_nothing (Some xs) None h = absurd h
appends_nothing (Some xs) (Some ys) h = h ∙ sym (append-nil xs)

consumes_nothing : (a b : Option (List ℕ)) → Keeps a b → Consumes a b []
consumes_nothing None b h = tt
consumes_nothing (Some xs) None h = absurd h
consumes_nothing (Some xs) (Some ys) h = sym h

-- nothing is written by a write that fails
pub kept_start : (a b : Option (List ℕ)) (bytes : List ℕ) → Keeps a b → StartWritten a b bytes
kept_start a b bytes h = record { part = []; rest = bytes; cut = refl; appended = appends_nothing a b h }

pub start_after : (a b c : Option (List ℕ)) (xs ys : List ℕ) → Appends a b xs → StartWritten b c ys → StartWritten a c (xs ++ ys)
start_after a b c xs ys h s =
    record {
      part = xs ++ s.part;
      rest = s.rest;
      cut = ap (λ (l : List ℕ). xs ++ l) s.cut ∙ sym (append_assoc xs s.part s.rest);
      appended = appends_more a b c xs s.part h s.appended;
    }

pub start_of_more : (a b : Option (List ℕ)) (xs ys : List ℕ) → StartWritten a b xs → StartWritten a b (xs ++ ys)
start_of_more a b xs ys s =
    record {
      part = s.part;
      rest = s.rest ++ ys;
      cut = ap (λ (l : List ℕ). l ++ ys) s.cut ∙ append_assoc s.part s.rest ys;
      appended = s.appended;
    }

pub start_as : (a b : Option (List ℕ)) {xs ys : List ℕ} → xs ≡ ys → StartWritten a b xs → StartWritten a b ys
start_as a b {xs} {ys} e s = record { part = s.part; rest = s.rest; cut = sym e ∙ s.cut; appended = s.appended }

-- before the first write
pub none_written : (a : Option (List ℕ)) (bytes : List ℕ) → (s : StartWritten a a bytes) × (s.rest ≡ bytes)
none_written a bytes = (record { part = []; rest = bytes; cut = refl; appended = appends_nothing a a (keeps_same a) }, refl)

-- so many bytes more of those that are left
pub written_on : (a b c : Option (List ℕ)) (bytes rest : List ℕ) (count : ℕ) (s : StartWritten a b bytes) → s.rest ≡ rest → Appends b c (take count rest)
    → (t : StartWritten a c bytes) × (t.rest ≡ take (length rest - count) (drop count rest))
written_on a b c bytes rest count s left h = (
  record {
    part = s.part ++ take count rest;
    rest = drop count rest;
    cut = s.cut ∙ ap (λ (l : List ℕ). s.part ++ l) (left ∙ sym (take-append-drop count rest)) ∙ sym (append_assoc s.part (take count rest) (drop count rest));
    appended = appends_more a b c s.part (take count rest) s.appended h;
  },
  sym (take_all (length rest - count) (drop count rest) (omega (arith, length-drop count rest))),
)

-- ---- a choice that is known

pub on_err : {A E : Type 0} (r : Result A E) {P : Type 0} → P → OnErr r P
on_err (Ok x) h = tt
on_err (Err e) h = h

pub on_ok : {A E : Type 0} (r : Result A E) {P Q : Type 0} → (P → Q) → OnOk r P → OnOk r Q
on_ok (Ok x) f h = f h
on_ok (Err e) f h = tt

pub on_err_more : {A E : Type 0} (r : Result A E) {P Q : Type 0} → (P → Q) → OnErr r P → OnErr r Q
on_err_more (Ok x) f h = tt
on_err_more (Err e) f h = f h

pub if_some : (o : Option (List ℕ)) {P : List ℕ → Type 0} → ((xs : List ℕ) → o ≡ Some xs → P xs) → IfSome o P
if_some None f = tt
if_some (Some xs) f = f xs refl

-- ---- a read that fails

pub no_part : (form : Form) (line : List ℕ) (input_old input_new output : Option (List ℕ)) → Keeps input_old input_new
    → PartFailed form line input_old input_new output output
no_part form line input_old input_new output h =
    record {
      chunk = [];
      consumed = consumes_nothing input_old input_new h;
      start = λ whole e. kept_start output output (answers form whole []) (keeps_same output);
    }

pub read_failed : {E F : Type 0} (form : Form) (line : List ℕ) (input_old input_new output : Option (List ℕ)) (read : Result ℕ E) (buf : List ℕ)
    (result : Result (ControlFlow (List ℕ) (List ℕ)) F) → false ≡ is_ok read → ReadConsumes input_old input_new read buf → IsErr result
    → OneRead form line input_old input_new output output result
read_failed form line input_old input_new output (Ok n) buf result e h i = absurd (false≢true e)
read_failed form line input_old input_new output (Err x) buf (Ok y) e h i = absurd (false≢true i)
read_failed form line input_old input_new output (Err x) buf (Err y) e h i = no_part form line input_old input_new output h

-- ---- the whole input

-- what was read and written after some reads
pub record Progress (form : Form) (whole : List ℕ) (input output_old output : Option (List ℕ)) (line : List ℕ) (reads : ℕ) : Type 0 where
  pub done : List ℕ
  pub rest : List ℕ
  pub cut : whole ≡ done ++ rest
  pub input_is : input ≡ Some rest
  pub line_is : line ≡ kept (left [] done)
  pub output_is : Appends output_old output (header form ++ answers form [] done)
  pub reads_within : reads ≤ length done

consumed_rest : (rest chunk : List ℕ) (b : Option (List ℕ)) → Consumes (Some rest) b chunk → (left : List ℕ) × ((b ≡ Some left) × (rest ≡ chunk ++ left))
consumed_rest rest chunk None h = absurd h
consumed_rest rest chunk (Some ys) h = (ys, (refl, h))

module _ (form : Form) (whole : List ℕ) where
  pub at_first : (input out_old out : Option (List ℕ)) (line : List ℕ) → input ≡ Some whole → line ≡ [] → Appends out_old out (header form)
      → Progress form whole input out_old out line 0
  unfolding answers left
  at_first input out_old out line e empty h =
      record {
        done = [];
        rest = whole;
        cut = refl;
        input_is = e;
        line_is = empty;
        output_is = appends_as out_old out (sym (append-nil (header form))) h;
        reads_within = omega arith;
      }

  -- the answers to what was read, and to a part more
  answers_to : (done chunk : List ℕ) → (header form ++ answers form [] done) ++ answers form (left [] done) chunk ≡ header form ++ answers form [] (done ++ chunk)
  answers_to done chunk =
      append_assoc (header form) (answers form [] done) (answers form (left [] done) chunk) ∙ ap (λ (l : List ℕ). header form ++ l) (sym (answers_parts form [] done chunk))

  output_from : (done rest : List ℕ)
      → (header form ++ answers form [] done) ++ (answers form (left [] done) rest ++ last_answer form (left [] (done ++ rest))) ≡ output form (done ++ rest)
  unfolding output
  output_from done rest =
      let tail = last_answer form (left [] (done ++ rest)) in
      sym (append_assoc (header form ++ answers form [] done) (answers form (left [] done) rest) tail) ∙ ap (λ (l : List ℕ). l ++ tail) (answers_to done rest)

  pub header_failed : (out_old out : Option (List ℕ)) → StartWritten out_old out (header form) → StartWritten out_old out (output form whole)
  unfolding output
  header_failed out_old out s =
      let tail = last_answer form (left [] whole) in
      start_as out_old out (sym (append_assoc (header form) (answers form [] whole) tail))
      (start_of_more out_old out (header form) (answers form [] whole ++ tail) s)

  output_of_done : (done : List ℕ) → (header form ++ answers form [] done) ++ last_answer form (left [] done) ≡ output form done
  unfolding output
  output_of_done done = refl

  module _ {input out_old out : Option (List ℕ)} {line : List ℕ} {reads : ℕ} (p : Progress form whole input out_old out line reads) where
    pub one_more : (input_new out_new : Option (List ℕ)) (next : List ℕ) → PartAnswered form line input input_new out out_new next
        → Progress form whole input_new out_old out_new next (reads + 1)
    one_more input_new out_new next a =
        let P : Option (List ℕ) → Type 0 = λ i. Consumes i input_new a.chunk in
        let r = consumed_rest p.rest a.chunk input_new (subst P p.input_is a.consumed) in
        record {
          done = p.done ++ a.chunk;
          rest = r.0;
          cut = p.cut ∙ ap (λ (l : List ℕ). p.done ++ l) r.1.1 ∙ sym (append_assoc p.done a.chunk r.0);
          input_is = r.1.0;
          line_is = a.line_left (left [] p.done) p.line_is ∙ ap kept (sym (left_parts [] p.done a.chunk));
          output_is =
              appends_as out_old out_new (answers_to p.done a.chunk)
              (appends_more out_old out out_new (header form ++ answers form [] p.done) (answers form (left [] p.done) a.chunk) p.output_is
              (a.appended (left [] p.done) p.line_is));
          reads_within = omega (arith, p.reads_within, a.some, length-append p.done a.chunk);
        }

    -- what is written for what was read is a start of the output
    pub failed : (input_new out_new : Option (List ℕ)) → PartFailed form line input input_new out out_new → StartWritten out_old out_new (output form whole)
    failed input_new out_new a =
        let P : Option (List ℕ) → Type 0 = λ i. Consumes i input_new a.chunk in
        let r = consumed_rest p.rest a.chunk input_new (subst P p.input_is a.consumed) in
        let read = p.done ++ a.chunk in
        let e : whole ≡ read ++ r.0 = p.cut ∙ ap (λ (l : List ℕ). p.done ++ l) r.1.1 ∙ sym (append_assoc p.done a.chunk r.0) in
        start_as out_old out_new (output_from read r.0 ∙ ap (output form) (sym e))
        (start_of_more out_old out_new (header form ++ answers form [] read) (answers form (left [] read) r.0 ++ last_answer form (left [] (read ++ r.0)))
        (start_as out_old out_new (answers_to p.done a.chunk)
        (start_after out_old out out_new (header form ++ answers form [] p.done) (answers form (left [] p.done) a.chunk) p.output_is (a.start (left [] p.done) p.line_is))))

    all_read : IsAtEnd input → output form p.done ≡ output form whole
    all_read h =
        let P : Option (List ℕ) → Type 0 = λ i. IsAtEnd i in
        let none : p.rest ≡ [] = subst P p.input_is h in
        ap (output form) (sym (p.cut ∙ ap (λ (l : List ℕ). p.done ++ l) none ∙ append-nil p.done))

    pub ended : (out_same out_new : Option (List ℕ)) → InputEnded input out out_same
        → ((line_whole : List ℕ) → line ≡ kept line_whole → Appends out_same out_new (last_answer form line_whole))
        → Appends out_old out_new (output form whole)
    ended out_same out_new e h =
        let P : Option (List ℕ) → Type 0 = λ o. Appends o out_new (last_answer form (left [] p.done)) in
        appends_as out_old out_new (output_of_done p.done ∙ all_read e.at_end)
        (appends_more out_old out out_new (header form ++ answers form [] p.done) (last_answer form (left [] p.done)) p.output_is
        (subst P e.same_output (h (left [] p.done) p.line_is)))

    pub end_failed : (out_same out_new : Option (List ℕ)) → InputEnded input out out_same
        → ((line_whole : List ℕ) → line ≡ kept line_whole → StartWritten out_same out_new (last_answer form line_whole))
        → StartWritten out_old out_new (output form whole)
    end_failed out_same out_new e h =
        let P : Option (List ℕ) → Type 0 = λ o. StartWritten o out_new (last_answer form (left [] p.done)) in
        start_as out_old out_new (output_of_done p.done ∙ all_read e.at_end)
        (start_after out_old out out_new (header form ++ answers form [] p.done) (last_answer form (left [] p.done)) p.output_is
        (subst P e.same_output (h (left [] p.done) p.line_is)))

    pub reads_of_whole : reads ≤ length whole
    reads_of_whole = omega (arith, p.reads_within, ap length p.cut, length-append p.done p.rest)
