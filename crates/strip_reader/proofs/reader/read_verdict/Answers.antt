-- `reader::read_verdict` meets its contract: the checks up to the step's come first, and the others are made where they pass.
use mathlib.Core.Bool.{Bool}
use mathlib.Core.List.{List, ◌++◌, ◌∷◌}
use mathlib.Core.Path.{◌∙◌, ◌≡◌, ap, sym}
use Prim.Native.Nat.{◌-◌, ℕ}
use lib.Dec.{eqb}
use lib.ListN.{get_or, length}
use borrow.Author.Rules.{rules}
use mir.Syntax.{w64}
use mir.Val.{of_z, to_z}
use mir.ValLaws.{to_z-of_z}
use Rattle.calendar.proofs.RefusalLaws.{exit, passed, passed_all, refused, refused_among}
use Rattle.calendar.specs.Refusal.{◌unless◌, first, verdict_number}
use Rattle.strip.proofs.CheckLaws.{header_passes}
use Rattle.strip.specs.Checks.{header_refusals, is_step}
use Rattle.strip.specs.Format.{fields, header_in, header_size, length_size, version}
use Rattle.strip.specs.declared.header.Header.{Header}
use Rattle.text.proofs.LineLaws.{to_end}
use Rattle.strip_reader.specs.Reading.{are_codes, length_agrees, part_refusals, stated, step_refusals}
use Rattle.strip_reader.proofs.ReadLaws.{length_test}
use Rattle.strip_reader.proofs.reader.read_verdict.Goals as goal
use Rattle.strip_reader.proofs.reader.read_verdict.Goals.{After-header_verdict, After-unless, After-unless-2, After-unless-3, Start}

-- the checks one after the other, and what is judged behind each
module _ (octets : List ℕ) where
  abbrev header : Header
  header = header_in (fields octets)

  abbrev by_length : ℕ
  by_length = 20 unless length_agrees octets

  abbrev by_version : ℕ
  by_version = 21 unless eqb (get_or (fields octets) 1 0) version

  abbrev by_codes : ℕ
  by_codes = 22 unless are_codes (get_or (fields octets) 2 0) (get_or (fields octets) 3 0)

  abbrev by_step : List ℕ
  by_step = step_refusals octets (stated octets) header.step

  abbrev after_codes : List ℕ
  after_codes = header_refusals header ++ by_step

  abbrev after_version : List ℕ
  after_version = by_codes ∷ after_codes

  abbrev after_length : List ℕ
  after_length = by_version ∷ after_version

-- what is handed in
module _ (s : Start) where
  abbrev octets : List ℕ
  octets = s.args.strip.now

  numbers_are : s.args.numbers.now ≡ fields octets
  numbers_are = s.requires.numbers_value.0

  header_is : s.args.header ≡ header octets
  header_is = s.requires.numbers_value.1

  step_is : to_z w64 (of_z w64 s.args.header.step) ≡ (header octets).step
  step_is = to_z-of_z w64 s.args.header.step (search rules) ∙ ap (λ (h : Header). h.step) header_is

-- what the calls told of them
told_length : (c : After-unless) → verdict_number c.unless.result ≡ by_length c.args.strip.now
told_length c =
    let s = (goal.at.After-unless c).Start in
    c.unless.ensures
    ∙ ap (λ (list : List ℕ). 20 unless eqb (get_or list 0 0) (length (octets s) - length_size)) (numbers_are s)
    ∙ ap (λ (p : Bool). 20 unless p) (length_test (octets s) s.requires.header_size_in_bounds)

told_version : (c : After-unless-2) → verdict_number c.unless-2.result ≡ by_version c.args.strip.now
told_version c = c.unless-2.ensures ∙ ap (λ (list : List ℕ). 21 unless eqb (get_or list 1 0) version) (numbers_are (goal.at.After-unless-2 c).Start)

told_codes : (c : After-unless-3) → verdict_number c.unless-3.result ≡ by_codes c.args.strip.now
told_codes c =
    c.unless-3.ensures ∙ ap (λ (p : Bool). 22 unless p) c.are_codes.ensures
    ∙ ap (λ (list : List ℕ). 22 unless are_codes (get_or list 2 0) (get_or list 3 0)) (numbers_are (goal.at.After-unless-3 c).Start)

told_header : (c : After-header_verdict) → verdict_number c.header_verdict.result ≡ first (header_refusals (header c.args.strip.now))
told_header c = c.header_verdict.ensures ∙ ap (λ (h : Header). first (header_refusals h)) (header_is (goal.at.After-header_verdict c).Start)

pub returns-in_err-unless : goal.returns-in_err-unless
returns-in_err-unless c =
    exit c.from_residual.result c.in_err-unless.field-0.0 c.from_residual.ensures
    (refused (after_length c.args.strip.now) c.in_err-unless.was (told_length (goal.at.returns-in_err-unless c).After-unless))

pub returns-in_err-unless-2 : goal.returns-in_err-unless-2
returns-in_err-unless-2 c =
    let g = goal.at.returns-in_err-unless-2 c in
    exit c.from_residual-in_err-unless-2.result c.in_err-unless-2.field-0.0 c.from_residual-in_err-unless-2.ensures
    (passed (after_length c.args.strip.now) c.in_ok-unless.was (told_length g.After-unless)
    (refused (after_version c.args.strip.now) c.in_err-unless-2.was (told_version g.After-unless-2)))

pub returns-in_err-unless-3 : goal.returns-in_err-unless-3
returns-in_err-unless-3 c =
    let g = goal.at.returns-in_err-unless-3 c in
    exit c.from_residual-in_err-unless-3.result c.in_err-unless-3.field-0.0 c.from_residual-in_err-unless-3.ensures
    (passed (after_length c.args.strip.now) c.in_ok-unless.was (told_length g.After-unless)
    (passed (after_version c.args.strip.now) c.in_ok-unless-2.was (told_version g.After-unless-2)
    (refused (after_codes c.args.strip.now) c.in_err-unless-3.was (told_codes g.After-unless-3))))

pub returns-in_err-header_verdict : goal.returns-in_err-header_verdict
returns-in_err-header_verdict c =
    let g = goal.at.returns-in_err-header_verdict c in
    let octets = c.args.strip.now in
    exit c.from_residual-in_err-header_verdict.result c.in_err-header_verdict.field-0.0 c.from_residual-in_err-header_verdict.ensures
    (passed (after_length octets) c.in_ok-unless.was (told_length g.After-unless)
    (passed (after_version octets) c.in_ok-unless-2.was (told_version g.After-unless-2)
    (passed (after_codes octets) c.in_ok-unless-3.was (told_codes g.After-unless-3)
    (refused_among (header_refusals (header octets)) (by_step octets) c.in_err-header_verdict.was (told_header g.After-header_verdict)))))

pub step_verdict-requires : goal.step_verdict-requires
step_verdict-requires c =
    let g = goal.at.step_verdict-requires c in
    let octets = c.args.strip.now in
    let none = sym (told_header g.After-header_verdict) ∙ ap verdict_number c.in_ok-header_verdict.was in
    ap is_step (step_is g.Start) ∙ (header_passes (header octets) none).step_passes

pub returns : goal.returns
returns c =
    let g = goal.at.returns c in
    let octets = c.args.strip.now in
    passed (after_length octets) c.in_ok-unless.was (told_length g.After-unless)
    (passed (after_version octets) c.in_ok-unless-2.was (told_version g.After-unless-2)
    (passed (after_codes octets) c.in_ok-unless-3.was (told_codes g.After-unless-3)
    (passed_all (header_refusals (header octets)) (by_step octets) c.in_ok-header_verdict.was (told_header g.After-header_verdict)
    (c.step_verdict.ensures ∙ (λ i. first (part_refusals (to_end octets header_size i) (get_or (numbers_are g.Start i) 0 0) (step_is g.Start i)))))))
