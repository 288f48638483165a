-- `writer::write_verdict` meets its contract: the header's checks come first, and the others are made where they pass.
use mathlib.Core.Bool.{Bool}
use mathlib.Core.List.{List, [], ◌∷◌}
use mathlib.Core.Path.{◌∙◌, ◌≡◌, ap, sym}
use Prim.Native.Nat.{ℕ}
use lib.Dec.{eqb, leb}
use lib.ListN.{length}
use borrow.Author.Rules.{rules}
use mir.Syntax.{w64}
use mir.Val.{of_z, to_z}
use mir.ValLaws.{to_z-of_z}
use Rattle.calendar.proofs.RefusalLaws.{check, exit, passed, passed_all, refused, refused_among}
use Rattle.calendar.specs.Refusal.{◌unless◌, verdict_number}
use Rattle.strip.proofs.CheckLaws.{header_passes}
use Rattle.strip.specs.Air.{is_none}
use Rattle.strip.specs.Checks.{are_azimuths, header_refusals, is_step, steps}
use Rattle.strip.specs.Format.{strip_size}
use Rattle.strip_writer.proofs.writer.write_verdict.Goals as goal
use Rattle.strip_writer.proofs.writer.write_verdict.Goals.{After-header_verdict, After-unless, Start}

-- the checks one after the other, and what is judged behind each
module _ (s : Start) where
  abbrev front : List ℕ
  front = header_refusals s.args.header

  abbrev by_count : ℕ
  by_count = 20 unless eqb (length s.args.azimuths.now) (steps s.args.header.step)

  abbrev after_air : List ℕ
  after_air = 28 unless leb (strip_size (length s.args.azimuths.now)) s.args.room ∷ []

  abbrev after_azimuth : List ℕ
  after_azimuth = 32 unless is_none s.args.header.air ∷ after_air

  abbrev after_count : List ℕ
  after_count = 26 unless are_azimuths s.args.azimuths.now ∷ after_azimuth

  abbrev others : List ℕ
  others = by_count ∷ after_count

  step_is : to_z w64 (of_z w64 s.args.header.step) ≡ s.args.header.step
  step_is = to_z-of_z w64 s.args.header.step (search rules)

told_count : (c : After-unless) → verdict_number c.unless.result ≡ by_count (goal.at.After-unless c).Start
told_count c =
    let s = (goal.at.After-unless c).Start in
    c.unless.ensures ∙ ap (λ (n : ℕ). 20 unless eqb (length s.args.azimuths.now) n) (c.steps_of.ensures ∙ ap steps (step_is s))

pub steps_of-requires : goal.steps_of-requires
steps_of-requires c =
    let s = (goal.at.steps_of-requires c).Start in
    ap is_step (step_is s) ∙ (header_passes s.args.header (sym c.header_verdict.ensures ∙ ap verdict_number c.in_ok-header_verdict.was)).step_passes

pub returns-in_err-header_verdict : goal.returns-in_err-header_verdict
returns-in_err-header_verdict c =
    let g = goal.at.returns-in_err-header_verdict c in
    exit c.from_residual.result c.in_err-header_verdict.field-0.0 c.from_residual.ensures
    (refused_among (front g.Start) (others g.Start) c.in_err-header_verdict.was c.header_verdict.ensures)

pub returns-in_err-unless : goal.returns-in_err-unless
returns-in_err-unless c =
    let g = goal.at.returns-in_err-unless c in
    exit c.from_residual-in_err-unless.result c.in_err-unless.field-0.0 c.from_residual-in_err-unless.ensures
    (passed_all (front g.Start) (others g.Start) c.in_ok-header_verdict.was c.header_verdict.ensures
    (refused (after_count g.Start) c.in_err-unless.was (told_count g.After-unless)))

pub returns-in_err-unless-2 : goal.returns-in_err-unless-2
returns-in_err-unless-2 c =
    let g = goal.at.returns-in_err-unless-2 c in
    exit c.from_residual-in_err-unless-2.result c.in_err-unless-2.field-0.0 c.from_residual-in_err-unless-2.ensures
    (passed_all (front g.Start) (others g.Start) c.in_ok-header_verdict.was c.header_verdict.ensures
    (passed (after_count g.Start) c.in_ok-unless.was (told_count g.After-unless)
    (refused (after_azimuth g.Start) c.in_err-unless-2.was (c.unless-2.ensures ∙ ap (λ (p : Bool). 26 unless p) c.are_azimuths.ensures))))

pub returns-in_err-unless-3 : goal.returns-in_err-unless-3
returns-in_err-unless-3 c =
    let g = goal.at.returns-in_err-unless-3 c in
    exit c.from_residual-in_err-unless-3.result c.in_err-unless-3.field-0.0 c.from_residual-in_err-unless-3.ensures
    (passed_all (front g.Start) (others g.Start) c.in_ok-header_verdict.was c.header_verdict.ensures
    (passed (after_count g.Start) c.in_ok-unless.was (told_count g.After-unless)
    (passed (after_azimuth g.Start) c.in_ok-unless-2.was (c.unless-2.ensures ∙ ap (λ (p : Bool). 26 unless p) c.are_azimuths.ensures)
    (refused (after_air g.Start) c.in_err-unless-3.was (c.unless-3.ensures ∙ ap (λ (p : Bool). 32 unless p) c.is_none.ensures)))))

pub returns : goal.returns
returns c =
    let g = goal.at.returns c in
    passed_all (front g.Start) (others g.Start) c.in_ok-header_verdict.was c.header_verdict.ensures
    (passed (after_count g.Start) c.in_ok-unless.was (told_count g.After-unless)
    (passed (after_azimuth g.Start) c.in_ok-unless-2.was (c.unless-2.ensures ∙ ap (λ (p : Bool). 26 unless p) c.are_azimuths.ensures)
    (passed (after_air g.Start) c.in_ok-unless-3.was (c.unless-3.ensures ∙ ap (λ (p : Bool). 32 unless p) c.is_none.ensures)
    (check 28 c.unless-4.ensures c.has_room.ensures))))
