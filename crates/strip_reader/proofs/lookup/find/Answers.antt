-- `lookup::find` meets its contract: a part of the strip that is found, to its end.
use mathlib.Core.List.{List}
use mathlib.Core.Path.{◌∙◌, ◌≡◌, ap, sym}
use Rattle.std.specs.Prelude.{Ok, Result}
use Prim.Native.Nat.{◌≤◌, ℕ}
use lib.ListN.{length}
use Rattle.calendar.specs.declared.refusal.Refusal.{Refusal}
use Rattle.sky.specs.Answer.{Answer}
use Rattle.strip.specs.Format.{header_size}
use Rattle.text.proofs.LineLaws.{to_end}
use Rattle.strip_reader.specs.Lookup.{found_answer, part_of, which}
use Rattle.strip_reader.specs.declared.lookup.Bearer.{Bearer}
use Rattle.strip_reader.proofs.LookupLaws.{first_there, second_there}
use Rattle.strip_reader.proofs.lookup.find.Goals as goal
use Rattle.strip_reader.proofs.lookup.find.Goals.{After-which}

-- what is found, and what it tells
module _ (k : After-which) where
  abbrev one : List ℕ
  one = k.args.first.now

  abbrev two : List ℕ
  two = k.args.second.now

  abbrev rule : Answer ℕ
  rule = which one two k.args.date.year k.args.date.month k.args.date.day

  found_is : {found : Result Bearer Refusal} → k.which.result ≡ found → found_answer found ≡ rule
  found_is told = sym (ap found_answer told) ∙ k.which.ensures.equal

  accepted : {found : Bearer} → k.which.result ≡ Ok found → rule.refusal ≡ 0
  accepted told = sym (ap (λ (a : Answer ℕ). a.refusal) (found_is told))

  has_first : {found : Bearer} → k.which.result ≡ Ok found → header_size ≤ length one
  has_first told = first_there one two k.args.date.year k.args.date.month k.args.date.day (accepted told)

  has_second : {found : Bearer} → k.which.result ≡ Ok found → header_size ≤ length two
  has_second told = second_there one two k.args.date.year k.args.date.month k.args.date.day (accepted told)

pub slice_bounds-result-count : goal.slice_bounds-result-count
slice_bounds-result-count c = has_first (goal.at.slice_bounds-result-count c).After-which c.in_ok-which.was

pub slice_bounds-result-start : goal.slice_bounds-result-start
slice_bounds-result-start c = has_first (goal.at.slice_bounds-result-start c).After-which c.in_ok-which.was

pub returns-in-First : goal.returns-in-First
returns-in-First c =
    let k = (goal.at.returns-in-First c).After-which in
    let is = found_is k (c.in_ok-which.was ∙ ap Ok c.in-First.is) in record {
      result_value = to_end (one k) header_size ∙ ap (λ (a : Answer ℕ). part_of a (one k) (two k)) is;
      refusal_after = ap (λ (a : Answer ℕ). a.refusal) is;
    }

pub slice_bounds-result-count-in-Second : goal.slice_bounds-result-count-in-Second
slice_bounds-result-count-in-Second c = has_second (goal.at.slice_bounds-result-count-in-Second c).After-which c.in_ok-which.was

pub slice_bounds-result-start-in-Second : goal.slice_bounds-result-start-in-Second
slice_bounds-result-start-in-Second c = has_second (goal.at.slice_bounds-result-start-in-Second c).After-which c.in_ok-which.was

pub returns-in-Second : goal.returns-in-Second
returns-in-Second c =
    let k = (goal.at.returns-in-Second c).After-which in
    let is = found_is k (c.in_ok-which.was ∙ ap Ok c.in-Second.is) in record {
      result_value = to_end (two k) header_size ∙ ap (λ (a : Answer ℕ). part_of a (one k) (two k)) is;
      refusal_after = ap (λ (a : Answer ℕ). a.refusal) is;
    }
