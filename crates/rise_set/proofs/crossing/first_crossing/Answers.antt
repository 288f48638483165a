-- `crossing::first_crossing` meets its contract. The invariant: no minute so far is the event, and `before` is the side of the minute before.
use mathlib.Core.Bool.{Bool}
use mathlib.Core.Path.{◌∙◌, ◌≡◌, ap, sym}
use Prim.Native.Nat.{ℕ}
use native.Mathlib.Numerals.{add-one}
use native.Mathlib.Omega.{arith}
use borrow.Author.Count.{below_more}
use borrow.Author.Rules.{rules}
use mir.Syntax.{w64}
use mir.Val.{SFits}
use Rattle.numbers.proofs.Machine.{any}
use Rattle.rise_set.specs.Claims.{First}
use Rattle.rise_set.specs.Crossing.{crosses, is_up}
use Rattle.rise_set.specs.Worked.{crosses_in, entry}
use Rattle.rise_set.proofs.CrossingLaws.{first_given, nowhere_given, one_crossing}
use Rattle.rise_set.proofs.crossing.first_crossing.Goals as goal
use Rattle.rise_set.proofs.crossing.first_crossing.Goals.{After-crosses-is_here, After-is_up-now}

-- what the calls of one turn told
now_is : (c : After-is_up-now) → c.is_up-now.result ≡ is_up (entry c.args.curve.now c.loop-minute.minute)
now_is c = let fits : SFits w64 (entry c.args.curve.now c.loop-minute.minute) = search rules in c.is_up-now.ensures ∙ ap is_up (any fits).same

module _ (c : After-crosses-is_here) where
  abbrev test : ℕ → Bool
  test = crosses_in c.args.event c.args.up_before c.args.curve.now

  here : test c.loop-minute.minute ≡ c.crosses-is_here.result
  here = sym (c.crosses-is_here.ensures ∙ (λ i. crosses c.args.event (c.loop-minute.invariant.0 i) (now_is (goal.at.After-crosses-is_here c).After-is_up-now i)))

pub returns-then-is_here : goal.returns-then-is_here
returns-then-is_here c =
    let k = (goal.at.returns-then-is_here c).After-crosses-is_here in
    let minute = c.loop-minute.minute in
    let first : First (test k) minute = record { in_day = omega arith; holds = here k ∙ c.if-is_here.true; none_before = c.loop-minute.invariant.1 } in
    one_crossing (sym (first_given (test k) minute first))

pub loop-minute-preserved : goal.loop-minute-preserved
loop-minute-preserved c =
    let k = (goal.at.loop-minute-preserved c).After-crosses-is_here in
    (rw add-one (now_is (goal.at.After-crosses-is_here k).After-is_up-now), below_more _ _ c.loop-minute.invariant.1 (here k ∙ c.if-is_here.false))

pub returns : goal.returns
returns c =
    let a = c.args in
    one_crossing (sym (nowhere_given (crosses_in a.event a.up_before a.curve.now) (λ m h. c.loop-minute.invariant.1 m (omega arith))))
