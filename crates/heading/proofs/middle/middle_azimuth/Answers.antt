-- `heading::middle::middle_azimuth` meets its contract.
use mathlib.Core.Path.{◌∙◌, ◌≡◌, ap, subst, sym}
use Prim.Native.Nat.{◌-◌, ◌<◌, ◌≤◌, ℕ}
use native.Mathlib.Omega.{arith}
use Rattle.calendar.proofs.RefusalLaws.{handed_up}
use Rattle.number_rules.specs.Angle.{full_turn, half_turn}
use Rattle.numbers.proofs.Machine.{any}
use Rattle.heading.specs.Heading.{half_way, is_reduced, middle, middle_of}
use Rattle.heading.proofs.HeadingLaws.{ahead, behind, both_reduced, clockwise_below, first_refused, one_middle, opposite, reduced_is, second_refused}
use Rattle.heading.proofs.middle.middle_azimuth.Goals as goal
use Rattle.heading.proofs.middle.middle_azimuth.Goals.{After-clockwise-arc, Start}

-- the rule at the numbers that were read
rule : (c : After-clockwise-arc) → middle c.args.a c.args.b ≡ middle_of c.in_ok-start.start c.in_ok-end.end
rule c =
    both_reduced c.args.a c.args.b (sym (any c.ranges.a).same ∙ c.in_ok-start.ensures.0) c.in_ok-start.ensures.1
    (sym (any c.ranges.b).same ∙ c.in_ok-end.ensures.0) c.in_ok-end.ensures.1

pub returns-in_err-start : goal.returns-in_err-start
returns-in_err-start c =
    rw (handed_up c.from_residual.ensures, c.in_err-start.ensures.1) (one_middle (sym (first_refused c.args.a c.args.b (sym (ap is_reduced (any c.ranges.a).same) ∙ c.in_err-start.ensures.0))))

pub returns-in_err-end : goal.returns-in_err-end
returns-in_err-end c =
    rw (handed_up c.from_residual-in_err-end.ensures, c.in_err-end.ensures.1)
    (one_middle (sym (second_refused c.args.a c.args.b (reduced_is (sym (any c.ranges.a).same ∙ c.in_ok-start.ensures.0) c.in_ok-start.ensures.1) (sym (ap is_reduced (any c.ranges.b).same) ∙ c.in_err-end.ensures.0))))

pub overflow_sub-arc : goal.overflow_sub-arc
overflow_sub-arc c = omega (arith, clockwise_below c.in_ok-start.start c.in_ok-end.end, c.clockwise-arc.ensures)

pub returns-then-opposite : goal.returns-then-opposite
returns-then-opposite c =
    one_middle (sym (rule (goal.at.returns-then-opposite c).After-clockwise-arc ∙ opposite _ _ (sym c.clockwise-arc.ensures ∙ c.if-opposite.true)))

pub returns-then-forward : goal.returns-then-forward
returns-then-forward c =
    one_middle ((λ i. record { refusal = 0; azimuth = (c.half_way.ensures ∙ ap (half_way c.in_ok-start.start) c.clockwise-arc.ensures) i })
    ∙ sym (rule (goal.at.returns-then-forward c).After-clockwise-arc ∙ ahead _ _ (subst (λ (n : ℕ). n < half_turn) c.clockwise-arc.ensures c.if-forward.true)))

pub returns-else-forward : goal.returns-else-forward
returns-else-forward c =
    one_middle ((λ i. record { refusal = 0; azimuth = (c.half_way-else-forward.ensures ∙ ap (λ (arc : ℕ). half_way c.in_ok-end.end (full_turn - arc)) c.clockwise-arc.ensures) i })
    ∙ sym (rule (goal.at.returns-else-forward c).After-clockwise-arc ∙ behind _ _ (subst (λ (n : ℕ). half_turn < n) c.clockwise-arc.ensures (above c.clockwise-arc.result c.if-forward.false c.if-opposite.false))))
  where
    above : (n : ℕ) → half_turn ≤ n → (n ≡ half_turn → ⊥) → half_turn < n
    above n h f = omega arith
