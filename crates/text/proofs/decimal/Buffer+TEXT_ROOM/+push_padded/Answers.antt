-- `push_padded` of a text meets its contract.
use Rattle.std.proofs.Common.{◌≡◌, ◌∙◌, ap, arith, sym, ℕ, ◌%◌, ◌+◌, ◌-◌, ◌/◌, List, [], ◌∷◌, ◌++◌, append_assoc, append-nil}
use Rattle.text.specs.Decimal.{padded}
use Rattle.text.proofs.DecimalLaws.{padded_more}
use Rattle.text.proofs.decimal.Buffer+TEXT_ROOM.+push_padded.Goals as goal

pub returns-then-count-gt0-clause-bytes : goal.returns-then-count-gt0-clause-bytes
returns-then-count-gt0-clause-bytes t c =
    let a = c.args in
    c.push.ensures.bytes ∙ ap (λ (s : List ℕ). s ++ ((48 + a.size % 10) ∷ [])) c.push_padded.ensures.bytes
    ∙ append_assoc a.self.now (padded (a.count - 1) (a.size / 10)) ((48 + a.size % 10) ∷ [])
    ∙ ap (λ (s : List ℕ). a.self.now ++ s) (padded_more a.count a.size c.if-count-gt0.true)

pub returns-else-count-gt0-clause-bytes : goal.returns-else-count-gt0-clause-bytes
unfolding padded
returns-else-count-gt0-clause-bytes t c =
    let none : 0 ≡ c.args.count = omega arith in
    sym (append-nil c.args.self.now) ∙ ap (λ (n : ℕ). c.args.self.now ++ padded n c.args.size) none
