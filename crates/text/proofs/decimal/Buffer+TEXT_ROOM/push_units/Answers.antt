-- `push_units` of a text meets its contract.
use Rattle.std.proofs.Common.{◌∙◌, ap, arith, ℕ, ◌+◌, ◌/◌, ◌≤◌, List, [], ◌∷◌, ◌++◌, length, append_assoc, length-append}
use Rattle.text.specs.Decimal.{digits, padded, point, with_point}
use Rattle.text.proofs.DecimalLaws.{few_digits}
use Rattle.text.proofs.decimal.Buffer+TEXT_ROOM.push_units.Goals as goal
use Rattle.text.proofs.decimal.Buffer+TEXT_ROOM.push_units.Goals.{After-push_digits, Start}

-- the digits before the point
whole_few : (s : Start) → length (digits (s.args.size / 100_000_000)) ≤ 12
whole_few s = few_digits 11 (s.args.size / 100_000_000) (omega arith)

before_point : (c : After-push_digits) → length c.push_digits.new.self ≤ length c.args.self.now + 12
before_point c =
    omega (arith, ap length c.push_digits.ensures, length-append c.args.self.now (digits (c.args.size / 100_000_000)), whole_few (goal.at.After-push_digits c).Start)

pub push_digits-requires : goal.push_digits-requires
push_digits-requires c = omega (arith, whole_few (goal.at.push_digits-requires c).Start)

pub push-requires : goal.push-requires
push-requires c = omega (arith, before_point (goal.at.push-requires c).After-push_digits)

pub push_padded-requires : goal.push_padded-requires
push_padded-requires c = omega (arith, before_point (goal.at.push_padded-requires c).After-push_digits)

pub returns-clause-bytes : goal.returns-clause-bytes
unfolding with_point
returns-clause-bytes c =
    let a = c.args in
    let whole = digits (a.size / 100_000_000) in
    let part = padded 8 a.size in
    c.push_padded.ensures.bytes ∙ ap (λ (s : List ℕ). s ++ part) (c.push.ensures.bytes ∙ ap (λ (s : List ℕ). s ++ (point ∷ [])) c.push_digits.ensures)
    ∙ append_assoc (a.self.now ++ whole) (point ∷ []) part ∙ append_assoc a.self.now whole (point ∷ part)

pub returns-clause-room : goal.returns-clause-room
returns-clause-room c = omega (arith, before_point (goal.at.returns-clause-room c).After-push_digits)
