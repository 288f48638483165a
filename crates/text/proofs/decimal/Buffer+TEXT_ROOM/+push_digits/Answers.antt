-- `text::decimal::Buffer+TEXT_ROOM::push_digits` meets its contract: it stops at the last digit left.
use Rattle.std.proofs.Common.{◌≡◌, ◌∙◌, ap, arith, sym, ℕ, ◌%◌, ◌+◌, ◌/◌, ◌≤◌, List, [], ◌∷◌, ◌++◌, length, append_assoc, length-append}
use Rattle.text.specs.Decimal.{digits}
use Rattle.text.proofs.DecimalLaws.{last_digit, more_digits}
use Rattle.text.proofs.decimal.Buffer+TEXT_ROOM.+push_digits.Goals as goal
use Rattle.text.proofs.decimal.Buffer+TEXT_ROOM.+push_digits.Goals.{then-size-ge10, else-size-ge10}

-- one digit more at the end
more_length : (n : ℕ) → 10 ≤ n → length (digits n) ≡ length (digits (n / 10)) + 1
more_length n h = ap length (more_digits n h) ∙ length-append (digits (n / 10)) ((48 + n % 10) ∷ [])

pub push_digits-requires : goal.push_digits-requires
push_digits-requires t c = (omega arith, omega (arith, more_length c.args.size c.if-size-ge10.true))

pub push-requires : goal.push-requires
push-requires t c =
    elim c.if-size-ge10.branch [
      | then-size-ge10 w ↦
          omega (arith, ap length (w.self-is ∙ w.push_digits.ensures), length-append c.args.self.now (digits (c.args.size / 10)), more_length c.args.size w.if-size-ge10.true)
      | else-size-ge10 w ↦ omega (arith, ap length w.self-is, ap length (last_digit c.args.size w.if-size-ge10.false))
    ]

pub returns : goal.returns
returns t c =
    elim c.if-size-ge10.branch [
      | then-size-ge10 w ↦
          c.push.ensures.bytes ∙ ap (λ (s : List ℕ). s ++ ((48 + c.args.size % 10) ∷ [])) (w.self-is ∙ w.push_digits.ensures)
          ∙ append_assoc c.args.self.now (digits (c.args.size / 10)) ((48 + c.args.size % 10) ∷ [])
          ∙ ap (λ (s : List ℕ). c.args.self.now ++ s) (sym (more_digits c.args.size w.if-size-ge10.true))
      | else-size-ge10 w ↦
          c.push.ensures.bytes ∙ ap (λ (s : List ℕ). s ++ ((48 + c.args.size % 10) ∷ [])) w.self-is
          ∙ ap (λ (s : List ℕ). c.args.self.now ++ s) (sym (last_digit c.args.size w.if-size-ge10.false))
    ]
