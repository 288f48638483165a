-- `push_decimals` of a text meets its contract.
use mathlib.Core.List.{List, ◌++◌}
use mathlib.Core.Path.{◌∙◌, ◌≡◌, ap}
use Prim.Native.Nat.{ℕ}
use lib.IntN.{nat_abs, ℤ}
use Rattle.numbers.proofs.Machine.{any}
use Rattle.text.specs.Decimal.{sign, with_point}
use Rattle.text.proofs.DecimalLaws.{size_behind}
use Rattle.text.proofs.decimal.Buffer+TEXT_ROOM.push_decimals.Goals as goal
use Rattle.text.proofs.decimal.Buffer+TEXT_ROOM.push_decimals.Goals.{After-push_sign}

signed_is : (c : After-push_sign) → c.push_sign.new.self ≡ c.args.self.now ++ sign c.args.value
signed_is c = c.push_sign.ensures.bytes ∙ ap (λ (z : ℤ). c.args.self.now ++ sign z) (any c.ranges.value).same

pub returns-clause-bytes : goal.returns-clause-bytes
returns-clause-bytes c =
    let a = c.args in
    c.push_units.ensures.bytes ∙ ap (λ (s : List ℕ). s ++ with_point c.unsigned_abs.result) (signed_is (goal.at.returns-clause-bytes c).After-push_sign)
    ∙ size_behind with_point a.self.now a.value c.unsigned_abs.result (c.unsigned_abs.ensures.value ∙ ap nat_abs (any c.ranges.value).same)
