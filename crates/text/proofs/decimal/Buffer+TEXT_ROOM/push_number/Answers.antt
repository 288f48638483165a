-- `push_number` of a text meets its contract.
use mathlib.Core.List.{List, ◌++◌}
use mathlib.Core.Path.{◌∙◌, ◌≡◌, ap}
use Prim.Native.Nat.{◌≤◌, ℕ}
use native.Mathlib.Omega.{arith}
use lib.IntN.{nat_abs, ℤ}
use lib.ListN.{length, length-append}
use lib.Signed.{nat_abs-le}
use Rattle.numbers.proofs.Machine.{any}
use Rattle.text.specs.Decimal.{digits, sign}
use Rattle.text.proofs.DecimalLaws.{few_digits, size_behind}
use Rattle.text.proofs.decimal.Buffer+TEXT_ROOM.push_number.Goals as goal
use Rattle.text.proofs.decimal.Buffer+TEXT_ROOM.push_number.Goals.{After-unsigned_abs}

module _ (c : After-unsigned_abs) where
  size_is : c.unsigned_abs.result ≡ nat_abs c.args.value
  size_is = c.unsigned_abs.ensures.value ∙ ap nat_abs (any c.ranges.value).same

  signed_is : c.push_sign.new.self ≡ c.args.self.now ++ sign c.args.value
  signed_is = c.push_sign.ensures.bytes ∙ ap (λ (z : ℤ). c.args.self.now ++ sign z) (any c.ranges.value).same

  size_few : length (digits c.unsigned_abs.result) ≤ 19
  size_few = few_digits 18 c.unsigned_abs.result (omega (arith, size_is, nat_abs-le c.args.value c.ranges.value.sfits))

pub push_digits-requires : goal.push_digits-requires
push_digits-requires c = omega (arith, size_few (goal.at.push_digits-requires c).After-unsigned_abs)

pub returns-clause-bytes : goal.returns-clause-bytes
returns-clause-bytes c =
    let k = (goal.at.returns-clause-bytes c).After-unsigned_abs in
    c.push_digits.ensures ∙ ap (λ (s : List ℕ). s ++ digits c.unsigned_abs.result) (signed_is k)
    ∙ size_behind digits c.args.self.now c.args.value c.unsigned_abs.result (size_is k)

pub returns-clause-room : goal.returns-clause-room
returns-clause-room c =
    omega (arith, ap length c.push_digits.ensures, length-append c.push_sign.new.self (digits c.unsigned_abs.result), size_few (goal.at.returns-clause-room c).After-unsigned_abs)
