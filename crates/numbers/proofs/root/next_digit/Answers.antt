-- `numbers::root::next_digit` meets its contract: (10 r + d)² = 100 r² + (20 r + d) d, so d is the next digit where it takes the most of what is left.
use Prim.Native.Nat.{◌*◌, ◌+◌, ◌<◌, ◌^◌, ℕ}
use mathlib.Core.Path.{◌≡◌, subst⁻¹, subst}
use native.Mathlib.Omega.{arith}
use Rattle.numbers.specs.Root.{Greatest}
use Rattle.numbers.specs.RootDigits.{AfterDigit, digits_of, taking}
use Rattle.numbers.specs.declared.root.SoFar.{SoFar}
use Rattle.numbers.proofs.RootDigitsLaws.{after_next, below, rest, root_small, ten_too_large, twentyfold, with_digit}
use Rattle.numbers.proofs.root.next_digit.Goals as goal

-- the digits taken before are those of the root so far, one pair more fits, and the next digit is not ten
module _ (before : SoFar) (pair digits : ℕ) (are : digits_of before ≡ digits) (so_far : AfterDigit digits before) (few : pair < 100) (fits : 100 * digits + pair < 2 ^ 64) where
  own : AfterDigit (digits_of before) before
  own = subst⁻¹ (λ (n : ℕ). AfterDigit n before) are so_far

  small : 10 * before.root < 2 ^ 32
  small = root_small before pair own (omega (arith, are))

  not_ten : rest before pair < taking (twentyfold before) 10
  not_ten = ten_too_large before pair own few

pub overflow_mul-twentyfold : goal.overflow_mul-twentyfold
overflow_mul-twentyfold g c =
    let r = c.requires in
    omega (arith, small c.args.before c.args.pair g.digits r.0 r.1.0 r.1.1 r.1.2)

pub greatest_digit-digit-requires : goal.greatest_digit-digit-requires
greatest_digit-digit-requires g c =
    let r = c.requires in
    let s = small c.args.before c.args.pair g.digits r.0 r.1.0 r.1.1 r.1.2 in
    (omega (arith, s), not_ten c.args.before c.args.pair g.digits r.0 r.1.0 r.1.1 r.1.2)

-- the digit is below ten, since ten is too large
is_digit : (before : SoFar) (pair d : ℕ) → Greatest (taking (twentyfold before)) (rest before pair) d → rest before pair < taking (twentyfold before) 10 → d < 10
is_digit before pair d greatest large = below (twentyfold before) (rest before pair) 10 d large greatest.not_above

pub overflow_mul-result : goal.overflow_mul-result
overflow_mul-result g c =
    let r = c.requires in
    omega (arith, small c.args.before c.args.pair g.digits r.0 r.1.0 r.1.1 r.1.2)

pub overflow_add-result : goal.overflow_add-result
overflow_add-result g c =
    let r = c.requires in
    let large = not_ten c.args.before c.args.pair g.digits r.0 r.1.0 r.1.1 r.1.2 in
    omega (
      arith,
      small c.args.before c.args.pair g.digits r.0 r.1.0 r.1.1 r.1.2,
      is_digit c.args.before c.args.pair c.greatest_digit-digit.result c.greatest_digit-digit.ensures large,
    )

pub overflow_add-result-2 : goal.overflow_add-result-2
overflow_add-result-2 g c =
    let r = c.requires in
    let large = not_ten c.args.before c.args.pair g.digits r.0 r.1.0 r.1.1 r.1.2 in
    omega (
      arith,
      small c.args.before c.args.pair g.digits r.0 r.1.0 r.1.1 r.1.2,
      is_digit c.args.before c.args.pair c.greatest_digit-digit.result c.greatest_digit-digit.ensures large,
    )

pub returns : goal.returns
returns g c =
    let next = after_next c.args.before c.args.pair c.greatest_digit-digit.result c.greatest_digit-digit.ensures in
    subst (λ (n : ℕ). AfterDigit (100 * n + c.args.pair) (with_digit c.args.before c.args.pair c.greatest_digit-digit.result)) c.requires.0 next
