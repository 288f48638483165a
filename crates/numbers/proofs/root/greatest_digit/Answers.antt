-- `numbers::root::greatest_digit` meets its contract. The invariant: the digit tried is at most nine, and none that fits is greater.
use Prim.Native.Nat.{◌+◌, ◌/◌, ◌<◌, ◌≤◌, ℕ}
use Rattle.std.proofs.Math.Nat.{le-min, min-le_right}
use native.Mathlib.Omega.{arith}
use Rattle.numbers.specs.RootDigits.{taking}
use Rattle.numbers.proofs.RootDigitsLaws.{below, guess_most, taking_most}
use Rattle.numbers.proofs.root.greatest_digit.Goals as goal
use Rattle.numbers.proofs.root.greatest_digit.Goals.{In-loop-digit}

-- the digit tried is too large, so what fits, zero at least, is below it
fits_below : (c : In-loop-digit) (n : ℕ) → let args = c.args in taking args.twentyfold n ≤ args.rest → n < c.loop-digit.digit
fits_below c n h =
    let args = c.args in
    below args.twentyfold args.rest c.loop-digit.digit n c.loop-digit-test.true h

pub loop-digit-init : goal.loop-digit-init
loop-digit-init c =
    let twentyfold = c.args.twentyfold in
    let rest = c.args.rest in
    let least = c.min-digit.ensures in record {
      at_most = rw least (min-le_right (rest / (twentyfold + 1)) 9);
      none_greater = λ n h.
          let small : n ≤ 9 = omega (arith, below twentyfold rest 10 n c.requires.1 h) in
          rw least (le-min (guess_most twentyfold rest n h) small);
    }

pub overflow_mul-twentyfold : goal.overflow_mul-twentyfold
overflow_mul-twentyfold c = omega (arith, taking_most c.args.twentyfold c.loop-digit.digit c.loop-digit.invariant.at_most)

pub overflow_sub-digit : goal.overflow_sub-digit
overflow_sub-digit c = fits_below (goal.at.overflow_sub-digit c).In-loop-digit 0 (omega arith)

pub loop-digit-smaller : goal.loop-digit-smaller
loop-digit-smaller c = omega (arith, overflow_sub-digit (goal.at.loop-digit-smaller c).In-loop-digit)

pub loop-digit-preserved : goal.loop-digit-preserved
loop-digit-preserved c = record { at_most = omega arith; none_greater = λ n h. omega (arith, fits_below (goal.at.loop-digit-preserved c).In-loop-digit n h) }

pub returns : goal.returns
returns c = record { not_above = c.loop-digit-test.false; none_greater = c.loop-digit.invariant.none_greater }
