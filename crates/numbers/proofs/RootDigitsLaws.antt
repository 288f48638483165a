-- The pairs of digits of a number, and what one pair does to the root.
use mathlib.Core.Path.{◌∙◌, ◌≡◌, ap, sym}
use Prim.Native.Nat.{◌*◌, ◌+◌, ◌-◌, ◌/◌, ◌<◌, ◌^◌, ◌≤◌, suc, zero, ℕ}
use native.Mathlib.Decide.{dec_lt}
use native.Mathlib.Nat.{div-div-eq-div-mul, div-eq_of_lt, div-le_self, div-one, le-div_iff_mul-le, mul-le-mul, pow-suc}
use native.Mathlib.Omega.{arith}
use Rattle.numbers.specs.Root.{Greatest, root, square}
use Rattle.numbers.specs.RootDigits.{AfterDigit, LastIsRoot, OneDigitMore, PairByPair, Worked, digits_of, pair, pairs, taken, taking}
use Rattle.numbers.specs.declared.root.SoFar.{SoFar}
use Rattle.numbers.proofs.RootLaws.{between, is_root, next_above, root_of, squares, under}

-- ---- the pairs
-- without its last pair
pub shorter : (x k : ℕ) → k < pairs → taken x (k + 1) / 100 ≡ taken x k
unfolding taken
shorter x k h =
    let e : pairs - k ≡ suc (pairs - (k + 1)) = omega arith in
    div-div-eq-div-mul x (100 ^ (pairs - (k + 1))) 100 ∙ ap (λ (n : ℕ). x / n) (sym (pow-suc 100 (pairs - (k + 1))) ∙ ap (λ (n : ℕ). 100 ^ n) (sym e))

pub pair_by_pair : (x : ℕ) → PairByPair x
unfolding taken pair
pair_by_pair x = record { none_yet = div-eq_of_lt; next = λ k h. omega (arith, shorter x k h); all = div-one x }

pub pair_most : (x k : ℕ) → pair x k < 100
unfolding pair
pair_most x k = omega arith

pub taken_most : (x k : ℕ) → taken x k ≤ x
unfolding taken
taken_most x k = div-le_self x (100 ^ (pairs - k))

pub last_is_root : LastIsRoot
last_is_root x so_far after = is_root x so_far.root (rw (pair_by_pair x).all at after.root_so_far)

-- ---- one pair more, of which the next digit takes its part
abbrev pub rest : SoFar → ℕ → ℕ
rest before next = 100 * before.remainder + next

abbrev pub twentyfold : SoFar → ℕ
twentyfold before = 20 * before.root

module _ (before : SoFar) (next : ℕ) where
  abbrev pub with_digit : ℕ → SoFar
  with_digit d = record { root = 10 * before.root + d; remainder = rest before next - taking (twentyfold before) d }

  -- (10 r + d)² is 100 r² + (20 r + d) d
  pub after_next : (d : ℕ) → Greatest (taking (twentyfold before)) (rest before next) d → AfterDigit (100 * digits_of before + next) (with_digit d)
  after_next d g =
      let low = g.not_above in
      let high = next_above (taking (twentyfold before)) (rest before next) d g in
      record { root_so_far = between (100 * digits_of before + next) (10 * before.root + d) (omega arith) (omega arith); left_over = omega arith }

  module _ (after : AfterDigit (digits_of before) before) where
    -- ten is too large for a digit
    pub ten_too_large : next < 100 → rest before next < taking (twentyfold before) 10
    ten_too_large h = omega (arith, next_above square (digits_of before) before.root after.root_so_far)

    -- before the last pair of 64 bits ten times the root is below 2³²
    pub root_small : 100 * digits_of before + next < 2 ^ 64 → 10 * before.root < 2 ^ 32
    root_small h = omega (arith, under (digits_of before) before.root 429496729 after.root_so_far.not_above (omega arith))

pub one_digit_more : OneDigitMore
one_digit_more digits next h =
    let r = root (100 * digits + next) in
    let front : 10 * (r / 10) ≤ r = omega arith in
    let behind : r + 1 ≤ 10 * (r / 10 + 1) = omega arith in
    let g = root_of (100 * digits + next) in
    let low = squares front in
    let high = squares behind in
    is_root digits (r / 10) (between digits (r / 10) (omega (arith, g.not_above)) (omega (arith, next_above square (100 * digits + next) r g)))

worked_at : (x r : ℕ) → square r ≤ x → x < square (r + 1) → root x ≡ r
worked_at x r low high = sym (is_root x r (between x r low high))

pub worked : Worked
unfolding taken
worked =
    record {
      one = worked_at 1 1 (omega arith) (omega arith);
      two = worked_at 152 12 (omega arith) (omega arith);
      three = worked_at 15_227 123 (omega arith) (omega arith);
      all = worked_at 1_522_756 1_234 (omega arith) (omega arith);
      no_square = worked_at 200 14 (omega arith) (omega arith);
    }

-- ---- the search for the digit
taking_mono : (twentyfold : ℕ) (m n : ℕ) → m ≤ n → taking twentyfold m ≤ taking twentyfold n
taking_mono twentyfold m n h = mul-le-mul (omega arith) h

pub taking_most : (twentyfold d : ℕ) → d ≤ 9 → taking twentyfold d ≤ 9 * twentyfold + 81
taking_most twentyfold d h = omega (arith, taking_mono twentyfold d 9 h)

-- what fits is below what is too large
pub below : (twentyfold rest d n : ℕ) → rest < taking twentyfold d → taking twentyfold n ≤ rest → n < d
below twentyfold rest d n large h = go (dec_lt n d)
  where
    go : Dec (n < d) → n < d
    go (yes l) = l
    go (no f) = absurd (omega (arith, taking_mono twentyfold d n (omega arith)))

-- and not above the guess
pub guess_most : (twentyfold rest n : ℕ) → taking twentyfold n ≤ rest → n ≤ rest / (twentyfold + 1)
guess_most twentyfold rest zero h = omega arith
guess_most twentyfold rest (suc n) h = (le-div_iff_mul-le {k = twentyfold + 1} (omega arith)).1 (omega arith)
