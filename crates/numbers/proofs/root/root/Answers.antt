-- `numbers::root::root` meets its contract. The invariant: the root so far is the greatest whole number whose square isn't above the first k pairs of x.
use mathlib.Core.Path.{◌≡◌, refl, sym}
use Prim.Native.Nat.{◌*◌, ◌+◌, ◌<◌, ℕ}
use native.Mathlib.Omega.{arith}
use lib.ListN.{get_or}
use Rattle.numbers.specs.RootDigits.{AfterDigit, digits_of, pair, pairs, taken}
use Rattle.numbers.specs.declared.root.SoFar.{SoFar}
use Rattle.numbers.proofs.RootDigitsLaws.{last_is_root, pair_by_pair, pair_most, taken_most}
use Rattle.numbers.proofs.RootLaws.{between}
use Rattle.numbers.proofs.root.root.Goals as goal
use Rattle.numbers.proofs.root.root.Goals.{In-loop-pair}

-- one round, in which the pair after k others is taken
module _ (c : In-loop-pair) where
  abbrev x : ℕ
  x = c.args.x

  abbrev k : ℕ
  k = c.loop-pair.pair-index

  abbrev so_far : SoFar
  so_far = c.loop-pair.so_far

  abbrev next : ℕ
  next = get_or c.pairs_of-marked.result k 0

  after : AfterDigit (taken x k) so_far
  after = c.loop-pair.invariant.1

  more : k < pairs
  more = omega arith

  next_is : next ≡ pair x k
  next_is = c.pairs_of-marked.ensures k more

  taken_next : 100 * digits_of so_far + next ≡ taken x (k + 1)
  taken_next = rw (after.left_over, next_is) (sym ((pair_by_pair x).next k more))

pub loop-pair-init : goal.loop-pair-init
loop-pair-init c =
    let none = (pair_by_pair c.args.x).none_yet (omega arith) in
    (omega arith, rw none (record { root_so_far = between 0 0 (omega arith) (omega arith); left_over = refl }))

pub next_digit-so_far-requires : goal.next_digit-so_far-requires
next_digit-so_far-requires c =
    let round = (goal.at.next_digit-so_far-requires c).In-loop-pair in
    (refl, (rw (after round).left_over (after round), rw (next_is round) (pair_most (x round) (k round)), omega (arith, taken_next round, taken_most (x round) (k round + 1))))

pub loop-pair-preserved : goal.loop-pair-preserved
loop-pair-preserved c = (omega arith, rw (taken_next (goal.at.loop-pair-preserved c).In-loop-pair) at c.next_digit-so_far.ensures)

pub returns : goal.returns
returns c =
    let x = c.args.x in
    let all : c.loop-pair.pair-index ≡ pairs = omega arith in
    last_is_root x c.loop-pair.so_far (rw all at c.loop-pair.invariant.1)
