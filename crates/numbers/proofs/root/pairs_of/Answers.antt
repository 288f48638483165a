-- `numbers::root::pairs_of` meets its contract. The invariant: the pairs from k on are marked, and the first k stand in front.
use mathlib.Core.List.{List}
use mathlib.Core.Path.{◌∙◌, ◌≡◌, refl, sym}
use Prim.Native.Nat.{◌%◌, ◌+◌, ◌-◌, ◌/◌, ◌<◌, ◌≤◌, ℕ}
use native.Mathlib.Decide.{dec_lt}
use native.Mathlib.Omega.{arith}
use lib.ListN.{get_or, length-set, set}
use lib.Seq.{get_or-set_other, get_or-set_same}
use Rattle.numbers.specs.RootDigits.{pair, pairs}
use Rattle.numbers.proofs.RootDigitsLaws.{pair_by_pair, shorter}
use Rattle.numbers.proofs.root.pairs_of.Invariants.{Marked}
use Rattle.numbers.proofs.root.pairs_of.Goals as goal

-- the last pair of those that are left is marked
module _ (x : ℕ) (marked : List ℕ) (front k : ℕ) (now : Marked x marked front (k + 1)) where
  last : front % 100 ≡ pair x k
  unfolding pair
  last = rw now.in_front

  entry : (i : ℕ) → k ≤ i → i < pairs → get_or (set marked k (front % 100)) i 0 ≡ pair x i
  entry i h l = go (dec_lt k i)
    where
      go : Dec (k < i) → get_or (set marked k (front % 100)) i 0 ≡ pair x i
      go (yes later) = get_or-set_other marked k i (front % 100) 0 (λ e. omega arith) ∙ now.from i (omega arith) l
      go (no f) = let e : i ≡ k = omega arith in rw e (get_or-set_same marked k (front % 100) 0 (omega arith) ∙ last)

  marked_next : Marked x (set marked k (front % 100)) (front / 100) k
  marked_next = record { at_most = omega arith; all = length-set marked k (front % 100) ∙ now.all; in_front = rw now.in_front (shorter x k (omega arith)); from = entry }

pub loop-k-init : goal.loop-k-init
loop-k-init c = record { at_most = omega arith; all = refl; in_front = sym (pair_by_pair c.args.x).all; from = λ i h l. absurd (omega arith) }

pub loop-k-preserved : goal.loop-k-preserved
loop-k-preserved c =
    let one : c.loop-k.k ≡ c.loop-k.k - 1 + 1 = omega arith in
    marked_next c.args.x c.loop-k.marked c.loop-k.front (c.loop-k.k - 1) (rw one at c.loop-k.invariant)

pub returns : goal.returns
returns c k h = c.loop-k.invariant.from k (omega arith) h
