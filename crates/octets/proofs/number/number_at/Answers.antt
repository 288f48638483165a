-- `number::number_at` meets its contract. The invariant: the value is that of the octets taken so far, and has room in as many.
use mathlib.Core.List.{List}
use mathlib.Core.Path.{◌∙◌, ◌≡◌, ap}
use Prim.Native.Nat.{◌*◌, ◌+◌, ◌-◌, ◌<◌, ◌^◌, ◌≤◌, suc, ℕ}
use native.Mathlib.Nat.{pow-le-pow_right, pow-suc}
use native.Mathlib.Numerals.{add-one}
use native.Mathlib.Omega.{arith}
use lib.ListN.{drop, get_or, length, length-drop, take}
use lib.Seq.{get_or-take, get_or-drop, length-take-le, take_all}
use mir.Syntax.{w8}
use mir.Val.{Fits}
use Rattle.octets.specs.Octets.{number, widest}
use Rattle.octets.proofs.NumberLaws.{none_read, one_more_read}
use Rattle.octets.proofs.number.number_at.Goals as goal
use Rattle.octets.proofs.number.number_at.Goals.{Start}

-- one octet more has room in 32 bits
module _ (value taken octet : ℕ) (h : taken < widest) (small : value < 256 ^ taken) (o : octet < 256) where
  next_small : value * 256 + octet < 256 ^ widest
  next_small =
      let most : 256 ^ suc taken ≤ 256 ^ widest = pow-le-pow_right (omega arith) h in
      omega (arith, pow-suc 256 taken)

  next_below : value * 256 + octet < 256 ^ (taken + 1)
  next_below = rw (add-one taken, pow-suc 256 taken) (omega arith)

-- the octets that are read
module _ (s : Start) where
  abbrev part : List ℕ
  part = take (s.args.at + s.args.width - s.args.at) (drop s.args.at s.args.octets.now)

  part_length : length part ≡ s.args.width
  part_length = length-take-le (s.args.at + s.args.width - s.args.at) (drop s.args.at s.args.octets.now) (simp length-drop (omega arith)) ∙ omega arith

  part_small : ((k : ℕ) → Fits w8 (get_or s.args.octets.now k 0)) → (i : ℕ) → i < length part → get_or part i 0 < 256
  part_small fits i h =
      omega (
        arith,
        get_or-take (s.args.at + s.args.width - s.args.at) (drop s.args.at s.args.octets.now) i 0 (omega (arith, part_length)),
        get_or-drop s.args.at s.args.octets.now i 0,
        fits (s.args.at + i),
      )

pub loop-octet-init : goal.loop-octet-init
loop-octet-init c = (none_read (part (goal.at.loop-octet-init c).Start), omega arith)

pub overflow_mul-value : goal.overflow_mul-value
overflow_mul-value c =
    let s = (goal.at.overflow_mul-value c).Start in
    omega (arith, part_length s, next_small c.loop-octet.value c.loop-octet.octet-index 0 (omega (arith, part_length s)) c.loop-octet.invariant.1 (omega arith))

pub overflow_add-value : goal.overflow_add-value
overflow_add-value c =
    let s = (goal.at.overflow_add-value c).Start in
    omega (arith, next_small c.loop-octet.value c.loop-octet.octet-index c.from.result (omega (arith, part_length s)) c.loop-octet.invariant.1 (omega (arith, part_small s c.type_inv.octets c.loop-octet.octet-index c.loop-octet-test.true)))

pub loop-octet-preserved : goal.loop-octet-preserved
loop-octet-preserved c =
    let s = (goal.at.loop-octet-preserved c).Start in
    let octet : c.from.result < 256 = omega (arith, part_small s c.type_inv.octets c.loop-octet.octet-index c.loop-octet-test.true) in (
      (λ i. c.loop-octet.invariant.0 i * 256 + c.from.ensures i) ∙ one_more_read (part s) c.loop-octet.octet-index c.loop-octet-test.true,
      next_below c.loop-octet.value c.loop-octet.octet-index c.from.result (omega (arith, part_length s)) c.loop-octet.invariant.1 octet,
    )

pub returns : goal.returns
returns c =
    let s = (goal.at.returns c).Start in
    let width : s.args.at + s.args.width - s.args.at ≡ s.args.width = omega arith in
    c.loop-octet.invariant.0
    ∙ ap number (take_all c.loop-octet.octet-index (part s) c.loop-octet-test.false ∙ ap (λ (n : ℕ). take n (drop s.args.at s.args.octets.now)) width)
