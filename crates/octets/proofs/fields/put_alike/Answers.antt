-- `fields::put_alike` meets its contract. The invariant: the fields so far are stored.
use mathlib.Core.List.{List}
use mathlib.Core.Path.{◌≡◌, subst, sym}
use Prim.Native.Nat.{◌<◌, ◌≤◌, ℕ}
use native.Mathlib.Omega.{arith}
use lib.ListN.{get_or, get_or-replicate, length, length-replicate}
use lib.Seq.{take_all}
use Rattle.octets.specs.Octets.{alike, joined}
use Rattle.octets.specs.Put.{Put}
use Rattle.octets.proofs.FieldLaws.{field_room, put_field, total_alike}
use Rattle.octets.proofs.PutLaws.{put_length, put_none}
use Rattle.octets.proofs.fields.put_alike.Goals as goal
use Rattle.octets.proofs.fields.put_alike.Goals.{In-loop-number, Start}

module _ (s : Start) where
  abbrev widths : List ℕ
  widths = alike (length s.args.numbers.now) s.args.width

  count : length s.args.numbers.now ≡ length widths
  count = sym (length-replicate {A = ℕ} (length s.args.numbers.now) s.args.width)

-- a turn: its field, and the width of it
module _ (c : In-loop-number) where
  abbrev s : Start
  s = (goal.at.In-loop-number c).Start

  abbrev field : ℕ
  field = c.loop-number.number-index

  within : field < length (widths s)
  within = omega (arith, count s, c.loop-number-test.true)

  width_is : get_or (widths s) field 0 ≡ s.args.width
  width_is = get_or-replicate (length s.args.numbers.now) field s.args.width 0 c.loop-number-test.true

pub loop-number-init : goal.loop-number-init
unfolding joined
loop-number-init c = put_none c.args.out.now c.args.at

pub put_number-next-requires : goal.put_number-next-requires
put_number-next-requires c =
    let k = (goal.at.put_number-next-requires c).In-loop-number in
    let a = (s k).args in
    field_room (widths (s k)) a.numbers.now (field k) (within k) (count (s k)) a.width (width_is k) k.loop-number.invariant
    (omega (arith, (s k).requires, total_alike (length a.numbers.now) a.width))

pub loop-number-preserved : goal.loop-number-preserved
loop-number-preserved c =
    let k = (goal.at.loop-number-preserved c).In-loop-number in
    let a = (s k).args in
    put_field (widths (s k)) a.numbers.now (field k) (within k) (count (s k)) a.width (width_is k) k.loop-number.invariant c.put_number-next.ensures

pub shape_of-out : goal.shape_of-out
shape_of-out c = put_length c.loop-number.invariant

pub returns : goal.returns
returns c =
    let s = (goal.at.returns c).Start in
    let end : length s.args.numbers.now ≤ c.loop-number.number-index = omega (arith, c.loop-number-test.false) in
    subst (λ (o : List ℕ). Put s.args.out.now s.args.at o c.loop-number.out c.loop-number.next)
    (λ i. joined (take_all c.loop-number.number-index (widths s) (omega (arith, count s, end)) i) (take_all c.loop-number.number-index s.args.numbers.now end i)) c.loop-number.invariant
